-- How deep the tokens of the language nest.
use Rattle.std.specs.Prelude.{ℕ, ◌+◌, ◌-◌, ◌<◌, ◌⊎◌, List, [], ◌∷◌, fold, if◌then◌else◌}
use Rattle.dc_tokens.specs.declared.token.TokenKind.{TokenKind}
use Rattle.dc_tokens.specs.declared.token.TokenKind.TheVariants as k
use Rattle.dc_tokens.specs.declared.token.Token.{Token}
use Rattle.dc_grammar.specs.Grammar.{has}
use Rattle.dc_grammar.specs.Kinds.{is}

abbrev pub opening : List TokenKind
opening = k.LParen ∷ k.LBracket ∷ k.LBrace ∷ []

abbrev pub closing : List TokenKind
closing = k.RParen ∷ k.RBracket ∷ k.RBrace ∷ []

abbrev pub operators : List TokenKind
operators = k.Plus ∷ k.Minus ∷ k.Star ∷ k.Bang ∷ k.And ∷ k.Or ∷ []

-- the other tokens of which expressions and conditions are made
abbrev pub operands : List TokenKind
operands =
    k.Number ∷ k.Name ∷ k.True ∷ k.False ∷ k.LParen ∷ k.RParen ∷ k.LBracket ∷ k.RBracket ∷ k.Eq
    ∷ k.Ne ∷ k.Lt ∷ k.Le ∷ k.Gt ∷ k.Ge ∷ []

abbrev pub brackets_with : ℕ → Token → ℕ
brackets_with n t =
    if has is opening t.kind then n + 1 else (if has is closing t.kind then n - 1 else n)

-- the brackets that are open after these tokens
unfoldable pub open_brackets : List Token → ℕ
open_brackets = fold brackets_with 0

abbrev pub operators_with : ℕ → Token → ℕ
operators_with n t =
    if has is operators t.kind then n + 1 else (if has is operands t.kind then n else 0)

-- the operators since the last token that stands in no expression and no condition
unfoldable pub operators_so_far : List Token → ℕ
operators_so_far = fold operators_with 0

-- more than 64 brackets are open, or more than 64 operators stand in one expression or condition
abbrev pub IsDeep : List Token → Type 0
IsDeep ts = (64 < open_brackets ts) ⊎ (64 < operators_so_far ts)
