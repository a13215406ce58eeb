-- Brackets in pairs, and those that stay open.
use Rattle.std.specs.Prelude.{◌≡◌, false, true, List, [], ◌∷◌, length}
use Rattle.dc_tokens.specs.declared.token.TokenKind.{TokenKind}
use Rattle.dc_tokens.specs.declared.token.TokenKind.TheVariants as k
use Rattle.dc_tokens.specs.declared.token.Token.{Token}
use Rattle.dc_grammar.specs.Grammar.{has, Viable}
use Rattle.dc_grammar.specs.Kinds.{is}
use Rattle.dc_grammar.specs.Language.{Name, language}
use Rattle.dc_grammar.specs.Depth.{opening, closing, open_brackets}

-- the second kind closes the first
pub data Pair : TokenKind → TokenKind → Type 0 where
  parens : Pair k.LParen k.RParen
  squares : Pair k.LBracket k.RBracket
  braces : Pair k.LBrace k.RBrace

-- from these open brackets, the last one first, the tokens lead to those: each closing bracket
-- closes the last one that is open
pub data Nests : List TokenKind → List Token → List TokenKind → Type 0 where
  nothing : {s : List TokenKind} → Nests s [] s
  opens : {s u : List TokenKind} {t : Token} {ts : List Token} → has is opening t.kind ≡ true
      → Nests (t.kind ∷ s) ts u → Nests s (t ∷ ts) u
  closes : {s u : List TokenKind} {j : TokenKind} {t : Token} {ts : List Token} → Pair j t.kind
      → Nests s ts u → Nests (j ∷ s) (t ∷ ts) u
  passes : {s u : List TokenKind} {t : Token} {ts : List Token} → has is opening t.kind ≡ false
      → has is closing t.kind ≡ false
      → Nests s ts u → Nests s (t ∷ ts) u

-- in what begins a text each closing bracket closes the last one that is open, and the scan counts
-- those that stay open
abbrev pub CountsOpen : Type 0
CountsOpen = (x : Name) (ts : List Token) → Viable language x ts
    → (open_ones : List TokenKind) × Nests [] ts open_ones × (open_brackets ts ≡ length open_ones)
