-- The brackets of a text, and of tokens.
use Rattle.std.specs.Prelude.{ℕ, ◌+◌, Bool, ◌||◌, nat_eq, if◌then◌else◌, List, [], ◌∷◌, ◌++◌}
use Rattle.dc_tokens.specs.declared.token.TokenKind.{TokenKind}
use Rattle.dc_tokens.specs.declared.token.TokenKind.TheVariants as k
use Rattle.dc_tokens.specs.declared.token.Token.{Token}

-- ( ) [ ] { }
abbrev pub is_bracket : ℕ → Bool
is_bracket b =
    nat_eq b 40 || (nat_eq b 41 || (nat_eq b 91 || (nat_eq b 93 || (nat_eq b 123 || nat_eq b 125))))

-- the brackets among the bytes of a text
abbrev pub brackets_of : List ℕ → List ℕ
brackets_of [] = []
brackets_of (b ∷ t) = if is_bracket b then b ∷ brackets_of t else brackets_of t

abbrev pub bracket_of : TokenKind → List ℕ
bracket_of k.LParen = 40 ∷ []
bracket_of k.RParen = 41 ∷ []
bracket_of k.LBracket = 91 ∷ []
bracket_of k.RBracket = 93 ∷ []
bracket_of k.LBrace = 123 ∷ []
bracket_of k.RBrace = 125 ∷ []
bracket_of _ = []

-- the brackets among tokens
abbrev pub brackets_in : List Token → List ℕ
brackets_in [] = []
brackets_in (t ∷ ts) = bracket_of t.kind ++ brackets_in ts

-- how many `(` and `[` are among them
abbrev pub counts : ℕ → ℕ
counts b = if nat_eq b 40 || nat_eq b 91 then 1 else 0

abbrev pub opened : List ℕ → ℕ
opened [] = 0
opened (b ∷ t) = counts b + opened t
