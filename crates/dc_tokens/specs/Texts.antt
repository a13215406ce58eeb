-- The tokens of a whole text, and what is wrong first.
use Rattle.std.specs.Prelude.{◌≡◌, ℕ, ◌<◌, ◌≤◌, ◌+◌, List, [], ◌∷◌, length, drop, Option, Some, None, ◌⊎◌}
use Rattle.dc_tokens.specs.declared.token.Token.{Token}
use Rattle.dc_tokens.specs.declared.token.LexFault.{LexFault}
use Rattle.dc_tokens.specs.declared.token.LexFault.TheVariants.{NotAscii, BadCharacter, LiteralTooWide, NoMemory}
use Rattle.dc_tokens.specs.Pieces.{Piece, Wrong}

abbrev pub with_token : Option Token → List Token → List Token
with_token None ts = ts
with_token (Some t) ts = t ∷ ts

-- the tokens of a text whose first byte stands at an offset of the whole: it is pieces, one after
-- another
pub data Tokens : ℕ → List ℕ → List Token → Type 0 where
  end : {at : ℕ} → Tokens at [] []
  piece : {at n : ℕ} {bs : List ℕ} {found : Option Token} {ts : List Token} → 0 < length bs
      → Piece at bs found n → Tokens (at + n) (drop n bs) ts
      → Tokens at bs (with_token found ts)

-- what is wrong first: something is wrong after a number of pieces
pub data Fails : ℕ → List ℕ → LexFault → Type 0 where
  here : {at : ℕ} {bs : List ℕ} {f : LexFault} → Wrong at bs f → Fails at bs f
  after : {at n : ℕ} {bs : List ℕ} {found : Option Token} {f : LexFault} → Piece at bs found n
      → Fails (at + n) (drop n bs) f → Fails at bs f

-- the cause of each fault: want of memory has none in the text
abbrev pub IsCause : List ℕ → LexFault → Type 0
IsCause bs NoMemory = Unit {0}
IsCause bs (NotAscii p) = Fails 0 bs (NotAscii p)
IsCause bs (BadCharacter p) = Fails 0 bs (BadCharacter p)
IsCause bs (LiteralTooWide p) = Fails 0 bs (LiteralTooWide p)

-- the tokens stand one after another, none empty, from one offset up to another
abbrev pub IsRising : ℕ → ℕ → List Token → Type 0
IsRising from to [] = from ≤ to
IsRising from to (t ∷ ts) = (from ≤ t.at) × (t.at < t.end) × IsRising t.end to ts

-- a text has its tokens, or what is wrong first: one of both, and one answer
pub record HasOneReading (bs : List ℕ) : Type 0 where
  pub some : ((ts : List Token) × Tokens 0 bs ts) ⊎ ((f : LexFault) × Fails 0 bs f)
  pub one_list : (ts us : List Token) → Tokens 0 bs ts → Tokens 0 bs us → ts ≡ us
  pub one_fault : (f g : LexFault) → Fails 0 bs f → Fails 0 bs g → f ≡ g
  pub not_both : (ts : List Token) (f : LexFault) → Tokens 0 bs ts → Fails 0 bs f → ⊥
