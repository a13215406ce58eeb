-- What stands at the front of a text: a separator, a comment or a token, or what is wrong there.
use Rattle.std.specs.Prelude.{◌≡◌, ℕ, ◌<◌, ◌≤◌, ◌+◌, Bool, true, false, not, ◌||◌, ◌&&◌, nat_eq, nat_lt, List, [], ◌∷◌, length, take, slice_index, Option, Some, None}
use Rattle.dc_tokens.specs.declared.token.TokenKind.{TokenKind}
use Rattle.dc_tokens.specs.declared.token.TokenKind.TheVariants as k
use Rattle.dc_tokens.specs.declared.token.Token.{Token}
use Rattle.dc_tokens.specs.declared.token.LexFault.{LexFault}
use Rattle.dc_tokens.specs.declared.token.LexFault.TheVariants.{NotAscii, BadCharacter, LiteralTooWide}
use Rattle.dc_tokens.specs.Spelling.{kind_of, value_of, number_value}

-- space, tab, CR, LF
abbrev pub is_separator : ℕ → Bool
is_separator b = nat_eq b 32 || nat_eq b 9 || nat_eq b 13 || nat_eq b 10

-- ---- tokens

-- no front of the text is a token
abbrev pub NoToken : List ℕ → Type 0
NoToken bs = (m : ℕ) → m ≤ length bs → kind_of (take m bs) ≡ None

-- the first n bytes are a token of this kind, and no longer front is a token
pub record Longest (bs : List ℕ) (n : ℕ) (kind : TokenKind) : Type 0 where
  pub within : n ≤ length bs
  pub spelled : kind_of (take n bs) ≡ Some kind
  pub longest : (m : ℕ) → n < m → m ≤ length bs → kind_of (take m bs) ≡ None

-- ---- comments

-- the text begins with `//`
abbrev pub BeginsComment : List ℕ → Type 0
BeginsComment bs = take 2 bs ≡ 47 ∷ 47 ∷ []

-- a byte below 128 that ends no line
abbrev pub is_comment_byte : ℕ → Bool
is_comment_byte b = nat_lt b 128 && not (nat_eq b 10)

-- the first n bytes begin with `//`, and the others of them may stand in a comment
pub record IsCommentFront (bs : List ℕ) (n : ℕ) : Type 0 where
  pub slashes : BeginsComment bs
  pub long : 2 ≤ n
  pub within : n ≤ length bs
  pub inside : (i : ℕ) → 2 ≤ i → i < n → is_comment_byte (slice_index bs i) ≡ true

-- a comment: it goes up to the end of its line, or of the text
pub record IsComment (bs : List ℕ) (n : ℕ) : Type 0 where
  pub front : IsCommentFront bs n
  pub ends : n < length bs → slice_index bs n ≡ 10

-- a comment in which a byte of 128 or more follows the first n
pub record IsBadComment (bs : List ℕ) (n : ℕ) : Type 0 where
  pub front : IsCommentFront bs n
  pub more : n < length bs
  pub high : 128 ≤ slice_index bs n

-- ---- pieces

-- the text begins with a piece of n bytes, at an offset of the whole; a token is told
pub data Piece : ℕ → List ℕ → Option Token → ℕ → Type 0 where
  separator : {at b : ℕ} {bs : List ℕ} → is_separator b ≡ true → Piece at (b ∷ bs) None 1
  comment : {at n : ℕ} {bs : List ℕ} → IsComment bs n → Piece at bs None n
  token : {at n : ℕ} {bs : List ℕ} {kind : TokenKind} → Longest bs n kind
      → value_of kind (take n bs) ≤ 2147483647
      → Piece at bs (Some (record {
        kind = kind;
        at = at;
        end = at + n;
        value = value_of kind (take n bs);
      })) n

-- what is wrong at the front of a text, and where
pub data Wrong : ℕ → List ℕ → LexFault → Type 0 where
  not_ascii : {at b : ℕ} {bs : List ℕ} → 128 ≤ b → Wrong at (b ∷ bs) (NotAscii at)
  not_ascii_in_comment : {at n : ℕ} {bs : List ℕ} → IsBadComment bs n
      → Wrong at bs (NotAscii (at + n))
  -- no separator, no comment and no token
  bad_character : {at b : ℕ} {bs : List ℕ} → b < 128 → is_separator b ≡ false
      → (BeginsComment (b ∷ bs) → ⊥) → NoToken (b ∷ bs) → Wrong at (b ∷ bs) (BadCharacter at)
  too_wide : {at n : ℕ} {bs : List ℕ} → Longest bs n k.Number
      → 2147483647 < number_value (take n bs) → Wrong at bs (LiteralTooWide at)
