-- Pieces and faults at the front of a text, as the scanner finds them.
use Rattle.std.proofs.Common.{◌≡◌, ℕ, ◌+◌, ◌<◌, ◌≤◌, true, false, List, [], ◌∷◌, length, take, get_or, Some, None, sym, subst, arith}
use Rattle.std.proofs.lemmas.Bool.Decides.{nat_tests}
use Rattle.dc_tokens.specs.declared.token.TokenKind.{TokenKind}
use Rattle.dc_tokens.specs.declared.token.TokenKind.TheVariants as k
use Rattle.dc_tokens.specs.declared.token.LexFault.TheVariants.{NotAscii, BadCharacter, LiteralTooWide}
use Rattle.dc_tokens.specs.Spelling.{value_of, number_value}
use Rattle.dc_tokens.specs.Pieces.{is_separator, NoToken, Longest, BeginsComment, is_comment_byte, IsCommentFront, Piece, separator, comment, token, Wrong, not_ascii, not_ascii_in_comment, bad_character, too_wide}

pub high_at : (at : ℕ) (bs : List ℕ) → 0 < length bs → 128 ≤ get_or bs 0 0 → Wrong at bs (NotAscii at)
high_at at [] l h = absurd (omega arith)
high_at at (b ∷ bs) l h = not_ascii h

pub separator_at : (at : ℕ) (bs : List ℕ) → 0 < length bs → is_separator (get_or bs 0 0) ≡ true → Piece at bs None 1
separator_at at [] l h = absurd (omega arith)
separator_at at (b ∷ bs) l h = separator h

pub bad_at : (at : ℕ) (bs : List ℕ) → 0 < length bs → get_or bs 0 0 < 128 → is_separator (get_or bs 0 0) ≡ false → (BeginsComment bs → ⊥) → NoToken bs → Wrong at bs (BadCharacter at)
bad_at at [] l h g c n = absurd (omega arith)
bad_at at (b ∷ bs) l h g c n = bad_character h g c n

-- a byte that no comment holds, and that ends no line
pub high_byte : (b : ℕ) → is_comment_byte b ≡ false → (b ≡ 10 → ⊥) → 128 ≤ b
high_byte b h g = grind (arith, nat_tests)

pub bad_comment_at : (at : ℕ) (bs : List ℕ) (n : ℕ) → IsCommentFront bs n → n < length bs → is_comment_byte (get_or bs n 0) ≡ false → (get_or bs n 0 ≡ 10 → ⊥) → Wrong at bs (NotAscii (at + n))
bad_comment_at at bs n f l h g = not_ascii_in_comment (record { front = f; more = l; high = high_byte (get_or bs n 0) h g })

pub comment_at : (at : ℕ) (bs : List ℕ) (n : ℕ) → IsCommentFront bs n → (n < length bs → get_or bs n 0 ≡ 10) → Piece at bs None n
comment_at at bs n f e = comment (record { front = f; ends = e })

pub token_at : (at n : ℕ) (bs : List ℕ) (kind : TokenKind) (v : ℕ) → Longest bs n kind → v ≡ value_of kind (take n bs) → v ≤ 2147483647
    → Piece at bs (Some (record { kind = kind; at = at; end = at + n; value = v })) n
token_at at n bs kind v l e h =
    subst (λ x. Piece at bs (Some (record { kind = kind; at = at; end = at + n; value = x })) n) (sym e) (token l (subst (λ x. x ≤ 2147483647) e h))

pub wide_at : (at n : ℕ) (bs : List ℕ) (kind : TokenKind) → Longest bs n kind → kind ≡ k.Number → 2147483647 < number_value (take n bs) → Wrong at bs (LiteralTooWide at)
wide_at at n bs kind l e h = too_wide (subst (Longest bs n) e l) h
