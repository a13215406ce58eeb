-- One turn of the loop over the pieces of a text.
use Rattle.std.proofs.Common.{◌≡◌, ℕ, ◌+◌, ◌<◌, ◌≤◌, List, [], ◌∷◌, ◌++◌, length, drop, Option, Some, None, sym, ◌∙◌, ap, subst, arith, length-drop, append_assoc, append-nil}
use Rattle.dc_tokens.specs.declared.token.Token.{Token}
use Rattle.dc_tokens.specs.declared.token.LexFault.{LexFault}
use Rattle.dc_tokens.specs.declared.token.LexFault.TheVariants.{NotAscii, BadCharacter, LiteralTooWide, NoMemory}
use Rattle.dc_tokens.specs.Pieces.{Piece, separator, comment, token, Wrong}
use Rattle.dc_tokens.specs.Texts.{with_token, Tokens, end, piece, Fails, here, after, IsCause, IsRising}
use Rattle.dc_tokens.proofs.Readings.{piece_some}

pub end_at : (at : ℕ) (bs : List ℕ) → length bs ≤ 0 → Tokens at bs []
end_at at [] l = end
end_at at (b ∷ bs) l = absurd (omega arith)

one_list : (found : List Token) (o : Option Token) (ts : List Token) → (found ++ with_token o []) ++ ts ≡ found ++ with_token o ts
one_list found None ts = ap (λ v. v ++ ts) (append-nil found)
one_list found (Some t) ts = append_assoc found (t ∷ []) ts

pub found_more : {at n : ℕ} {bs rest whole : List ℕ} {o : Option Token} (found now : List Token) → 0 < length bs → Piece at bs o n → rest ≡ drop n bs
    → now ≡ found ++ with_token o []
    → ((ts : List Token) → Tokens at bs ts → Tokens 0 whole (found ++ ts))
    → (ts : List Token) → Tokens (at + n) rest ts → Tokens 0 whole (now ++ ts)
found_more {at} {n} {bs} {rest} {whole} {o} found now l p e m h ts d =
    subst (Tokens 0 whole) (sym (ap (λ v. v ++ ts) m ∙ one_list found o ts)) (h (with_token o ts) (piece l p (subst (λ v. Tokens (at + n) v ts) e d)))

pub fails_later : {at n : ℕ} {bs rest whole : List ℕ} {o : Option Token} → Piece at bs o n → rest ≡ drop n bs
    → ((f : LexFault) → Fails at bs f → Fails 0 whole f)
    → (f : LexFault) → Fails (at + n) rest f → Fails 0 whole f
fails_later {at} {n} p e h f d = h f (after p (subst (λ v. Fails (at + n) v f) e d))

pub cause : {at : ℕ} {bs whole : List ℕ} → ((f : LexFault) → Fails at bs f → Fails 0 whole f) → (f : LexFault) → Wrong at bs f → IsCause whole f
cause h (NotAscii p) w = h (NotAscii p) (here w)
cause h (BadCharacter p) w = h (BadCharacter p) (here w)
cause h (LiteralTooWide p) w = h (LiteralTooWide p) (here w)
cause h NoMemory w = tt

-- ---- tokens stand one after another

lower : (from start to : ℕ) (ts : List Token) → from ≤ start → IsRising start to ts → IsRising from to ts
lower from start to [] l h = omega arith
lower from start to (t ∷ ts) l h = (omega (arith, h.0), h.1, h.2)

with_piece : {at n : ℕ} {bs : List ℕ} {o : Option Token} (to : ℕ) (ts : List Token) → Piece at bs o n → IsRising (at + n) to ts → IsRising at to (with_token o ts)
with_piece {at} {n} to ts (separator h) r = lower at (at + n) to ts (omega arith) r
with_piece {at} {n} to ts (comment h) r = lower at (at + n) to ts (omega arith) r
with_piece {at} {n} to ts (token l v) r = (omega arith, omega (arith, (piece_some (token {at = at} l v)).0), r)

pub rising : {at : ℕ} {bs : List ℕ} {ts : List Token} (to : ℕ) → Tokens at bs ts → to ≡ at + length bs → IsRising at to ts
rising to end e = omega arith
rising to (piece {at} {n} {bs} {found = o} {ts} l p d) e = with_piece to ts p (rising to d (omega (arith, length-drop n bs, (piece_some p).1)))
