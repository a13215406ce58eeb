-- A text that has tokens is ASCII.
use Rattle.std.proofs.Common.{◌≡◌, ℕ, zero, suc, ◌<◌, ◌≤◌, Bool, true, false, nat_eq, nat_le, List, [], ◌∷◌, take, drop, get_or, Option, Some, None, refl, sym, ◌∙◌, subst, arith, length-take, take-append-drop}
use Rattle.std.specs.Prelude.{if◌then◌else◌}
use Rattle.std.specs.List.{list_all}
use Rattle.std.specs.Str.{IsAscii}
use Rattle.std.proofs.lemmas.Bool.Decides.{nat_tests}
use Rattle.std.proofs.lemmas.List.{get_or-take}
use Rattle.std.proofs.lemmas.Str.{IsAscii-append}
use Rattle.std.proofs.lemmas.Str.Ascii.{IsAscii-nil, IsAscii-cons, IsAscii-from_reads}
use Rattle.std.proofs.Math.Bool.{and-false}
use Rattle.dc_tokens.specs.declared.token.TokenKind.{TokenKind}
use Rattle.dc_tokens.specs.declared.token.TokenKind.TheVariants as k
use Rattle.dc_tokens.specs.declared.token.Token.{Token}
use Rattle.dc_tokens.specs.Spelling.{is_letter, is_digit, is_word_byte, word_kind, short_sign, long_sign, sign_kind, kind_of}
use Rattle.dc_tokens.specs.Pieces.{is_separator, is_comment_byte, BeginsComment, IsComment, Piece, separator, comment, token}
use Rattle.dc_tokens.specs.Texts.{Tokens, end, piece}
use Rattle.dc_tokens.proofs.Front.{and_left, and_right, not_equal, no_short, no_long, word_text, number_text, sign_text}

low_or_high : (b : ℕ) (t : Bool) → nat_le 128 b ≡ t → (t ≡ true → ⊥) → b < 128
low_or_high b true e h = absurd (h refl)
low_or_high b false e h = grind (arith, nat_tests)

is_high : ℕ → Bool
is_high b = nat_le 128 b

some_none : {A : Type 0} {o : Option A} {a : A} → o ≡ Some a → o ≡ None → ⊥
some_none e h = cc

short_low : (b : ℕ) (kind : TokenKind) → short_sign b ≡ Some kind → b < 128
unfolding is_high
short_low b kind e = low_or_high b (nat_le 128 b) refl (λ h. some_none e (no_short is_high b h refl))

no_second : (a b : ℕ) → 128 ≤ b → long_sign a b ≡ None
unfolding long_sign
no_second a b h =
    let differs : (n : ℕ) → n < 128 → nat_eq b n ≡ false = λ n l. not_equal b n (λ e. absurd (omega arith)) in
    rw (
      differs 61 (omega arith),
      differs 38 (omega arith),
      differs 124 (omega arith),
      and-false (nat_eq a 61),
      and-false (nat_eq a 33),
      and-false (nat_eq a 60),
      and-false (nat_eq a 62),
      and-false (nat_eq a 38),
      and-false (nat_eq a 124),
    ) refl

high_of : (b : ℕ) → nat_le 128 b ≡ true → 128 ≤ b
high_of b h = grind (arith, nat_tests)

long_low : (a b : ℕ) (kind : TokenKind) → long_sign a b ≡ Some kind → (a < 128) × (b < 128)
unfolding is_high
long_low a b kind e = (
  low_or_high a (nat_le 128 a) refl (λ h. some_none e (no_long is_high a b h refl)),
  low_or_high b (nat_le 128 b) refl (λ h. some_none e (no_second a b (high_of b h))),
)

sign_low : (w : List ℕ) (kind : TokenKind) → sign_kind w ≡ Some kind → IsAscii w
sign_low [] kind e = cc
sign_low (a ∷ []) kind e = IsAscii-cons a [] (short_low a kind e) IsAscii-nil
sign_low (a ∷ b ∷ []) kind e = let l = long_low a b kind e in IsAscii-cons a (b ∷ []) l.0 (IsAscii-cons b [] l.1 IsAscii-nil)
sign_low (a ∷ b ∷ c ∷ w) kind e = cc

letter_low : (b : ℕ) → is_letter b ≡ true → b < 128
letter_low b h = grind (arith, nat_tests)

digit_low : (b : ℕ) → is_digit b ≡ true → b < 128
digit_low b h = grind (arith, nat_tests)

word_byte_low : (b : ℕ) → is_word_byte b ≡ true → b < 128
word_byte_low b h = grind (arith, nat_tests)

all_low : (p : ℕ → Bool) → ((b : ℕ) → p b ≡ true → b < 128) → (v : List ℕ) → list_all p v ≡ true → IsAscii v
all_low p each [] h = IsAscii-nil
all_low p each (b ∷ v) h = IsAscii-cons b v (each b (and_left (p b) (list_all p v) h)) (all_low p each v (and_right (p b) (list_all p v) h))

-- a run, or else a sign
run_low : (p : ℕ → Bool) → ((b : ℕ) → p b ≡ true → b < 128) → (b : ℕ) (v : List ℕ) (j kind : TokenKind) → b < 128
    → (if list_all p v then Some j else sign_kind (b ∷ v)) ≡ Some kind → IsAscii (b ∷ v)
run_low p each b v j kind l e = go (list_all p v) refl e
  where
    go : (t : Bool) → list_all p v ≡ t → (if t then Some j else sign_kind (b ∷ v)) ≡ Some kind → IsAscii (b ∷ v)
    go true h e = IsAscii-cons b v l (all_low p each v h)
    go false h e = sign_low (b ∷ v) kind e

spelled_low : (w : List ℕ) (kind : TokenKind) → kind_of w ≡ Some kind → IsAscii w
spelled_low [] kind e = IsAscii-nil
spelled_low (b ∷ v) kind e = go (is_letter b) refl (is_digit b) refl
  where
    go : (s : Bool) → is_letter b ≡ s → (t : Bool) → is_digit b ≡ t → IsAscii (b ∷ v)
    go true f t g = run_low is_word_byte word_byte_low b v (word_kind (b ∷ v)) kind (letter_low b f) (sym (word_text b v f) ∙ e)
    go false f true g = run_low is_digit digit_low b v k.Number kind (digit_low b g) (sym (number_text b v f g) ∙ e)
    go false f false g = sign_low (b ∷ v) kind (sym (sign_text b v f g) ∙ e)

separator_low : (b : ℕ) → is_separator b ≡ true → b < 128
separator_low b h = grind (arith, nat_tests)

comment_byte_low : (b : ℕ) → is_comment_byte b ≡ true → b < 128
comment_byte_low b h = grind (arith, nat_tests)

slashes_are : (bs : List ℕ) → BeginsComment bs → (get_or bs 0 0 ≡ 47) × (get_or bs 1 0 ≡ 47)
slashes_are [] h = cc
slashes_are (b ∷ []) h = cc
slashes_are (b ∷ c ∷ w) h = (cc, cc)

comment_low : (bs : List ℕ) (n : ℕ) → IsComment bs n → (i : ℕ) → i < n → get_or bs i 0 < 128
comment_low bs n h zero l = omega (arith, (slashes_are bs h.front.slashes).0)
comment_low bs n h (suc zero) l = omega (arith, (slashes_are bs h.front.slashes).1)
comment_low bs n h (suc (suc i)) l = comment_byte_low (get_or bs (suc (suc i)) 0) (h.front.inside (suc (suc i)) (omega arith) l)

piece_low : {at n : ℕ} {bs : List ℕ} {o : Option Token} → Piece at bs o n → IsAscii (take n bs)
piece_low (separator {b = b} h) = IsAscii-cons b [] (separator_low b h) IsAscii-nil
piece_low (comment {n = n} {bs = bs} h) = IsAscii-from_reads (take n bs) n (omega (arith, length-take n bs)) (λ i l. omega (arith, get_or-take n bs i 0 l, comment_low bs n h i l))
piece_low (token {n = n} {bs = bs} {kind = kind} l v) = spelled_low (take n bs) kind l.spelled

pub only_ascii : {at : ℕ} {bs : List ℕ} {ts : List Token} → Tokens at bs ts → IsAscii bs
only_ascii end = IsAscii-nil
only_ascii (piece {n = n} {bs = bs} l p d) = subst IsAscii (take-append-drop n bs) (IsAscii-append (take n bs) (drop n bs) (piece_low p) (only_ascii d))
