-- The token at the front of a text, by its first byte.
use Rattle.std.proofs.Common.{◌≡◌, ℕ, zero, suc, ◌<◌, ◌≤◌, Bool, true, false, ◌&&◌, not, nat_eq, lit<, List, [], ◌∷◌, length, take, get_or, Some, None, refl, ap, sym, ◌∙◌, arith}
use Rattle.std.specs.Prelude.{if◌then◌else◌}
use Rattle.std.specs.List.{list_all}
use Rattle.std.proofs.lemmas.Bool.Decides.{nat_tests}
use Rattle.std.proofs.lemmas.Bool.{not-true}
use Rattle.std.proofs.Math.Bool.{and-false}
use Rattle.dc_tokens.specs.declared.token.TokenKind.{TokenKind}
use Rattle.dc_tokens.specs.declared.token.TokenKind.TheVariants as k
use Rattle.dc_tokens.specs.Spelling.{is_letter, is_digit, is_word_byte, word_kind, short_sign, long_sign, sign_kind, kind_of}
use Rattle.dc_tokens.specs.Pieces.{NoToken, Longest}

pub and_left : (a b : Bool) → a && b ≡ true → a ≡ true
and_left true b h = refl
and_left false b h = absurd cc

pub and_right : (a b : Bool) → a && b ≡ true → b ≡ true
and_right true b h = h
and_right false b h = absurd cc

letter_no_digit : (b : ℕ) → is_letter b ≡ true → is_digit b ≡ false
letter_no_digit b h = grind (arith, nat_tests)

pub not_equal : (a b : ℕ) → (a ≡ b → ⊥) → nat_eq a b ≡ false
not_equal a b h = grind (arith, nat_tests)

-- a byte that passes a test is none that fails it
pub differs : (p : ℕ → Bool) (b n : ℕ) → p b ≡ true → p n ≡ false → nat_eq b n ≡ false
differs p b n h g = not_equal b n (λ e. let x : true ≡ false = sym h ∙ (ap p e ∙ g) in cc)

-- the bytes with which a sign begins
abbrev pub sign_bytes : List ℕ
sign_bytes = 40 ∷ 41 ∷ 123 ∷ 125 ∷ 91 ∷ 93 ∷ 44 ∷ 59 ∷ 61 ∷ 60 ∷ 62 ∷ 43 ∷ 45 ∷ 42 ∷ 33 ∷ 38 ∷ 124 ∷ []

-- a test that each of these bytes fails
abbrev pub FailsAll : (ℕ → Bool) → List ℕ → Type 0
FailsAll p ns = list_all (λ n. not (p n)) ns ≡ true

fails_one : (p : ℕ → Bool) (ns : List ℕ) → FailsAll p ns → (i : ℕ) → i < length ns → p (get_or ns i 0) ≡ false
fails_one p [] h i l = absurd (omega arith)
fails_one p (n ∷ ns) h zero l = not-true (p n) (and_left (not (p n)) _ h)
fails_one p (n ∷ ns) h (suc i) l = fails_one p ns (and_right (not (p n)) _ h) i (omega arith)

-- a byte with such a test begins no sign
pub no_long : (p : ℕ → Bool) (b c : ℕ) → p b ≡ true → FailsAll p sign_bytes → long_sign b c ≡ None
unfolding long_sign
no_long p b c h g =
    let at : (i : ℕ) → i < 17 → nat_eq b (get_or sign_bytes i 0) ≡ false = λ i l. differs p b (get_or sign_bytes i 0) h (fails_one p sign_bytes g i l) in
    rw (at 8 (lit< tt), at 14 (lit< tt), at 9 (lit< tt), at 10 (lit< tt), at 15 (lit< tt), at 16 (lit< tt)) refl

pub no_short : (p : ℕ → Bool) (b : ℕ) → p b ≡ true → FailsAll p sign_bytes → short_sign b ≡ None
unfolding short_sign
no_short p b h g =
    let at : (i : ℕ) → i < 17 → nat_eq b (get_or sign_bytes i 0) ≡ false = λ i l. differs p b (get_or sign_bytes i 0) h (fails_one p sign_bytes g i l) in
    rw (
      at 0 (lit< tt),
      at 1 (lit< tt),
      at 2 (lit< tt),
      at 3 (lit< tt),
      at 4 (lit< tt),
      at 5 (lit< tt),
      at 6 (lit< tt),
      at 7 (lit< tt),
      at 8 (lit< tt),
      at 9 (lit< tt),
      at 10 (lit< tt),
      at 11 (lit< tt),
      at 12 (lit< tt),
      at 13 (lit< tt),
      at 14 (lit< tt),
    ) refl

pub no_sign : (p : ℕ → Bool) (b : ℕ) → p b ≡ true → FailsAll p sign_bytes → (v : List ℕ) → sign_kind (b ∷ v) ≡ None
no_sign p b h g [] = no_short p b h g
no_sign p b h g (c ∷ []) = no_long p b c h g
no_sign p b h g (c ∷ d ∷ v) = refl

-- ---- the kind of a text, by its first byte

pub word_text : (b : ℕ) (v : List ℕ) → is_letter b ≡ true → kind_of (b ∷ v) ≡ (if list_all is_word_byte v then Some (word_kind (b ∷ v)) else sign_kind (b ∷ v))
unfolding kind_of
word_text b v h = rw (h, letter_no_digit b h) refl

pub number_text : (b : ℕ) (v : List ℕ) → is_letter b ≡ false → is_digit b ≡ true → kind_of (b ∷ v) ≡ (if list_all is_digit v then Some k.Number else sign_kind (b ∷ v))
unfolding kind_of
number_text b v g h = rw (g, h) refl

pub sign_text : (b : ℕ) (v : List ℕ) → is_letter b ≡ false → is_digit b ≡ false → kind_of (b ∷ v) ≡ sign_kind (b ∷ v)
unfolding kind_of
sign_text b v g h = rw (g, h) refl

-- ---- runs

all_below : (p : ℕ → Bool) (w : List ℕ) (n : ℕ) → n ≤ length w → ((i : ℕ) → i < n → p (get_or w i 0) ≡ true) → list_all p (take n w) ≡ true
all_below p w zero l h = refl
all_below p [] (suc n) l h = refl
all_below p (b ∷ w) (suc n) l h = rw (h 0 (omega arith)) (all_below p w n (omega arith) (λ i g. h (suc i) (omega arith)))

not_past : (p : ℕ → Bool) (w : List ℕ) (n m : ℕ) → n < m → n < length w → p (get_or w n 0) ≡ false → list_all p (take m w) ≡ false
not_past p [] n m g l h = absurd (omega arith)
not_past p (b ∷ w) n zero g l h = absurd (omega arith)
not_past p (b ∷ w) zero (suc m) g l h = rw h refl
not_past p (b ∷ w) (suc n) (suc m) g l h = rw (not_past p w n m (omega arith) (omega arith) h) (and-false (p b))

-- a run of bytes that pass a test, where that makes it a token, and where a text that goes on with another byte is none
run_longest : (kind : List ℕ → TokenKind) (p : ℕ → Bool) (b : ℕ) (w : List ℕ) (n : ℕ)
    → ((v : List ℕ) → kind_of (b ∷ v) ≡ (if list_all p v then Some (kind (b ∷ v)) else sign_kind (b ∷ v)))
    → ((v : List ℕ) → sign_kind (b ∷ v) ≡ None)
    → p b ≡ true
    → n ≤ length (b ∷ w) → ((i : ℕ) → i < n → p (get_or (b ∷ w) i 0) ≡ true) → (n < length (b ∷ w) → p (get_or (b ∷ w) n 0) ≡ false)
    → Longest (b ∷ w) n (kind (take n (b ∷ w)))
run_longest kind p b w zero text none first l each stops = absurd (let e : true ≡ false = sym first ∙ stops (omega arith) in cc)
run_longest kind p b w (suc n) text none first l each stops = record {
  within = l;
  spelled = text (take n w) ∙ rw (all_below p w n (omega arith) (λ i g. each (suc i) (omega arith))) refl;
  longest = past;
}
  where
    past : (m : ℕ) → suc n < m → m ≤ length (b ∷ w) → kind_of (take m (b ∷ w)) ≡ None
    past zero g h = absurd (omega arith)
    past (suc m) g h = text (take m w) ∙ rw (not_past p w n m (omega arith) (omega arith) (stops (omega arith))) (none (take m w))

-- ---- what the scanner finds

pub word_longest : (bs : List ℕ) (n : ℕ) → 0 < length bs → is_letter (get_or bs 0 0) ≡ true
    → n ≤ length bs → ((i : ℕ) → i < n → is_word_byte (get_or bs i 0) ≡ true) → (n < length bs → is_word_byte (get_or bs n 0) ≡ false)
    → Longest bs n (word_kind (take n bs))
word_longest [] n z f l e s = absurd (omega arith)
word_longest (b ∷ w) n z f l e s = run_longest word_kind is_word_byte b w n (λ v. word_text b v f)
    (no_sign is_letter b f refl)
    (rw f refl) l e s

pub number_longest : (bs : List ℕ) (n : ℕ) → 0 < length bs → is_letter (get_or bs 0 0) ≡ false → is_digit (get_or bs 0 0) ≡ true
    → n ≤ length bs → ((i : ℕ) → i < n → is_digit (get_or bs i 0) ≡ true) → (n < length bs → is_digit (get_or bs n 0) ≡ false) → Longest bs n k.Number
number_longest [] n z g f l e s = absurd (omega arith)
number_longest (b ∷ w) n z g f l e s = run_longest (λ _. k.Number) is_digit b w n (λ v. number_text b v g f)
    (no_sign is_digit b f refl)
    f l e s

-- what is spelled with three bytes or more is no sign
three : (w : List ℕ) (m : ℕ) → 2 ≤ m → m ≤ length w → (a : ℕ) → sign_kind (a ∷ take m w) ≡ None
three [] m g l a = absurd (omega arith)
three (b ∷ w) zero g l a = absurd (omega arith)
three (b ∷ w) (suc zero) g l a = absurd (omega arith)
three (b ∷ []) (suc (suc m)) g l a = absurd (omega arith)
three (b ∷ c ∷ w) (suc (suc m)) g l a = refl

pub long_longest : (bs : List ℕ) (kind : TokenKind) → is_letter (get_or bs 0 0) ≡ false → is_digit (get_or bs 0 0) ≡ false
    → 1 < length bs → long_sign (get_or bs 0 0) (get_or bs 1 0) ≡ Some kind → Longest bs 2 kind
long_longest [] kind g h l e = absurd (omega arith)
long_longest (a ∷ []) kind g h l e = absurd (omega arith)
long_longest (a ∷ b ∷ w) kind g h l e = record { within = omega arith; spelled = sign_text a (b ∷ []) g h ∙ e; longest = past }
  where
    past : (m : ℕ) → 2 < m → m ≤ length (a ∷ b ∷ w) → kind_of (take m (a ∷ b ∷ w)) ≡ None
    past zero i j = absurd (omega arith)
    past (suc m) i j = sign_text a (take m (b ∷ w)) g h ∙ three (b ∷ w) m (omega arith) (omega arith) a

-- the fronts of two bytes and more, where the first two are no sign
no_longer : (a : ℕ) (w : List ℕ) → is_letter a ≡ false → is_digit a ≡ false → (1 < length (a ∷ w) → long_sign a (get_or (a ∷ w) 1 0) ≡ None)
    → (m : ℕ) → 1 < m → m ≤ length (a ∷ w) → kind_of (take m (a ∷ w)) ≡ None
no_longer a w g h f zero i j = absurd (omega arith)
no_longer a w g h f (suc zero) i j = absurd (omega arith)
no_longer a [] g h f (suc (suc m)) i j = absurd (omega arith)
no_longer a (b ∷ w) g h f (suc (suc zero)) i j = sign_text a (b ∷ []) g h ∙ f (omega arith)
no_longer a (b ∷ w) g h f (suc (suc (suc m))) i j = sign_text a (take (suc (suc m)) (b ∷ w)) g h ∙ three (b ∷ w) (suc (suc m)) (omega arith) (omega arith) a

pub short_longest : (bs : List ℕ) (kind : TokenKind) → is_letter (get_or bs 0 0) ≡ false → is_digit (get_or bs 0 0) ≡ false → 0 < length bs
    → (1 < length bs → long_sign (get_or bs 0 0) (get_or bs 1 0) ≡ None) → short_sign (get_or bs 0 0) ≡ Some kind → Longest bs 1 kind
short_longest [] kind g h l f e = absurd (omega arith)
short_longest (a ∷ w) kind g h l f e = record { within = omega arith; spelled = sign_text a [] g h ∙ e; longest = no_longer a w g h f }

pub no_token : (bs : List ℕ) → is_letter (get_or bs 0 0) ≡ false → is_digit (get_or bs 0 0) ≡ false → 0 < length bs
    → (1 < length bs → long_sign (get_or bs 0 0) (get_or bs 1 0) ≡ None) → short_sign (get_or bs 0 0) ≡ None → NoToken bs
unfolding kind_of
no_token [] g h l f e m i = absurd (omega arith)
no_token (a ∷ w) g h l f e zero i = refl
no_token (a ∷ w) g h l f e (suc zero) i = sign_text a [] g h ∙ e
no_token (a ∷ w) g h l f e (suc (suc m)) i = no_longer a w g h f (suc (suc m)) (omega arith) i
