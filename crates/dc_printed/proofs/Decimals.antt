-- The digits that a number is written with are a token of its value.
use Rattle.std.proofs.Common.{◌≡◌, ℕ, ◌+◌, ◌-◌, ◌*◌, ◌/◌, ◌%◌, ◌^◌, ◌<◌, ◌≤◌, true, List, [], ◌∷◌, ◌++◌, length, refl, ◌∙◌, arith, length-append}
use Rattle.std.specs.Prelude.{fold}
use Rattle.std.specs.List.{list_all}
use Rattle.std.specs.Fmt.{decimal}
use Rattle.std.proofs.lemmas.Bool.Decides.{nat_tests}
use Rattle.std.proofs.lemmas.Fmt.{decimal_by_steps}
use Rattle.dc_tokens.specs.Spelling.{is_digit, is_number, number_value}

abbrev pub next : ℕ → ℕ → ℕ
next n b = n * 10 + (b - 48)

record Digits (m : ℕ) (ds : List ℕ) : Type 0 where
  some : 0 < length ds
  digits : list_all is_digit ds ≡ true
  value : fold next 0 ds ≡ m

a_digit : (m : ℕ) → m < 10 → is_digit (48 + m) ≡ true
a_digit m h = grind (arith, nat_tests)

last_digit : (n : ℕ) (ds : List ℕ) (b : ℕ) → fold next n (ds ++ b ∷ []) ≡ fold next n ds * 10 + (b - 48)
last_digit n [] b = refl
last_digit n (c ∷ ds) b = last_digit (next n c) ds b

all_digits : (ds : List ℕ) (b : ℕ) → list_all is_digit ds ≡ true → is_digit b ≡ true → list_all is_digit (ds ++ b ∷ []) ≡ true
all_digits [] b h g = rw g refl
all_digits (c ∷ ds) b h g = grind (arith, all_digits ds b, nat_tests)

one_digit : (m : ℕ) → m < 10 → Digits m ((48 + m) ∷ [])
one_digit m l = record { some = omega arith; digits = rw (a_digit m l) refl; value = omega arith }

more_digits : (m : ℕ) (ds : List ℕ) → 10 ≤ m → Digits (m / 10) ds → Digits m (ds ++ (48 + m % 10) ∷ [])
more_digits m ds l h = record {
  some = (let k = length-append ds ((48 + m % 10) ∷ []) in omega arith);
  digits = all_digits ds (48 + m % 10) h.digits (a_digit (m % 10) (omega arith));
  value = last_digit 0 ds (48 + m % 10) ∙ (let v = h.value in omega arith);
}

number_spelled : (ds : List ℕ) → 0 < length ds → list_all is_digit ds ≡ true → is_number ds ≡ true
number_spelled [] s h = absurd (omega arith)
number_spelled (b ∷ ds) s h = h

decimals : (n : ℕ) → n < 2 ^ 64 → Digits n (decimal n)
decimals n h = decimal_by_steps Digits one_digit more_digits n h

pub is_number-decimal : (n : ℕ) → n < 2 ^ 64 → is_number (decimal n) ≡ true
is_number-decimal n h = let d = decimals n h in number_spelled (decimal n) d.some d.digits

pub number_value-decimal : (n : ℕ) → n < 2 ^ 64 → number_value (decimal n) ≡ n
number_value-decimal n h = (decimals n h).value
