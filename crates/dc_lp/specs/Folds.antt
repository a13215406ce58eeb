-- Sums of products of whole numbers with fractions, in 128 bits.
use Rattle.std.specs.Prelude.{◌≡◌, ℕ, zero, suc, ℤ, pos, true, ◌&&◌, cond, if◌then◌else◌, List, map, Bool, Option, Some, None}
use Rattle.std.specs.Option.{option_and_then}
use Rattle.dc_math.specs.Rational.{ℚ, ◌+ℚ◌, ◌*ℚ◌, of_ℤ}
use Rattle.dc_math.specs.Sums.{at, sum_ℚ}
use Rattle.dc_frac.specs.declared.Frac.{Frac}
use Rattle.dc_frac.specs.Value.{value}
use Rattle.dc_frac.specs.Fits.{fits, sum_fits, product_fits}

-- the numbers of a list of fractions, by index
abbrev pub numbers : List Frac → ℕ → ℚ
numbers xs i = at (map value xs) i

-- the value where the test holds, and else nothing
abbrev pub checked : {A : Type 0} → Bool → A → Option A
checked fits x = cond fits (Some x) None

-- s + a * x, where the product and the sum fit
unfoldable pub added : ℚ → ℤ → ℚ → Option ℚ
added s a x = checked (product_fits (of_ℤ a) x && sum_fits s (of_ℤ a *ℚ x)) (s +ℚ of_ℤ a *ℚ x)

-- a 0 * x 0 + .. + a (n - 1) * x (n - 1), added up in rising order from 0, where each product and
-- each partial sum fits
unfoldable pub folded : ℕ → (ℕ → ℤ) → (ℕ → ℚ) → Option ℚ
folded zero a x = Some (of_ℤ (pos 0))
folded (suc n) a x = option_and_then (λ s. added s (a n) (x n)) (folded n a x)

-- the same over those indices alone which pass
unfoldable pub folded_over : (ℕ → Bool) → ℕ → (ℕ → ℤ) → (ℕ → ℚ) → Option ℚ
folded_over test zero a x = Some (of_ℤ (pos 0))
folded_over test (suc n) a x =
    if test n then option_and_then (λ s. added s (a n) (x n))
    (folded_over test n a x) else folded_over test n a x

-- a fold's sum: the sum of the products, and it fits
pub record IsFitSum (n : ℕ) (a : ℕ → ℤ) (x : ℕ → ℚ) (s : ℚ) : Type 0 where
  pub value : s ≡ sum_ℚ n (λ k. of_ℤ (a k) *ℚ x k)
  pub fits : fits s ≡ true
