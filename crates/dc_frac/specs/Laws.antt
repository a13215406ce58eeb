-- Sums, products and order of pairs of whole numbers (n, d) with d at least 1, which need not be
-- reduced. (a, b) and (c, d) have the sum (a * d + c * b, b * d) and the product (a * c, b * d); they
-- are equal where a * d = c * b, and the first is at most the second where a * d <= c * b.
use Rattle.std.specs.Prelude.{◌≡◌, ◌⊎◌, true, ℕ, ◌+◌, ◌<◌, ◌≤◌, ◌^◌, ℤ, pos, ◌+ℤ◌, ◌*ℤ◌, ◌≤ℤ◌, unsigned_abs}
use Rattle.std.specs.Int.{IsGcd}
use Rattle.dc_math.specs.Quotients.{gcd_ℤ}
use Rattle.dc_math.specs.Rational.{ℚ, Fraction, IsSameFraction, IsAtMost, fraction_add, fraction_mul, fraction_neg, fraction_of, ratio, of_ℤ, ◌+ℚ◌, ◌*ℚ◌, neg_ℚ, ◌≤ℚ◌, ◌<ℚ◌}
use Rattle.dc_math.specs.Inverse.{inverse, ◌/ℚ◌}
use Rattle.dc_math.specs.Lowest.{IsReduced, lowest}
use Rattle.dc_math.specs.Floor.{floor}
use Rattle.dc_frac.specs.declared.Frac.{Frac}
use Rattle.dc_frac.specs.Fits.{IsSmall, fits, product_fits, quotient_fits, sum_fits, difference_fits, IsWithin}
use Rattle.dc_frac.specs.Value.{fraction, value}

-- equality of pairs is one, and equal pairs have equal sums and products, and one order
pub record Equality : Type 0 where
  pub same_refl : (p : Fraction) → IsSameFraction p p
  pub same_sym : (p q : Fraction) → IsSameFraction p q → IsSameFraction q p
  pub same_trans : (p q r : Fraction)
      → IsSameFraction p q → IsSameFraction q r → IsSameFraction p r
  pub add_same : (p p' q q' : Fraction) → IsSameFraction p p' → IsSameFraction q q'
      → IsSameFraction (fraction_add p q) (fraction_add p' q')
  pub mul_same : (p p' q q' : Fraction) → IsSameFraction p p' → IsSameFraction q q'
      → IsSameFraction (fraction_mul p q) (fraction_mul p' q')
  pub at_most_same : (p p' q q' : Fraction) → IsSameFraction p p' → IsSameFraction q q'
      → IsAtMost p q → IsAtMost p' q'

pub record Sums : Type 0 where
  pub add_comm : (p q : Fraction) → IsSameFraction (fraction_add p q) (fraction_add q p)
  pub add_assoc : (p q r : Fraction)
      → IsSameFraction (fraction_add (fraction_add p q) r) (fraction_add p (fraction_add q r))
  pub add_zero : (p : Fraction) → IsSameFraction (fraction_add p (fraction_of (pos 0))) p
  pub add_neg : (p : Fraction)
      → IsSameFraction (fraction_add p (fraction_neg p)) (fraction_of (pos 0))

pub record Products : Type 0 where
  pub mul_comm : (p q : Fraction) → IsSameFraction (fraction_mul p q) (fraction_mul q p)
  pub mul_assoc : (p q r : Fraction)
      → IsSameFraction (fraction_mul (fraction_mul p q) r) (fraction_mul p (fraction_mul q r))
  pub mul_one : (p : Fraction) → IsSameFraction (fraction_mul p (fraction_of (pos 1))) p
  pub mul_add : (p q r : Fraction)
      → IsSameFraction (fraction_mul p (fraction_add q r))
      (fraction_add (fraction_mul p q) (fraction_mul p r))

pub record Order : Type 0 where
  pub at_most_refl : (p : Fraction) → IsAtMost p p
  pub at_most_trans : (p q r : Fraction) → IsAtMost p q → IsAtMost q r → IsAtMost p r
  pub at_most_antisymm : (p q : Fraction) → IsAtMost p q → IsAtMost q p → IsSameFraction p q
  pub at_most_total : (p q : Fraction) → IsAtMost p q ⊎ IsAtMost q p
  pub add_at_most : (p p' q q' : Fraction) → IsAtMost p p' → IsAtMost q q'
      → IsAtMost (fraction_add p q) (fraction_add p' q')
  pub mul_at_most : (p q r : Fraction) → IsAtMost p q → pos 0 ≤ℤ r.num
      → IsAtMost (fraction_mul p r) (fraction_mul q r)

-- a number is a class of equal pairs: its sums, products and order are those of the pairs
pub record Numbers : Type 0 where
  pub same_ratio : (p q : Fraction) → ratio p ≡ ratio q → IsSameFraction p q
  pub ratio_same : (p q : Fraction) → IsSameFraction p q → ratio p ≡ ratio q
  pub ratio_add : (p q : Fraction) → ratio p +ℚ ratio q ≡ ratio (fraction_add p q)
  pub ratio_mul : (p q : Fraction) → ratio p *ℚ ratio q ≡ ratio (fraction_mul p q)
  pub at_most_ratio : (p q : Fraction) → ratio p ≤ℚ ratio q → IsAtMost p q
  pub ratio_at_most : (p q : Fraction) → IsAtMost p q → ratio p ≤ℚ ratio q

-- a number has one pair in lowest terms, which is the pair of its fraction
pub record LowestTerms : Type 0 where
  pub ratio_lowest : (x : ℚ) → ratio (lowest x) ≡ x
  pub lowest_reduced : (x : ℚ) → IsReduced (lowest x)
  pub lowest_unique : (p : Fraction) → IsReduced p → lowest (ratio p) ≡ p
  pub lowest_value : (f : Frac) → lowest (value f) ≡ fraction f

-- what is meant by a floor and by a greatest common divisor
pub record Floors : Type 0 where
  pub floor_low : (x : ℚ) → of_ℤ (floor x) ≤ℚ x
  pub floor_high : (x : ℚ) → x <ℚ of_ℤ (floor x +ℤ pos 1)

abbrev pub CommonDivisors : Type 0
CommonDivisors = (a b : ℤ)
    → IsGcd (unsigned_abs a) (unsigned_abs b) (unsigned_abs (gcd_ℤ a b))

-- a sum or a difference with 0 fits exactly where the other number does, as each fraction does
pub record ZeroSums : Type 0 where
  pub right : (x : ℚ) → sum_fits x (of_ℤ (pos 0)) ≡ fits x
  pub left : (x : ℚ) → sum_fits (of_ℤ (pos 0)) x ≡ fits x
  pub minus_zero : (x : ℚ) → difference_fits x (of_ℤ (pos 0)) ≡ fits x
  pub from_zero : (x : ℚ) → difference_fits (of_ℤ (pos 0)) x ≡ fits x
  pub fraction : (f : Frac) → IsSmall f.den → fits (value f) ≡ true

-- lowest terms are no larger than the parts of any pair of the number, so where parts are small,
-- products, quotients, sums and differences fit
pub record SmallNumbers : Type 0 where
  pub whole : (n : ℕ) (z : ℤ) → 1 ≤ n → unsigned_abs z < 2 ^ n → IsWithin n (of_ℤ z)
  pub ratio : (n : ℕ) (z d : ℤ) → pos 1 ≤ℤ d → unsigned_abs z < 2 ^ n → unsigned_abs d < 2 ^ n
      → IsWithin n (of_ℤ z /ℚ of_ℤ d)
  pub lowest_num : (n : ℕ) (x : ℚ) → IsWithin n x → unsigned_abs (lowest x).num < 2 ^ n
  pub lowest_den : (n : ℕ) (x : ℚ) → IsWithin n x → unsigned_abs (lowest x).den < 2 ^ n
  pub fit : (n : ℕ) (x : ℚ) → IsWithin n x → n ≤ 127 → fits x ≡ true
  -- the parts of the answers
  pub negation : (n : ℕ) (x : ℚ) → IsWithin n x → IsWithin n (neg_ℚ x)
  pub inverse : (n : ℕ) (x : ℚ) → ¬ (x ≡ of_ℤ (pos 0)) → IsWithin n x → IsWithin n (inverse x)
  pub product : (m n : ℕ) (x y : ℚ) → IsWithin m x → IsWithin n y → IsWithin (m + n) (x *ℚ y)
  pub quotient : (m n : ℕ) (x y : ℚ) → ¬ (y ≡ of_ℤ (pos 0)) → IsWithin m x → IsWithin n y
      → IsWithin (m + n) (x /ℚ y)
  -- the answers fit
  pub product_fit : (m n : ℕ) (x y : ℚ) → IsWithin m x → IsWithin n y → m + n ≤ 127
      → product_fits x y ≡ true
  pub quotient_fit : (m n : ℕ) (x y : ℚ) → ¬ (y ≡ of_ℤ (pos 0)) → IsWithin m x → IsWithin n y
      → m + n ≤ 127 → quotient_fits x y ≡ true
  pub sum_fit : (m n : ℕ) (x y : ℚ) → IsWithin m x → IsWithin n y → m + n ≤ 126
      → sum_fits x y ≡ true
  pub difference_fit : (m n : ℕ) (x y : ℚ) → IsWithin m x → IsWithin n y → m + n ≤ 126
      → difference_fits x y ≡ true
  -- a step of a pivot: a product of two numbers from a third
  pub step_fit : (x y z : ℚ) → IsWithin 41 x → IsWithin 41 y → IsWithin 41 z
      → difference_fits z (x *ℚ y) ≡ true
  -- whole numbers
  pub whole_fit : (z : ℤ) → unsigned_abs z < 2 ^ 127 → fits (of_ℤ z) ≡ true
  pub whole_product : (z w : ℤ) → unsigned_abs (z *ℤ w) < 2 ^ 127
      → product_fits (of_ℤ z) (of_ℤ w) ≡ true
  pub whole_sum : (z w : ℤ) → unsigned_abs z < 2 ^ 126 → unsigned_abs w < 2 ^ 126
      → sum_fits (of_ℤ z) (of_ℤ w) ≡ true
