-- Which sums, differences, products and quotients fit 128 bits, as tests on rational numbers.
use Rattle.std.specs.Prelude.{◌≡◌, ℕ, ◌<◌, ◌^◌, ℤ, ◌+ℤ◌, ◌*ℤ◌, unsigned_abs, int_div, Bool, ◌&&◌, nat_lt}
use Rattle.dc_math.specs.Quotients.{gcd_ℤ}
use Rattle.dc_math.specs.Rational.{ℚ, Fraction, ratio, ◌*ℚ◌, neg_ℚ}
use Rattle.dc_math.specs.Inverse.{inverse}
use Rattle.dc_math.specs.Lowest.{lowest}

-- a whole number of size at most 2^127 - 1
abbrev pub IsSmall : ℤ → Type 0
IsSmall z = unsigned_abs z < 2 ^ 127

abbrev pub is_small : ℤ → Bool
is_small z = nat_lt (unsigned_abs z) (2 ^ 127)

-- both parts of the lowest terms are small
unfoldable pub fits : ℚ → Bool
fits x = is_small (lowest x).num && is_small (lowest x).den

abbrev pub product_fits : ℚ → ℚ → Bool
product_fits x y = fits (x *ℚ y)

abbrev pub quotient_fits : ℚ → ℚ → Bool
quotient_fits x y = fits (x *ℚ inverse y)

-- ---- the sum rule: with the greatest common divisor g of b and d, a/b + c/d is
-- (a * (d/g) + c * (b/g)) / ((b/g) * d), and of these the numerator and d are divided by their
-- common divisor with g
abbrev pub sum_total : ℤ → ℤ → ℤ → ℤ → ℤ → ℤ
sum_total a b c d g = a *ℤ int_div d g +ℤ c *ℤ int_div b g

abbrev pub sum_num : ℤ → ℤ → ℤ → ℤ → ℤ → ℤ
sum_num a b c d g = int_div (sum_total a b c d g) (gcd_ℤ (sum_total a b c d g) g)

abbrev pub sum_den : ℤ → ℤ → ℤ → ℤ → ℤ → ℤ
sum_den a b c d g = int_div b g *ℤ int_div d (gcd_ℤ (sum_total a b c d g) g)

-- both products, their sum and the denominator are small
abbrev pub rule_fits : ℤ → ℤ → ℤ → ℤ → ℤ → Bool
rule_fits a b c d g =
    is_small (a *ℤ int_div d g) && is_small (c *ℤ int_div b g)
    && is_small (sum_total a b c d g) && is_small (sum_den a b c d g)

abbrev pub parts_fit : Fraction → Fraction → Bool
parts_fit p q = rule_fits p.num p.den q.num q.den (gcd_ℤ p.den q.den)

-- judged by the rule and not by the sum alone: a sum that is small may need a product that is not
unfoldable pub sum_fits : ℚ → ℚ → Bool
sum_fits x y = parts_fit (lowest x) (lowest y)

abbrev pub difference_fits : ℚ → ℚ → Bool
difference_fits x y = sum_fits x (neg_ℚ y)

-- the number is that of a pair, reduced or not, whose parts are below 2^n in size
pub record IsWithin (n : ℕ) (x : ℚ) : Type 0 where
  pub pair : Fraction
  pub is : ratio pair ≡ x
  pub num : unsigned_abs pair.num < 2 ^ n
  pub den : unsigned_abs pair.den < 2 ^ n
