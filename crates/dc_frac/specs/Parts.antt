-- What the functions on numerators and denominators answer.
use Rattle.std.specs.Prelude.{◌≡◌, ℕ, ◌*◌, ◌%◌, ◌^◌, ℤ, pos, ◌+ℤ◌, ◌*ℤ◌, int_div, FitsSigned}
use Rattle.std.specs.Int.{w64}
use Rattle.dc_math.specs.Quotients.{gcd_ℤ}
use Rattle.dc_frac.specs.Fits.{IsSmall, sum_total, sum_num, sum_den}

-- a signed word of the machine
abbrev pub IsWord : ℤ → Type 0
IsWord z = FitsSigned w64 z

abbrev pub whole_pair : ℤ → ℤ × ℤ
whole_pair z = (z, pos 1)

-- a/b + c/d by the sum rule, g being the greatest common divisor of b and d
pub record SumFits (a b c d g : ℤ) : Type 0 where
  pub left : IsSmall (a *ℤ int_div d g)
  pub right : IsSmall (c *ℤ int_div b g)
  pub total : IsSmall (sum_total a b c d g)
  pub den : IsSmall (sum_den a b c d g)

abbrev pub sum_pair : ℤ → ℤ → ℤ → ℤ → ℤ → ℤ × ℤ
sum_pair a b c d g = (sum_num a b c d g, sum_den a b c d g)

-- a/d + c/d
abbrev pub over_pair : ℤ → ℤ → ℤ → ℤ × ℤ
over_pair a c d = (int_div (a +ℤ c) (gcd_ℤ (a +ℤ c) d), int_div d (gcd_ℤ (a +ℤ c) d))

-- a/b + c/d where b and d have no common divisor
pub record ApartFits (a b c d : ℤ) : Type 0 where
  pub left : IsSmall (a *ℤ d)
  pub right : IsSmall (c *ℤ b)
  pub total : IsSmall (a *ℤ d +ℤ c *ℤ b)
  pub den : IsSmall (b *ℤ d)

abbrev pub apart_pair : ℤ → ℤ → ℤ → ℤ → ℤ × ℤ
apart_pair a b c d = (a *ℤ d +ℤ c *ℤ b, b *ℤ d)

-- the product of a/b and c/d, each numerator divided by its common divisor with the other's
-- denominator
abbrev pub product_num : ℤ → ℤ → ℤ → ℤ → ℤ
product_num a b c d = int_div a (gcd_ℤ a d) *ℤ int_div c (gcd_ℤ c b)

abbrev pub product_den : ℤ → ℤ → ℤ → ℤ → ℤ
product_den a b c d = int_div b (gcd_ℤ c b) *ℤ int_div d (gcd_ℤ a d)

pub record ProductFits (a b c d : ℤ) : Type 0 where
  pub num : IsSmall (product_num a b c d)
  pub den : IsSmall (product_den a b c d)

abbrev pub product_pair : ℤ → ℤ → ℤ → ℤ → ℤ × ℤ
product_pair a b c d = (product_num a b c d, product_den a b c d)

-- t halvings of n leave the odd number m
pub record IsOddPart (n t m : ℕ) : Type 0 where
  pub is : n ≡ m * 2 ^ t
  pub odd : m % 2 ≡ 1
