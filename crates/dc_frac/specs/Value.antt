-- The rational number that a fraction stands for.
use Rattle.std.specs.Prelude.{◌≡◌, Option, MatchOption, Bool, IsTrue, IsFalse}
use Rattle.dc_math.specs.Rational.{ℚ, Fraction, ratio}
use Rattle.dc_frac.specs.declared.Frac.{Frac}

abbrev pub fraction : Frac → Fraction
fraction f = record { num = f.num; den = f.den; den_positive = f.positive }

unfoldable pub value : Frac → ℚ
value f = ratio (fraction f)

-- nothing where the test is false, and the number x where it is true
abbrev pub IsChecked : Option Frac → Bool → ℚ → Type 0
IsChecked result fits x = MatchOption result (IsFalse fits) (λ r. IsTrue fits × (value r ≡ x))
