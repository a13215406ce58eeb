-- The values of the monomials of a template.
use Rattle.std.specs.Prelude.{◌≡◌, ◌≤◌, List, [], ◌∷◌, ◌++◌, length, ℤ}
use Rattle.std.specs.List.{AllByRecursion}
use Rattle.std.proofs.Common.{refl, ap₂}
use Rattle.dc_math.specs.Rational.{of_ℤ}
use Rattle.dc_poly.specs.Terms.{Exponents}
use Rattle.dc_poly.proofs.Values.{mono_value-longer}
use Rattle.dc_template.specs.Templates.{mono_values}

-- numbers behind the last place of the monomials are not seen
pub mono_values-longer : (ms : List Exponents) (x y : List ℤ) → AllByRecursion (λ m. length m ≤ length x) ms → mono_values ms (x ++ y) ≡ mono_values ms x
mono_values-longer [] x y h = refl
mono_values-longer (m ∷ ms) x y h = ap₂ (λ v vs. of_ℤ v ∷ vs) (mono_value-longer m x y h.0) (mono_values-longer ms x y h.1)
