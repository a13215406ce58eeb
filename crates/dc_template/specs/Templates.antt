-- A template: one rational number for each monomial of a list.
use Rattle.std.specs.Prelude.{List, map, ℤ}
use Rattle.dc_math.specs.Rational.{ℚ, of_ℤ}
use Rattle.dc_math.specs.Vectors.{dot}
use Rattle.dc_poly.specs.Terms.{Exponents, mono_value}

-- the values of monomials at a point, as rational numbers
abbrev pub mono_values : List Exponents → List ℤ → List ℚ
mono_values ms xs = map (λ m. of_ℤ (mono_value m xs)) ms

-- the value of a template at a point: the sum of coefficient times monomial
abbrev pub template_value : List ℚ → List Exponents → List ℤ → ℚ
template_value coefs ms xs = dot coefs (mono_values ms xs)
