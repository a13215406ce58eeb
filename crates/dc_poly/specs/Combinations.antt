-- Sums of polynomials with whole coefficients, each times a rational factor.
use Rattle.std.specs.Prelude.{ℕ, List, [], ◌∷◌, ℤ, pos}
use Rattle.std.specs.List.{AllByRecursion}
use Rattle.dc_math.specs.Rational.{ℚ, ◌+ℚ◌, ◌*ℚ◌, of_ℤ}
use Rattle.dc_poly.specs.Terms.{Exponents, TermList, value, coef, Places}

-- a polynomial with a factor
pub record Multiple : Type 0 where
  pub factor : ℚ
  pub terms : TermList

abbrev pub multiple : ℚ → TermList → Multiple
multiple a p = record { factor = a; terms = p }

-- the sum of a number of each polynomial, times its factor
abbrev pub combination : (TermList → ℤ) → List Multiple → ℚ
combination g [] = of_ℤ (pos 0)
combination g (c ∷ cs) = c.factor *ℚ of_ℤ (g c.terms) +ℚ combination g cs

-- the value of the sum at a point
abbrev pub value_of : List Multiple → List ℤ → ℚ
value_of cs xs = combination (λ p. value p xs) cs

-- the coefficient of a monomial in it
abbrev pub coef_of : List Multiple → Exponents → ℚ
coef_of cs m = combination (λ p. coef p m) cs

-- each polynomial has n places
abbrev pub HavePlaces : ℕ → List Multiple → Type 0
HavePlaces n cs = AllByRecursion (λ (c : Multiple). Places n c.terms) cs
