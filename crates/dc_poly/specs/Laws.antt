-- The laws of polynomials, each as the contract of a function of `laws` states it.
use Rattle.std.specs.Prelude.{◌≡◌, ℕ, ◌≤◌, List, map, length, AllPairs, ℤ, pos, ◌+ℤ◌, ◌*ℤ◌}
use Rattle.std.specs.List.{AllByRecursion}
use Rattle.dc_math.specs.Members.{Among}
use Rattle.dc_math.specs.WholeVectors.{dot_ℤ, scale_ℤ}
use Rattle.dc_math.specs.Rational.{of_ℤ}
use Rattle.dc_poly.specs.declared.monomial.Term.{Term}
use Rattle.dc_poly.specs.Terms.{Exponents, TermList, mono_value, value, coef, degree_of, Before, Polynomial, IsPolynomial}
use Rattle.dc_poly.specs.Order.{graded, Told}
use Rattle.dc_poly.specs.Sums.{plus, values}
use Rattle.dc_poly.specs.Grid.{Over, Grid, whole}
use Rattle.dc_poly.specs.Affine.{Affine, scaled_value, scaled_values}
use Rattle.dc_poly.specs.Combinations as combinations
use Rattle.dc_poly.specs.Combinations.{Multiple, value_of, coef_of}

-- a polynomial in n variables, of degree at most d in each, that is 0 on every point of the grid
-- has only zero coefficients
abbrev pub Vanishes : Type 0
Vanishes = (n d : ℕ) (p : TermList) → Over n d p
    → ((xs : List ℕ) → Grid n d xs → value p (whole xs) ≡ pos 0) → (m : Exponents) → coef p m ≡ pos 0

-- a sum of polynomials with rational factors that is 0 at every point has only zero coefficients
abbrev pub CombinationsVanish : Type 0
CombinationsVanish = (n : ℕ) (cs : List Multiple) → combinations.HavePlaces n cs
    → ((xs : List ℤ) → length xs ≡ n → value_of cs xs ≡ of_ℤ (pos 0))
    → (m : Exponents) → coef_of cs m ≡ of_ℤ (pos 0)

-- and one that has only zero coefficients is 0 at every point
abbrev pub VanishingCombines : Type 0
VanishingCombines = (cs : List Multiple) → ((m : Exponents) → coef_of cs m ≡ of_ℤ (pos 0))
    → (xs : List ℤ) → value_of cs xs ≡ of_ℤ (pos 0)

-- polynomials of the same places with equal values at every point are equal
abbrev pub SameByValues : Type 0
SameByValues = (p q : Polynomial) → IsPolynomial p → IsPolynomial q → p.places ≡ q.places
    → ((xs : List ℤ) → length xs ≡ p.places → value p.terms xs ≡ value q.terms xs) → p ≡ q

-- polynomials of the same places with equal coefficients are equal
abbrev pub SameByCoefficients : Type 0
SameByCoefficients = (p q : Polynomial) → IsPolynomial p → IsPolynomial q → p.places ≡ q.places
    → ((m : Exponents) → coef p.terms m ≡ coef q.terms m) → p ≡ q

-- the coefficients of a sum are the sums of the coefficients
abbrev pub CoefOfSum : Type 0
CoefOfSum = (p q : TermList) (m : Exponents) → coef (plus p q) m ≡ coef p m +ℤ coef q m

-- the value is the sum of coefficient times monomial, over any list in graded order that has the
-- monomials of the polynomial
abbrev pub ValueByMonomials : Type 0
ValueByMonomials = (p : TermList) (ms : List Exponents) (xs : List ℤ)
    → AllPairs Before ms → AllByRecursion (λ (t : Term). Among t.mono ms) p
    → value p xs ≡ dot_ℤ (map (coef p) ms) (map (λ m. mono_value m xs) ms)

-- a polynomial of degree at most 2 has at most 78 terms
abbrev pub FewTerms : Type 0
FewTerms = (p : Polynomial) → IsPolynomial p → degree_of p.terms ≤ 2 → length p.terms ≤ 78

-- a form at numbers over 1 has its value there, a point may be written with any denominator, and
-- the form of a sum is the sum of the forms; so are the points that lists of forms lead to
pub record AtRationalPoints : Type 0 where
  pub whole_point : (n : ℕ) (p : TermList) (xs : List ℤ)
      → Affine n p → scaled_value n p (pos 1) xs ≡ value p xs
  pub any_denominator : (n : ℕ) (p : TermList) (k q : ℤ) (xs : List ℤ)
      → scaled_value n p (k *ℤ q) (scale_ℤ k xs) ≡ k *ℤ scaled_value n p q xs
  pub of_sum : (n : ℕ) (p r : TermList) (q : ℤ) (xs : List ℤ)
      → scaled_value n (plus p r) q xs ≡ scaled_value n p q xs +ℤ scaled_value n r q xs
  pub whole_list : (n : ℕ) (vs : List Polynomial) (xs : List ℤ)
      → AllByRecursion (λ (v : Polynomial). Affine n v.terms) vs
      → scaled_values n vs (pos 1) xs ≡ values vs xs
  pub list_any_denominator : (n : ℕ) (vs : List Polynomial) (k q : ℤ) (xs : List ℤ)
      → scaled_values n vs (k *ℤ q) (scale_ℤ k xs) ≡ scale_ℤ k (scaled_values n vs q xs)

-- two monomials stand as `graded` says, and before is a strict order
pub record IsGradedOrder : Type 0 where
  pub told : (m k : Exponents) → Told m k (graded m k)
  pub strict : (m : Exponents) → ¬ Before m m
  pub transitive : (m k l : Exponents) → Before m k → Before k l → Before m l
