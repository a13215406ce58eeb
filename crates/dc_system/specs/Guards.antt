-- What the difference of two forms wants, so that it has an atom.
use Rattle.std.specs.Prelude.{◌≡◌, ◌+◌, ◌≤◌, unsigned_abs}
use Rattle.dc_poly.specs.Terms.{Exponents, coef, Polynomial, IsPolynomial}
use Rattle.dc_poly.specs.NormalForm.{IsNormalForm}
use Rattle.dc_affine.specs.Atoms.{most_constant}

-- one of the two is a variable: at most 1 in each coefficient
pub record CanDiffer (p q : Polynomial) : Type 0 where
  pub same_places : q.places ≡ p.places
  pub kinds : IsPolynomial p × IsPolynomial q
  pub narrow : IsNormalForm p.terms × IsNormalForm q.terms
  pub small : (m : Exponents)
      → unsigned_abs (coef p.terms m) + unsigned_abs (coef q.terms m) ≤ most_constant
