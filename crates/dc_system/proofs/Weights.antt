-- A form within its bounds, in graded order, is a polynomial.
use Rattle.std.specs.Prelude.{ℕ, ◌≤◌}
use Rattle.std.proofs.Common.{arith}
use Rattle.dc_poly.specs.Terms.{TermList, Canonical, Places, polynomial, IsPolynomial}
use Rattle.dc_poly.specs.NormalForm.{IsNormalForm}
use Rattle.dc_poly.proofs.FewTerms.{normal_light}

pub form_polynomial : (n : ℕ) (p : TermList) → n ≤ 11 → Canonical p → Places n p → IsNormalForm p → IsPolynomial (polynomial n p)
form_polynomial n p h c j k = record {
  few = h;
  in_order = c;
  padded = j;
  low = (let d = k.low in omega arith);
  light = (let w = normal_light n p h c j k in omega arith);
}
