-- The results of the calls are polynomials again, where the calls' conditions hold.
use Rattle.std.specs.Prelude.{ℕ, ◌≤◌, List, [], ◌∷◌, ℤ, unsigned_abs}
use Rattle.std.proofs.Common.{subst, arith}
use Rattle.std.proofs.lemmas.Int.{ints}
use Rattle.dc_poly.specs.Terms.{Exponents, TermList, Ahead, Canonical, Places, largest, Polynomial, IsPolynomial}
use Rattle.dc_poly.specs.Sums.{negated, composed, constant, variable, sum_of, negation_of, product_of, composition_of, places_of}
use Rattle.dc_poly.specs.Conditions.{CanAdd, CanMul, CanSubst}
use Rattle.dc_poly.proofs.Values.{Canonical-constant, Canonical-plus, Canonical-times, Canonical-composed}
use Rattle.dc_poly.proofs.Padded.{Places-constant, Places-variable, Places-plus, Places-negated, Places-times}
use Rattle.dc_poly.proofs.Sizes.{weight-constant, weight-plus, weight-negated, weight-times, weight-composed}
use Rattle.dc_poly.proofs.Degrees.{degree-constant, degree-unit_at, degree-plus, degree-negated}

Ahead-negated : (m : Exponents) (p : TermList) → Ahead m p → Ahead m (negated p)
Ahead-negated m [] h = tt
Ahead-negated m (t ∷ p) h = (h.0, Ahead-negated m p h.1)

pub Canonical-negated : (p : TermList) → Canonical p → Canonical (negated p)
Canonical-negated [] h = tt
Canonical-negated (t ∷ p) h = ((λ e. h.0 (omega (arith, ints))), Ahead-negated t.mono p h.1, Canonical-negated p h.2)

pub is_constant : (c : ℤ) (n : ℕ) → n ≤ 11 → unsigned_abs c ≤ largest → IsPolynomial (constant c n)
is_constant c n h k = record {
  few = h;
  in_order = Canonical-constant c n;
  padded = Places-constant c n;
  low = (let d = degree-constant c n in omega arith);
  light = (let w = weight-constant c n in omega arith);
}

pub is_variable : (k n : ℕ) → n ≤ 11 → IsPolynomial (variable k n)
is_variable k n h = record {
  few = h;
  in_order = ((λ e. omega (arith, ints)), tt, tt);
  padded = Places-variable k n;
  low = (let d = degree-unit_at n k in omega arith);
  light = omega arith;
}

pub is_sum : (p q : Polynomial) → IsPolynomial p → IsPolynomial q → CanAdd p q → IsPolynomial (sum_of p q)
is_sum p q h k g = record {
  few = h.few;
  in_order = Canonical-plus p.terms q.terms k.in_order;
  padded = Places-plus p.places p.terms q.terms h.padded (subst (λ n. Places n q.terms) g.same_places k.padded);
  low = (let d = degree-plus p.terms q.terms in let a = h.low in let b = k.low in omega arith);
  light = (let w = weight-plus p.terms q.terms in let a = g.light in omega arith);
}

pub is_negation : (p : Polynomial) → IsPolynomial p → IsPolynomial (negation_of p)
is_negation p h = record {
  few = h.few;
  in_order = Canonical-negated p.terms h.in_order;
  padded = Places-negated p.places p.terms h.padded;
  low = (let d = degree-negated p.terms in let a = h.low in omega arith);
  light = (let w = weight-negated p.terms in let a = h.light in omega arith);
}

pub is_product : (p q : Polynomial) → IsPolynomial p → IsPolynomial q → CanMul p q → IsPolynomial (product_of p q)
is_product p q h k g = record {
  few = h.few;
  in_order = Canonical-times p.terms q.terms;
  padded = Places-times p.places p.terms q.terms h.padded (subst (λ n. Places n q.terms) g.same_places k.padded);
  low = g.low;
  light = (let w = weight-times p.terms q.terms in let a = g.light in omega arith);
}

pub is_composition : (p : Polynomial) (vs : List Polynomial) → places_of vs ≤ 11 → Places (places_of vs) (composed (places_of vs) p.terms vs) → CanSubst p vs → IsPolynomial (composition_of p vs)
is_composition p vs h k g = record {
  few = h;
  in_order = Canonical-composed (places_of vs) p.terms vs;
  padded = k;
  low = g.low;
  light = (let w = weight-composed (places_of vs) p.terms vs in let a = g.light in omega arith);
}
