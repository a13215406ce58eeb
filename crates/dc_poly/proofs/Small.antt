-- What the tests' calls need, for small polynomials.
use Rattle.std.specs.Prelude.{◌≡◌, ℕ, ◌+◌, ◌*◌, ◌^◌, ◌<◌, ◌≤◌, [], ◌∷◌, length, get_or, drop, unsigned_abs, refl}
use Rattle.std.proofs.Common.{sym, arith}
use Rattle.dc_poly.specs.declared.monomial.Term.{Term}
use Rattle.dc_poly.specs.Terms.{TermList, degree_of, weight, largest, Polynomial}
use Rattle.dc_poly.specs.Conditions.{CanMul, CanSubst}
use Rattle.dc_poly.proofs.Sizes.{composed_weight_light, power_more, mul_both}
use Rattle.dc_poly.proofs.Degrees.{degree-times, degree-composed}
use Rattle.dc_poly.proofs.Products.{size_at}

-- a sum over the terms
pub weight_step : (i total : ℕ) (p : TermList) (t : Term) → i < length p → t ≡ get_or p i t → total + weight (drop i p) ≡ weight p → total + unsigned_abs t.coef + weight (drop (i + 1) p) ≡ weight p
weight_step i total p t h e l = let s = size_at i p t h e in omega arith

can_mul : (p q : Polynomial) → p.places ≡ q.places → degree_of p.terms + degree_of q.terms ≤ 12 → weight p.terms * weight q.terms ≤ largest → CanMul p q
can_mul p q e d w = record { same_places = sym e; low = (let x = degree-times p.terms q.terms in omega arith); light = w }

pub small_mul : (p q : Polynomial) → p.places ≡ q.places → degree_of p.terms + degree_of q.terms ≤ 12 → weight p.terms ≤ 1000 → weight q.terms ≤ 1000 → CanMul p q
small_mul p q e d x y = can_mul p q e d (let z = mul_both (weight p.terms) 1000 (weight q.terms) 1000 x y in omega arith)

pub unit_mul : (p q : Polynomial) → p.places ≡ q.places → degree_of p.terms + degree_of q.terms ≤ 12 → weight p.terms ≤ largest → weight q.terms ≤ 1 → CanMul p q
unit_mul p q e d x y = can_mul p q e d (let z = mul_both (weight p.terms) largest (weight q.terms) 1 x y in omega arith)

pub can_subst : (p v w : Polynomial) → p.places ≡ 2 → v.places ≡ w.places → degree_of p.terms ≤ 3 → degree_of v.terms ≤ 4 → degree_of w.terms ≤ 4 → weight p.terms ≤ 100 → weight v.terms ≤ 10 → weight w.terms ≤ 10 → CanSubst p (v ∷ w ∷ [])
can_subst p v w e f d d1 d2 x x1 x2 = record {
  one_each = sym e;
  same_places = (refl, (sym f, tt));
  low = (let y = degree-composed 4 v.places p.terms (v ∷ w ∷ []) (d1, (d2, tt)) in omega arith);
  light = (let y = composed_weight_light 10 p.terms (v ∷ w ∷ []) (omega arith) (x1, (x2, tt)) in
      let z = mul_both (weight p.terms) 100 (10 ^ degree_of p.terms) (10 ^ 3) x (power_more 10 (degree_of p.terms) 3 (omega arith) d) in omega arith);
}
