use Rattle.std.proofs.Common.{◌∙◌, sym, ap, subst}
use Rattle.dc_poly.specs.Terms.{IsPolynomial, value, Polynomial}
use Rattle.dc_poly.proofs.Closed.{is_sum}
use Rattle.dc_poly.proofs.Values.{value-plus}
use Rattle.dc_poly.proofs.Polys.{sum_same, places_in, terms_in}
use Rattle.dc_poly.proofs.polynomial.Poly.add.Goals as goal

pub invariant_of-result : goal.invariant_of-result
invariant_of-result c =
    subst IsPolynomial
    (sym (sum_same c.args.self.now c.args.other.now _ _ _ _ (ap places_in c.self.view_is) (c.as_slice.ensures.value ∙ ap terms_in c.self.view_is) (c.as_slice-2.ensures.value ∙ ap terms_in c.other.view_is) c.in_ok-merge.ensures))
    (is_sum _ _ (subst IsPolynomial c.self.view_is c.self.invariant) (subst IsPolynomial c.other.view_is c.other.invariant) c.requires)

pub returns-clause-kind : goal.returns-clause-kind
returns-clause-kind c =
    subst IsPolynomial
    (sym (sum_same c.args.self.now c.args.other.now _ _ _ _ (ap places_in c.self.view_is) (c.as_slice.ensures.value ∙ ap terms_in c.self.view_is) (c.as_slice-2.ensures.value ∙ ap terms_in c.other.view_is) c.in_ok-merge.ensures))
    (is_sum _ _ (subst IsPolynomial c.self.view_is c.self.invariant) (subst IsPolynomial c.other.view_is c.other.invariant) c.requires)

pub returns-clause-value : goal.returns-clause-value
returns-clause-value c xs =
    ap (λ (p : Polynomial). value p.terms xs) (sum_same c.args.self.now c.args.other.now c.self.inside.places _ _ _ (ap places_in c.self.view_is) (c.as_slice.ensures.value ∙ ap terms_in c.self.view_is) (c.as_slice-2.ensures.value ∙ ap terms_in c.other.view_is) c.in_ok-merge.ensures)
    ∙ value-plus c.args.self.now.terms c.args.other.now.terms xs
