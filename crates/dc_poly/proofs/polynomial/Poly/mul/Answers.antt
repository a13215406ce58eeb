use Rattle.std.proofs.Common.{◌∙◌, sym, ap, subst}
use Rattle.dc_poly.specs.Terms.{IsPolynomial, value, Polynomial, Places}
use Rattle.dc_poly.proofs.Closed.{is_product}
use Rattle.dc_poly.proofs.Values.{value-times}
use Rattle.dc_poly.proofs.Polys.{product_same, places_in, terms_in}
use Rattle.dc_poly.proofs.polynomial.Poly.mul.Goals as goal

pub invariant_of-result : goal.invariant_of-result
invariant_of-result c =
    subst IsPolynomial
    (sym (product_same c.args.self.now c.args.other.now _ _ _ _ (ap places_in c.self.view_is) (c.as_slice.ensures.value ∙ ap terms_in c.self.view_is) (c.as_slice-2.ensures.value ∙ ap terms_in c.other.view_is) c.in_ok-product.ensures))
    (is_product _ _ (subst IsPolynomial c.self.view_is c.self.invariant) (subst IsPolynomial c.other.view_is c.other.invariant) c.requires)

pub returns-clause-kind : goal.returns-clause-kind
returns-clause-kind c =
    subst IsPolynomial
    (sym (product_same c.args.self.now c.args.other.now _ _ _ _ (ap places_in c.self.view_is) (c.as_slice.ensures.value ∙ ap terms_in c.self.view_is) (c.as_slice-2.ensures.value ∙ ap terms_in c.other.view_is) c.in_ok-product.ensures))
    (is_product _ _ (subst IsPolynomial c.self.view_is c.self.invariant) (subst IsPolynomial c.other.view_is c.other.invariant) c.requires)

pub returns-clause-value : goal.returns-clause-value
returns-clause-value c xs =
    ap (λ (p : Polynomial). value p.terms xs) (product_same c.args.self.now c.args.other.now c.self.inside.places _ _ _ (ap places_in c.self.view_is) (c.as_slice.ensures.value ∙ ap terms_in c.self.view_is) (c.as_slice-2.ensures.value ∙ ap terms_in c.other.view_is) c.in_ok-product.ensures)
    ∙ value-times c.args.self.now.terms c.args.other.now.terms xs

pub product-requires-clause-padded : goal.product-requires-clause-padded
product-requires-clause-padded c = record {
  places = c.self.inside.places;
  left = subst (Places c.self.inside.places) (sym c.as_slice.ensures.value) c.self.invariant.padded;
  right = subst (λ n. Places n c.as_slice-2.result.now) (ap places_in c.other.view_is ∙ c.requires.same_places ∙ sym (ap places_in c.self.view_is)) (subst (Places c.other.inside.places) (sym c.as_slice-2.ensures.value) c.other.invariant.padded);
}
