use Rattle.std.proofs.Common.{◌∙◌, sym, ap, ap₂, subst, arith, ◌+◌, ◌-◌, ◌≤◌}
use Rattle.dc_poly.specs.Terms.{Canonical, Places, Polynomial, TermList, degree_of, weight, largest, value}
use Rattle.dc_poly.specs.Sums.{plus, places_of}
use Rattle.dc_poly.specs.Conditions.{composed_weight}
use Rattle.dc_poly.proofs.Values.{value-composed}
use Rattle.dc_poly.proofs.Products.{places_within, degree_within}
use Rattle.dc_poly.proofs.Substitution.{Canonical-term_at, part_light, round_order, round_light, round_next, round_end}
use Rattle.dc_poly.proofs.Polys.{places_in, terms_in, composition_same, composition_is}
use Rattle.dc_poly.proofs.polynomial.Poly.subst.Goals as goal

pub at_values-requires-clause-one_each : goal.at_values-requires-clause-one_each
at_values-requires-clause-one_each c =
    c.requires.one_each ∙ sym (ap places_in c.self.view_is)
    ∙ sym (places_within c.self.inside.places (c.terms.k - 1) c.as_slice-list.result.now c.index-list-k.result (let a = c.terms.invariant.inside in omega arith) c.index-list-k.is (subst (Places c.self.inside.places) (sym c.as_slice-list.ensures.value) c.self.invariant.padded))

pub at_values-requires-clause-low : goal.at_values-requires-clause-low
at_values-requires-clause-low c =
    let d = degree_within (c.terms.k - 1) c.as_slice-list.result.now c.index-list-k.result (let a = c.terms.invariant.inside in omega arith) c.index-list-k.is in
    let e = ap degree_of c.as_slice-list.ensures.value in
    let l = c.self.invariant.low in
    omega arith

pub at_values-requires-clause-light : goal.at_values-requires-clause-light
at_values-requires-clause-light c =
    part_light (c.terms.k - 1) c.as_slice-list.result.now c.args.values.now c.index-list-k.result (let a = c.terms.invariant.inside in omega arith) c.index-list-k.is
    (subst (λ (l : TermList). composed_weight l c.args.values.now ≤ largest) (sym (c.as_slice-list.ensures.value ∙ ap terms_in c.self.view_is)) c.requires.light)

pub merge-requires-clause-left : goal.merge-requires-clause-left
merge-requires-clause-left c =
    subst Canonical (sym (c.as_slice.ensures.value ∙ c.in_ok-part.ensures.terms)) (Canonical-term_at c.common_places-places.result c.index-list-k.result.coef c.index-list-k.result.mono c.args.values.now)

pub merge-requires-clause-right : goal.merge-requires-clause-right
merge-requires-clause-right c = subst Canonical (sym c.as_slice-in-terms.ensures.value) (round_order _ _ _ _ _ c.terms.invariant)

pub merge-requires-clause-light : goal.merge-requires-clause-light
merge-requires-clause-light c =
    subst (λ (s : TermList). weight c.as_slice.result.now + weight s ≤ largest) (sym c.as_slice-in-terms.ensures.value)
    (round_light c.common_places-places.result c.terms.k c.as_slice-list.result.now c.args.values.now c.index-list-k.result c.as_slice.result.now c.terms.terms.items c.terms-test.true c.index-list-k.is
    (c.as_slice.ensures.value ∙ c.in_ok-part.ensures.terms)
    (subst (λ (l : TermList). composed_weight l c.args.values.now ≤ largest) (sym (c.as_slice-list.ensures.value ∙ ap terms_in c.self.view_is)) c.requires.light) c.terms.invariant)

pub terms-preserved : goal.terms-preserved
terms-preserved c =
    round_next c.common_places-places.result c.terms.k c.as_slice-list.result.now c.args.values.now c.index-list-k.result c.in_ok-part.part.items c.terms.terms.items _ c.terms-test.true c.index-list-k.is
    c.in_ok-part.ensures.terms c.in_ok-part.ensures.padded (c.in_ok-terms.ensures ∙ ap₂ plus c.as_slice.ensures.value c.as_slice-in-terms.ensures.value) c.terms.invariant

pub invariant_of-result : goal.invariant_of-result
invariant_of-result c =
    composition_is c.args.self.now c.args.values.now c.common_places-places.result c.as_slice-list.result.now c.terms.terms.items c.common_places-places.ensures.places
    (c.as_slice-list.ensures.value ∙ ap terms_in c.self.view_is) (round_end _ _ _ _ _ c.terms-test.false c.terms.invariant) c.common_places-places.ensures.few c.terms.invariant.padded c.requires

pub returns-clause-composition : goal.returns-clause-composition
returns-clause-composition c =
    composition_same c.args.self.now c.args.values.now c.common_places-places.result c.as_slice-list.result.now c.terms.terms.items c.common_places-places.ensures.places
    (c.as_slice-list.ensures.value ∙ ap terms_in c.self.view_is) (round_end _ _ _ _ _ c.terms-test.false c.terms.invariant)

pub returns-clause-kind : goal.returns-clause-kind
returns-clause-kind c =
    composition_is c.args.self.now c.args.values.now c.common_places-places.result c.as_slice-list.result.now c.terms.terms.items c.common_places-places.ensures.places
    (c.as_slice-list.ensures.value ∙ ap terms_in c.self.view_is) (round_end _ _ _ _ _ c.terms-test.false c.terms.invariant) c.common_places-places.ensures.few c.terms.invariant.padded c.requires

pub returns-clause-value : goal.returns-clause-value
returns-clause-value c xs =
    ap (λ (p : Polynomial). value p.terms xs)
    (composition_same c.args.self.now c.args.values.now c.common_places-places.result c.as_slice-list.result.now c.terms.terms.items c.common_places-places.ensures.places
    (c.as_slice-list.ensures.value ∙ ap terms_in c.self.view_is) (round_end _ _ _ _ _ c.terms-test.false c.terms.invariant))
    ∙ value-composed (places_of c.args.values.now) c.args.self.now.terms c.args.values.now xs
