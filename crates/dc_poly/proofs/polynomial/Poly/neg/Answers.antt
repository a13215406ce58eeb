use Rattle.std.proofs.Common.{rules, ◌∙◌, sym, ap, subst, SFits, arith, ◌-ℤ◌, pos}
use Rattle.std.specs.Int.{w128}
use Rattle.std.proofs.lemmas.Int.{to_z-of_z}
use Rattle.dc_poly.specs.Terms.{IsPolynomial, weight, value, Polynomial}
use Rattle.dc_poly.proofs.Closed.{is_negation}
use Rattle.dc_poly.proofs.Same.{value-negated}
use Rattle.dc_poly.proofs.Products.{size_within}
use Rattle.dc_poly.proofs.Polys.{neg_fits, neg_is, neg_step, neg_done, negation_same, places_in, terms_in}
use Rattle.dc_poly.proofs.polynomial.Poly.neg.Goals as goal

pub overflow_sub-term : goal.overflow_sub-term
overflow_sub-term c =
    let f : SFits w128 c.term-item.result.coef = search rules in
    let s = size_within c.loop-term.term-index c.as_slice-list.result.now c.term-item.result c.loop-term-test.true c.term-item.is in
    let e = ap weight c.as_slice-list.ensures.value in
    let l = c.self.invariant.light in
    simp to_z-of_z (neg_fits c.term-item.result.coef (omega arith))

pub loop-term-preserved : goal.loop-term-preserved
loop-term-preserved c =
    let f : SFits w128 c.term-item.result.coef = search rules in
    let s = size_within c.loop-term.term-index c.as_slice-list.result.now c.term-item.result c.loop-term-test.true c.term-item.is in
    let e = ap weight c.as_slice-list.ensures.value in
    let l = c.self.invariant.light in
    let g : SFits w128 (pos 0 -ℤ c.term-item.result.coef) = neg_fits c.term-item.result.coef (omega arith) in
    neg_step c.loop-term.term-index _ _ _ c.term-item.result _ _ c.loop-term-test.true c.term-item.is c.in_ok-mono.ensures.value (neg_is c.term-item.result.coef) (simp to_z-of_z at c.in_ok-push.ensures.items) c.loop-term.invariant

pub invariant_of-result : goal.invariant_of-result
invariant_of-result c =
    subst IsPolynomial
    (sym (negation_same c.args.self.now _ _ _ (ap places_in c.self.view_is) (c.as_slice-list.ensures.value ∙ ap terms_in c.self.view_is) (neg_done c.loop-term.term-index _ _ c.loop-term-test.false c.loop-term.invariant)))
    (is_negation _ (subst IsPolynomial c.self.view_is c.self.invariant))

pub returns-clause-kind : goal.returns-clause-kind
returns-clause-kind c =
    subst IsPolynomial
    (sym (negation_same c.args.self.now _ _ _ (ap places_in c.self.view_is) (c.as_slice-list.ensures.value ∙ ap terms_in c.self.view_is) (neg_done c.loop-term.term-index _ _ c.loop-term-test.false c.loop-term.invariant)))
    (is_negation _ (subst IsPolynomial c.self.view_is c.self.invariant))

pub returns-clause-negation : goal.returns-clause-negation
returns-clause-negation c =
    negation_same c.args.self.now _ _ _ (ap places_in c.self.view_is) (c.as_slice-list.ensures.value ∙ ap terms_in c.self.view_is) (neg_done c.loop-term.term-index _ _ c.loop-term-test.false c.loop-term.invariant)

pub returns-clause-value : goal.returns-clause-value
returns-clause-value c xs =
    ap (λ (p : Polynomial). value p.terms xs) (negation_same c.args.self.now c.self.inside.places _ _ (ap places_in c.self.view_is) (c.as_slice-list.ensures.value ∙ ap terms_in c.self.view_is) (neg_done c.loop-term.term-index _ _ c.loop-term-test.false c.loop-term.invariant))
    ∙ value-negated c.args.self.now.terms xs
