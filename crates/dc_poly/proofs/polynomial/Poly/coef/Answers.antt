use Rattle.std.proofs.Common.{rules, ◌∙◌, sym, ap, subst, SFits, refl, true, false}
use Rattle.std.specs.Int.{w128}
use Rattle.std.proofs.lemmas.Int.{to_z-of_z}
use Rattle.std.proofs.lemmas.Bool.{false≢true}
use Rattle.std.proofs.lemmas.Bool.Decides.{Decides-eqb}
use Rattle.std.proofs.lemmas.Slice.Eq.{slice_eq-Decides}
use Rattle.dc_poly.specs.Terms.{Canonical, coef}
use Rattle.dc_poly.proofs.Polys.{coef_here, coef_step, coef_end, terms_in}
use Rattle.dc_poly.proofs.polynomial.Poly.coef.Goals as goal

pub returns-then-eq : goal.returns-then-eq
returns-then-eq c =
    let f : SFits w128 c.term-item.result.coef = search rules in
    to_z-of_z w128 _ f
    ∙ coef_here c.loop-term.term-index c.as_slice-term-items.result.now c.term-item.result c.args.mono.now c.loop-term-test.true c.term-item.is (sym c.exponents.ensures.value ∙ (slice_eq-Decides Decides-eqb c.exponents.result.now c.exponents-in-loop-term.result.now true c.if-eq.ensures).0 refl ∙ c.exponents-in-loop-term.ensures.value) (subst Canonical (sym c.as_slice-term-items.ensures.value) c.self.invariant.in_order) c.loop-term.invariant
    ∙ ap (λ t. coef t c.args.mono.now) (c.as_slice-term-items.ensures.value ∙ ap terms_in c.self.view_is)

pub loop-term-preserved : goal.loop-term-preserved
loop-term-preserved c =
    coef_step c.loop-term.term-index c.as_slice-term-items.result.now c.term-item.result c.args.mono.now c.loop-term-test.true c.term-item.is (λ q. false≢true ((slice_eq-Decides Decides-eqb c.exponents.result.now c.exponents-in-loop-term.result.now false c.if-eq.ensures).1 (c.exponents.ensures.value ∙ q ∙ sym c.exponents-in-loop-term.ensures.value))) c.loop-term.invariant

pub returns : goal.returns
returns c = coef_end c.loop-term.term-index c.as_slice-term-items.result.now c.args.mono.now c.loop-term-test.false c.loop-term.invariant
    ∙ ap (λ t. coef t c.args.mono.now) (c.as_slice-term-items.ensures.value ∙ ap terms_in c.self.view_is)
