use Rattle.std.proofs.Common.{rules, ◌∙◌, SFits, arith}
use Rattle.std.specs.Int.{w128}
use Rattle.std.proofs.lemmas.Int.{to_z-of_z}
use Rattle.dc_poly.proofs.Substitution.{vanished, set, stage_start, stage_padded, stage_low, stage_nonzero, stage_light, stage_next, stage_end}
use Rattle.dc_poly.proofs.composition.at_values.Goals as goal

pub returns-then-vanishes-clause-terms : goal.returns-then-vanishes-clause-terms
returns-then-vanishes-clause-terms c = c.new.ensures.items ∙ vanished c.args.places c.args.term.now.coef c.args.term.now.mono c.args.values.now c.if-vanishes.ensures

pub places-init : goal.places-init
places-init c =
    let f : SFits w128 c.args.term.now.coef = search rules in
    stage_start c.args.places c.args.term.now.coef c.exponents-exponents.result.now c.args.values.now _ (simp to_z-of_z at c.in_ok-product.ensures)

pub power_times-requires-clause-padded : goal.power_times-requires-clause-padded
power_times-requires-clause-padded c =
    stage_padded c.args.places c.places.k c.args.term.now.coef c.exponents-exponents.result.now c.args.values.now _ _ c.index-values-k.result (omega arith)
    (set _ _ _ _ _ c.exponents-exponents.ensures.value c.requires.one_each c.requires.same_places c.requires.low c.if-vanishes.ensures c.requires.light)
    c.index-values-k.is c.terms-value.ensures.kind c.terms-value.ensures.terms c.places.invariant

pub power_times-requires-clause-low : goal.power_times-requires-clause-low
power_times-requires-clause-low c =
    stage_low c.args.places c.places.k c.args.term.now.coef c.exponents-exponents.result.now c.args.values.now c.places.product.items c.terms-value.result.now c.index-values-k.result (omega arith)
    (set _ _ _ _ _ c.exponents-exponents.ensures.value c.requires.one_each c.requires.same_places c.requires.low c.if-vanishes.ensures c.requires.light)
    c.terms-value.ensures.kind c.terms-value.ensures.terms c.places.invariant

pub power_times-requires-clause-nonzero : goal.power_times-requires-clause-nonzero
power_times-requires-clause-nonzero c =
    stage_nonzero c.args.places c.places.k c.args.term.now.coef c.exponents-exponents.result.now c.args.values.now c.places.product.items c.terms-value.result.now c.index-values-k.result (omega arith)
    (set _ _ _ _ _ c.exponents-exponents.ensures.value c.requires.one_each c.requires.same_places c.requires.low c.if-vanishes.ensures c.requires.light)
    c.index-values-k.is c.terms-value.ensures.terms c.places.invariant

pub power_times-requires-clause-light : goal.power_times-requires-clause-light
power_times-requires-clause-light c =
    stage_light c.args.places c.places.k c.args.term.now.coef c.exponents-exponents.result.now c.args.values.now c.places.product.items c.terms-value.result.now c.index-values-k.result (omega arith)
    (set _ _ _ _ _ c.exponents-exponents.ensures.value c.requires.one_each c.requires.same_places c.requires.low c.if-vanishes.ensures c.requires.light)
    c.index-values-k.is c.terms-value.ensures.terms c.places.invariant

pub places-preserved : goal.places-preserved
places-preserved c =
    stage_next c.args.places c.places.k c.args.term.now.coef c.exponents-exponents.result.now c.args.values.now c.places.product.items c.terms-value.result.now _ c.index-values-k.result (omega arith)
    (set _ _ _ _ _ c.exponents-exponents.ensures.value c.requires.one_each c.requires.same_places c.requires.low c.if-vanishes.ensures c.requires.light)
    c.index-values-k.is c.terms-value.ensures.kind c.terms-value.ensures.terms c.in_ok-product-2.ensures c.places.invariant

pub returns-clause-terms : goal.returns-clause-terms
returns-clause-terms c = stage_end c.args.places c.places.k c.args.term.now.coef c.args.term.now.mono c.exponents-exponents.result.now c.args.values.now _ c.places-test.false c.exponents-exponents.ensures.value c.places.invariant

pub returns-clause-padded : goal.returns-clause-padded
returns-clause-padded c = c.places.invariant.padded
