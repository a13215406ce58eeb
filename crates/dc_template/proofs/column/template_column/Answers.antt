use Rattle.std.proofs.Common.{◌≤◌, ◌∙◌, sym, subst, ap, length, refl, arith}
use Rattle.dc_poly.specs.Terms.{degree}
use Rattle.dc_template.proofs.Stages.{column_start, column_light, column_next, have_places}
use Rattle.dc_template.proofs.column.template_column.Goals as goal

pub loop-k-init : goal.loop-k-init
loop-k-init c =
    column_start c.args.update.now c.exponents-exponents.result.now c.places_of.result c.in_ok-column.column c.places_of.ensures.places c.in_ok-column.ensures.constant c.in_ok-column.ensures.value c.in_ok-column.ensures.kind

pub times_power-requires-clause-same_places : goal.times_power-requires-clause-same_places
times_power-requires-clause-same_places c =
    have_places _ c.loop-k.k c.args.update.now c.index-update-k.result c.requires.same_places (let l = c.requires.one_each in let e = ap length c.exponents-exponents.ensures.value in let t = c.loop-k-test.true in omega arith) c.index-update-k.is
    ∙ sym c.loop-k.invariant.places

pub times_power-requires-clause-light : goal.times_power-requires-clause-light
times_power-requires-clause-light c =
    column_light c.args.update.now c.exponents-exponents.result.now c.loop-k.k _ c.loop-k.column (subst (λ m. degree m ≤ 3) (sym c.exponents-exponents.ensures.value) c.requires.low) c.loop-k-test.true refl c.loop-k.invariant

pub loop-k-preserved : goal.loop-k-preserved
loop-k-preserved c =
    column_next c.args.update.now c.exponents-exponents.result.now c.loop-k.k _ c.index-update-k.result c.loop-k.column c.in_ok-column-2.column (c.requires.one_each ∙ ap length (sym c.exponents-exponents.ensures.value)) c.loop-k-test.true refl c.index-update-k.is
    c.in_ok-column-2.ensures.places c.in_ok-column-2.ensures.kind c.in_ok-column-2.ensures.degree c.in_ok-column-2.ensures.weight c.in_ok-column-2.ensures.value c.loop-k.invariant
