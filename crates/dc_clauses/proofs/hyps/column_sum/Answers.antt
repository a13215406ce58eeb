use Rattle.std.proofs.Common.{rules, ◌∙◌, Some, SFits, pos}
use Rattle.std.proofs.lemmas.Int.{to_z-of_z}
use mir.Syntax.{w128}
use Rattle.dc_math.specs.Rational.{of_ℤ}
use Rattle.dc_frac.specs.Value.{value}
use Rattle.dc_clauses.specs.Lines.{part}
use Rattle.dc_clauses.specs.Items.{items_sum}
use Rattle.dc_clauses.proofs.Items.{items_sum-folded, sum_more, sum_past, sum_ends}
use Rattle.dc_clauses.proofs.hyps.column_sum.Goals as goal

pub returns-in_err-sum : goal.returns-in_err-sum
returns-in_err-sum c =
    let a = part c.args.places c.args.atom.now in
    let f : SFits w128 c.part.result = search rules in
    rw c.from_residual.ensures (sum_past a c.args.items.now c.loop-item.item-index c.item-item.result c.loop-item.sum _ (items_sum a (Some (of_ℤ (pos 0))) c.args.items.now)
    c.loop-item-test.true c.item-item.is (simp to_z-of_z c.part.ensures.value) c.in_err-sum.ensures c.loop-item.invariant
    ∙ items_sum-folded _ a c.args.items.now c.requires.rising c.requires.below)

pub loop-item-preserved : goal.loop-item-preserved
loop-item-preserved c =
    let a = part c.args.places c.args.atom.now in
    let f : SFits w128 c.part.result = search rules in
    sum_more a c.args.items.now c.loop-item.item-index c.item-item.result c.loop-item.sum c.in_ok-sum.sum _ (items_sum a (Some (of_ℤ (pos 0))) c.args.items.now)
    c.loop-item-test.true c.item-item.is (simp to_z-of_z c.part.ensures.value) c.in_ok-sum.ensures c.loop-item.invariant

pub returns : goal.returns
returns c =
    let a = part c.args.places c.args.atom.now in
    sum_ends a c.args.items.now c.loop-item.item-index (value c.loop-item.sum) (items_sum a (Some (of_ℤ (pos 0))) c.args.items.now) c.loop-item-test.false c.loop-item.invariant
    ∙ items_sum-folded _ a c.args.items.now c.requires.rising c.requires.below
