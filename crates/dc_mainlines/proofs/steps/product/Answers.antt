use Rattle.std.proofs.Common.{◌<◌, ◌∙◌, rules, sym, subst, length, Some, SFits, pos, refl}
use Rattle.std.proofs.lemmas.Int.{to_z-of_z}
use mir.Syntax.{w128}
use Rattle.dc_math.specs.Rational.{of_ℤ}
use Rattle.dc_frac.specs.Fits.{IsSmall}
use Rattle.dc_frac.specs.Value.{value}
use Rattle.dc_lp.specs.Problems.{whole_at}
use Rattle.dc_cert.specs.declared.sparse.Item.{Item}
use Rattle.dc_clauses.proofs.Items.{items_sum, items_sum-folded, sum_more, sum_past, sum_ends}
use Rattle.dc_mainlines.proofs.steps.product.Goals as goal

pub returns-in_err-sum : goal.returns-in_err-sum
returns-in_err-sum c =
    let a = whole_at c.args.numbers.now in
    let l : c.item-item.result.index < length c.args.numbers.now = subst (λ (i : Item). i.index < length c.args.numbers.now) (sym c.item-item.is) (c.requires.below c.loop-item.item-index c.item-item.result c.loop-item-test.true) in
    let s : IsSmall (whole_at c.args.numbers.now c.item-item.result.index) = c.requires.small c.item-item.result.index l in
    let f : SFits w128 (whole_at c.args.numbers.now c.item-item.result.index) = search rules in
    rw c.from_residual.ensures (sum_past a c.args.items.now c.loop-item.item-index c.item-item.result c.loop-item.sum _ (items_sum a (Some (of_ℤ (pos 0))) c.args.items.now)
    c.loop-item-test.true c.item-item.is (simp to_z-of_z refl) c.in_err-sum.ensures c.loop-item.invariant
    ∙ items_sum-folded _ a c.args.items.now c.requires.rising c.requires.below)

pub loop-item-preserved : goal.loop-item-preserved
loop-item-preserved c =
    let a = whole_at c.args.numbers.now in
    let l : c.item-item.result.index < length c.args.numbers.now = subst (λ (i : Item). i.index < length c.args.numbers.now) (sym c.item-item.is) (c.requires.below c.loop-item.item-index c.item-item.result c.loop-item-test.true) in
    let s : IsSmall (whole_at c.args.numbers.now c.item-item.result.index) = c.requires.small c.item-item.result.index l in
    let f : SFits w128 (whole_at c.args.numbers.now c.item-item.result.index) = search rules in
    sum_more a c.args.items.now c.loop-item.item-index c.item-item.result c.loop-item.sum c.in_ok-sum.sum _ (items_sum a (Some (of_ℤ (pos 0))) c.args.items.now)
    c.loop-item-test.true c.item-item.is (simp to_z-of_z refl) c.in_ok-sum.ensures c.loop-item.invariant

pub returns : goal.returns
returns c =
    let a = whole_at c.args.numbers.now in
    sum_ends a c.args.items.now c.loop-item.item-index (value c.loop-item.sum) (items_sum a (Some (of_ℤ (pos 0))) c.args.items.now) c.loop-item-test.false c.loop-item.invariant
    ∙ items_sum-folded _ a c.args.items.now c.requires.rising c.requires.below
