use Rattle.std.proofs.Common.{refl, rules, arith, sym, ◌∙◌, ap, Some, SFits, get_or, pos}
use Rattle.std.proofs.lemmas.Int.{to_z-of_z}
use mir.Syntax.{w128}
use Rattle.dc_frac.specs.Fits.{IsSmall}
use Rattle.dc_frac.specs.Value.{value}
use Rattle.dc_lp.specs.declared.Entry.{Entry}
use Rattle.dc_lp.specs.Problems.{coefficient_in}
use Rattle.dc_lp.specs.Folds.{numbers}
use Rattle.dc_lp.proofs.Folding.{folded-none, entry-row, entry-small, more_priced, past_priced, all_priced}
use Rattle.dc_lp.proofs.fold.price.Goals as goal

abbrev none : Entry
none = record { row = 0; value = pos 0 }

pub loop-e-init : goal.loop-e-init
loop-e-init c = folded-none (coefficient_in c.args.column.now) (numbers c.args.y.now) ∙ ap Some (sym c.whole-sum.ensures)

pub bounds-y-e : goal.bounds-y-e
bounds-y-e c = entry-row c.args.column.now c.args.y.now c.requires c.loop-e.e-index none c.loop-e-test.true

pub offset_bounds-y-e : goal.offset_bounds-y-e
offset_bounds-y-e c =
    let l = entry-row c.args.column.now c.args.y.now c.requires c.loop-e.e-index none c.loop-e-test.true in
    search rules

pub returns-in_err-sum : goal.returns-in_err-sum
returns-in_err-sum c =
    let s : IsSmall (get_or c.args.column.now c.loop-e.e-index none).value = entry-small c.args.column.now c.args.y.now c.requires c.loop-e.e-index none c.loop-e-test.true in
    let f : SFits w128 (get_or c.args.column.now c.loop-e.e-index none).value = search rules in
    rw c.from_residual.ensures (past_priced c.args.column.now c.args.y.now c.requires c.loop-e.e-index none _ c.loop-e.sum c.index-y-e.result c.loop-e-test.true
    c.loop-e.invariant (simp to_z-of_z refl) c.index-y-e.is c.in_err-sum.ensures)

pub loop-e-preserved : goal.loop-e-preserved
loop-e-preserved c =
    let s : IsSmall (get_or c.args.column.now c.loop-e.e-index none).value = entry-small c.args.column.now c.args.y.now c.requires c.loop-e.e-index none c.loop-e-test.true in
    let f : SFits w128 (get_or c.args.column.now c.loop-e.e-index none).value = search rules in
    more_priced c.args.column.now c.args.y.now c.requires c.loop-e.e-index none _ c.loop-e.sum c.in_ok-sum.sum c.index-y-e.result c.loop-e-test.true
    c.loop-e.invariant (simp to_z-of_z refl) c.index-y-e.is c.in_ok-sum.ensures

pub returns : goal.returns
returns c = all_priced c.args.column.now c.args.y.now c.requires c.loop-e.e-index (value c.loop-e.sum) (omega arith) c.loop-e.invariant
