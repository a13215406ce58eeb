use Rattle.std.proofs.Common.{rules, arith, length, SFits, pos, refl}
use Rattle.std.proofs.lemmas.Int.{to_z-of_z}
use mir.Syntax.{w128}
use Rattle.dc_frac.specs.Fits.{IsSmall}
use Rattle.dc_frac.specs.Value.{value}
use Rattle.dc_lp.specs.declared.Entry.{Entry}
use Rattle.std.proofs.Common.{get_or}
use Rattle.dc_mainlines.proofs.Sweeps.{entry_inside, entry_small, column_more, column_ends, column_starts}
use Rattle.dc_mainlines.proofs.sums.add_column.Goals as goal

abbrev none : Entry
none = record { row = 0; value = pos 0 }

pub loop-e-init : goal.loop-e-init
loop-e-init c = column_starts c.args.sums.now c.args.column.now (value c.args.x)

pub bounds-sums-e : goal.bounds-sums-e
bounds-sums-e c =
    let l = entry_inside (length c.args.sums.now) c.args.column.now c.loop-e.e-index none c.requires c.loop-e-test.true in
    let e = c.loop-e.invariant.one_each in
    omega arith

pub offset_bounds-sums-e : goal.offset_bounds-sums-e
offset_bounds-sums-e c =
    let l = entry_inside (length c.args.sums.now) c.args.column.now c.loop-e.e-index none c.requires c.loop-e-test.true in
    let e = c.loop-e.invariant.one_each in
    search rules

pub bounds-sums-e-in-loop-e : goal.bounds-sums-e-in-loop-e
bounds-sums-e-in-loop-e c =
    let l = entry_inside (length c.args.sums.now) c.args.column.now c.loop-e.e-index none c.requires c.loop-e-test.true in
    let e = c.loop-e.invariant.one_each in
    omega arith

pub offset_bounds-sums-e-in-loop-e : goal.offset_bounds-sums-e-in-loop-e
offset_bounds-sums-e-in-loop-e c =
    let l = entry_inside (length c.args.sums.now) c.args.column.now c.loop-e.e-index none c.requires c.loop-e-test.true in
    let e = c.loop-e.invariant.one_each in
    search rules

pub loop-e-preserved : goal.loop-e-preserved
loop-e-preserved c =
    let s : IsSmall (get_or c.args.column.now c.loop-e.e-index none).value = entry_small (length c.args.sums.now) c.args.column.now c.loop-e.e-index none c.requires c.loop-e-test.true in
    let f : SFits w128 (get_or c.args.column.now c.loop-e.e-index none).value = search rules in
    column_more c.args.sums.now c.loop-e.sums c.args.column.now (value c.args.x) c.loop-e.e-index none c.index-sums-e.result c.with_one.result _ c.requires c.loop-e-test.true
    c.index-sums-e.is (simp to_z-of_z refl) c.with_one.ensures c.loop-e.invariant

pub returns : goal.returns
returns c = column_ends c.args.sums.now c.loop-e.sums c.args.column.now (value c.args.x) c.loop-e.e-index (omega arith) c.loop-e.invariant
