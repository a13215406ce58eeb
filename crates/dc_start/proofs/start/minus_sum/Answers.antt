use Rattle.std.proofs.Common.{rules, ◌≡◌, ◌+◌, sym, subst, SFits, to_z}
use Rattle.std.specs.Prelude.{◌-ℤ◌}
use Rattle.std.proofs.lemmas.Int.{to_z-of_z, fits_signed_from_abs}
use mir.Syntax.{w128}
use Rattle.dc_frac.specs.Fits.{IsSmall}
use Rattle.dc_start.specs.Starts.{lowered}
use Rattle.dc_start.proofs.Tallies.{lowered-small}
use Rattle.dc_start.proofs.Loads.{lowered-start, lowered-more}
use Rattle.dc_start.proofs.start.minus_sum.Goals as goal

pub loop-row-init : goal.loop-row-init
loop-row-init c = lowered-start c.args.p.now c.args.col

pub overflow_sub-total : goal.overflow_sub-total
overflow_sub-total c =
    let f : SFits w128 c.first_entry-total.result = search rules in
    let e = lowered-more c.args.p.now c.args.col c.loop-row.row (to_z w128 c.loop-row.total-bits) c.first_entry-total.result c.loop-row.invariant c.first_entry-total.ensures in
    simp to_z-of_z (fits_signed_from_abs w128 _ (subst IsSmall (sym e) (lowered-small c.args.p.now c.requires.well_formed c.args.col (c.loop-row.row + 1))))

pub loop-row-preserved : goal.loop-row-preserved
loop-row-preserved c =
    let f : SFits w128 c.first_entry-total.result = search rules in
    let e : to_z w128 c.loop-row.total-bits -ℤ c.first_entry-total.result ≡ lowered c.args.p.now c.args.col (c.loop-row.row + 1) = lowered-more c.args.p.now c.args.col c.loop-row.row (to_z w128 c.loop-row.total-bits) c.first_entry-total.result c.loop-row.invariant c.first_entry-total.ensures in
    let g : SFits w128 (to_z w128 c.loop-row.total-bits -ℤ c.first_entry-total.result) = fits_signed_from_abs w128 _ (subst IsSmall (sym e) (lowered-small c.args.p.now c.requires.well_formed c.args.col (c.loop-row.row + 1))) in
    simp to_z-of_z e
