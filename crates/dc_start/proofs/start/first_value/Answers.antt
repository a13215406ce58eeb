use Rattle.std.proofs.Common.{rules, arith, ◌<◌, length, sym, ◌∙◌, ap, subst, SFits}
use Rattle.std.proofs.lemmas.Int.{to_z-of_z}
use mir.Syntax.{w128}
use Rattle.dc_math.specs.Rational.{of_ℤ}
use Rattle.dc_frac.specs.Fits.{IsSmall}
use Rattle.dc_frac.specs.Value.{value}
use Rattle.dc_lp.specs.Problems.{columns}
use Rattle.dc_start.proofs.Tallies.{entry-small, lowered-small}
use Rattle.dc_start.proofs.Loads.{value-equation, value-lowered, value-cost, value-none, whole-read}
use Rattle.dc_start.proofs.start.first_value.Goals as goal

pub whole-requires : goal.whole-requires
whole-requires c =
    let f : SFits w128 c.first_entry.result = search rules in
    simp to_z-of_z (subst IsSmall (sym c.first_entry.ensures) (entry-small c.args.p.now c.requires.well_formed c.args.row c.args.col))

pub whole-requires-then-row-p-2 : goal.whole-requires-then-row-p-2
whole-requires-then-row-p-2 c =
    let f : SFits w128 c.minus_sum.result = search rules in
    simp to_z-of_z (subst IsSmall (sym c.minus_sum.ensures) (lowered-small c.args.p.now c.requires.well_formed c.args.col c.args.p.now.rows))

pub returns-then-row-p : goal.returns-then-row-p
returns-then-row-p c =
    let f : SFits w128 c.first_entry.result = search rules in
    let w = simp to_z-of_z at c.whole.ensures in
    value-equation c.args.p.now c.args.row c.args.col (value c.whole.result) c.if-row-p.true (w ∙ ap of_ℤ c.first_entry.ensures)

pub returns-then-row-p-2 : goal.returns-then-row-p-2
returns-then-row-p-2 c =
    let f : SFits w128 c.minus_sum.result = search rules in
    let w = simp to_z-of_z at c.whole-then-row-p-2.ensures in
    value-lowered c.args.p.now c.args.row c.args.col (value c.whole-then-row-p-2.result) c.if-row-p-2.true (w ∙ ap of_ℤ c.minus_sum.ensures)

pub returns-then-col-len : goal.returns-then-col-len
returns-then-col-len c =
    let l : c.args.col < columns c.args.p.now = search rules in
    let r : c.args.col < length c.args.p.now.cost.items = omega (arith, c.requires.well_formed.costs) in
    let f : SFits w128 c.index.result.now = search rules in
    let w = simp to_z-of_z at c.whole-then-col-len.ensures in
    value-cost c.args.p.now c.args.row c.args.col (value c.whole-then-col-len.result) c.if-row-p.false c.if-row-p-2.false l
    (w ∙ ap of_ℤ (whole-read c.args.p.now.cost.items c.args.col c.index.result.now r c.index.ensures))

pub returns-else-col-len : goal.returns-else-col-len
returns-else-col-len c = value-none c.args.p.now c.args.row c.args.col (value c.whole-else-col-len.result) c.if-row-p.false c.if-row-p-2.false (search rules) c.whole-else-col-len.ensures
