use Rattle.std.proofs.Common.{◌≢◌, arith, rules, pos, sym, ◌∙◌, ap, add-one, get_or}
use Rattle.dc_lp.specs.declared.Entry.{Entry}
use Rattle.dc_lp.proofs.Columns.{next, row_after, row_after-next, AreEntries-more}
use Rattle.dc_lp.proofs.shape.are_entries.Goals as goal
use Rattle.dc_lp.proofs.shape.are_entries.Goals.{then-e-low-via-then-e-low, then-e-low-via-else-e-low+then-e-rows, then-e-low-via-else-e-low+else-e-rows+then-e-eq0}

abbrev none : Entry
none = record { row = 0; value = pos 0 }

pub returns-then-e-low : goal.returns-then-e-low
returns-then-e-low c = (
  λ e. absurd (cc),
  λ h.
      let n = next 0 c.args.rows c.args.column.now c.loop-e.e-index none h c.loop-e-test.true in
      elim c.then-e-low.branch [
        | then-e-low-via-then-e-low w ↦ absurd (omega (arith, n.later, w.if-e-low.true, c.loop-e.invariant.low))
        | then-e-low-via-else-e-low+then-e-rows w ↦ absurd (omega (arith, n.inside, w.if-e-rows.true))
        | then-e-low-via-else-e-low+else-e-rows+then-e-eq0 w ↦ absurd (n.nonzero (search rules))
      ],
)

pub loop-e-preserved : goal.loop-e-preserved
loop-e-preserved c =
    let nz : (get_or c.args.column.now c.loop-e.e-index none).value ≢ pos 0 = search rules in
    record {
      low = add-one _ ∙ sym (row_after-next 0 c.args.column.now c.loop-e.e-index none c.loop-e-test.true) ∙ ap (row_after 0 c.args.column.now) (sym (add-one c.loop-e.e-index));
      entries = AreEntries-more c.args.rows c.loop-e.low c.loop-e.e-index c.args.column.now none c.loop-e.invariant.entries c.loop-e.invariant.low c.loop-e-test.true c.if-e-low.false c.if-e-rows.false nz;
    }
