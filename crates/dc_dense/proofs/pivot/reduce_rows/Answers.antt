use Rattle.std.proofs.Common.{rules, true, false, ◌≡◌, IsTrue, length, sym}
use Rattle.dc_dense.specs.Flat.{row_fits}
use Rattle.dc_dense.proofs.Flats.{AreReducing-skip, AreReducing-more, AreReducing-fails}
use Rattle.dc_dense.proofs.pivot.reduce_rows.Goals as goal
use Rattle.dc_dense.proofs.pivot.reduce_rows.Goals.{then-i-row+else-not-reduce_row, else-i-row}

pub returns-then-not-reduce_row-clause-fits : goal.returns-then-not-reduce_row-clause-fits
returns-then-not-reduce_row-clause-fits c =
    let no : false ≡ row_fits c.loop-i.items c.args.width c.args.row c.args.col c.loop-i.i = (cc) in
    sym (AreReducing-fails c.args.items.now c.loop-i.items c.args.width c.args.row c.args.col c.loop-i.i c.args.height c.loop-i.invariant c.requires.column c.loop-i-test.true no)

pub loop-i-preserved : goal.loop-i-preserved
loop-i-preserved c = elim c.if-i-row.branch [
  | then-i-row+else-not-reduce_row w ↦
      (let ok : true ≡ row_fits c.loop-i.items c.args.width c.args.row c.args.col c.loop-i.i = (cc) in
      let yes : IsTrue w.reduce_row.result = search rules in
      let long : length w.reduce_row.new.items ≡ length c.loop-i.items = search rules in
      rw w.items-is (AreReducing-more c.args.items.now c.loop-i.items w.reduce_row.new.items c.args.width c.args.row c.args.col c.loop-i.i c.loop-i.invariant
      w.if-i-row.true c.requires.column ok (w.reduce_row.ensures.reduced yes) w.reduce_row.ensures.others long))
  | else-i-row w ↦ rw w.items-is (AreReducing-skip c.args.items.now c.loop-i.items c.args.width c.args.row c.args.col c.loop-i.i c.loop-i.invariant w.if-i-row.false)
]
