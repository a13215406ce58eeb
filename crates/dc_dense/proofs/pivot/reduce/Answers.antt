use Rattle.std.proofs.Common.{◌+◌, ◌<◌, length, sym, arith}
use Rattle.dc_frac.specs.Value.{value}
use Rattle.dc_dense.proofs.Flats.{item-is, IsReducing-column, IsReducing-more, IsReducing-fails}
use Rattle.dc_dense.proofs.pivot.reduce.Goals as goal
use Rattle.dc_dense.proofs.pivot.reduce.Goals.{then-k-col, else-k-col+in-Some}

pub returns-in-None-clause-fits : goal.returns-in-None-clause-fits
returns-in-None-clause-fits c =
    let y = c.index-items-from.result in
    let x = c.index-items-pivot.result in
    let lt : c.args.from + c.loop-k.k < length c.loop-k.items = omega arith in
    let lp : c.args.pivot + c.loop-k.k < length c.loop-k.items = omega arith in
    sym (IsReducing-fails c.args.items.now c.loop-k.items c.args.from c.args.pivot c.args.col c.args.width (value c.args.factor) c.loop-k.k c.requires.apart c.loop-k-test.true lt c.loop-k.invariant
    x y c.if-k-col.false (item-is c.loop-k.items (c.args.from + c.loop-k.k) y lt c.index-items-from.is) (item-is c.loop-k.items (c.args.pivot + c.loop-k.k) x lp c.index-items-pivot.is) c.in-None.ensures)

pub loop-k-preserved : goal.loop-k-preserved
loop-k-preserved c =
    let lt : c.args.from + c.loop-k.k < length c.loop-k.items = omega arith in
    let lp : c.args.pivot + c.loop-k.k < length c.loop-k.items = omega arith in
    elim c.if-k-col.branch [
      | then-k-col w ↦ rw w.items-is (IsReducing-column c.args.items.now c.loop-k.items c.args.from c.args.pivot c.args.col c.args.width (value c.args.factor) c.loop-k.k c.requires.apart c.loop-k-test.true lt c.loop-k.invariant
          w.whole.result w.if-k-col.true w.whole.ensures)
      | else-k-col+in-Some w ↦
          let y = w.index-items-from.result in
          let x = w.index-items-pivot.result in
          rw w.items-is (IsReducing-more c.args.items.now c.loop-k.items c.args.from c.args.pivot c.args.col c.args.width (value c.args.factor) c.loop-k.k c.requires.apart c.loop-k-test.true lt c.loop-k.invariant
          x y w.in-Some.next w.if-k-col.false (item-is c.loop-k.items (c.args.from + c.loop-k.k) y lt w.index-items-from.is) (item-is c.loop-k.items (c.args.pivot + c.loop-k.k) x lp w.index-items-pivot.is) w.in-Some.ensures)
    ]
