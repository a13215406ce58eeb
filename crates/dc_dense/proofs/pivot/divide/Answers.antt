use Rattle.std.proofs.Common.{◌+◌, ◌<◌, length, sym, arith}
use Rattle.dc_frac.specs.Value.{value}
use Rattle.dc_dense.proofs.Flats.{item-is, IsDividing-more, IsDividing-fails}
use Rattle.dc_dense.proofs.pivot.divide.Goals as goal

pub returns-in-None-clause-fits : goal.returns-in-None-clause-fits
returns-in-None-clause-fits c =
    let x = c.index-items-from.result in
    let lt : c.args.from + c.loop-k.k < length c.loop-k.items = omega arith in
    sym (IsDividing-fails c.args.items.now c.loop-k.items c.args.from (value c.args.by) c.loop-k.k c.loop-k.invariant c.args.width x c.loop-k-test.true
    (item-is c.loop-k.items (c.args.from + c.loop-k.k) x lt c.index-items-from.is) c.in-None.ensures)

pub loop-k-preserved : goal.loop-k-preserved
loop-k-preserved c =
    let x = c.index-items-from.result in
    let lt : c.args.from + c.loop-k.k < length c.loop-k.items = omega arith in
    IsDividing-more c.args.items.now c.loop-k.items c.args.from (value c.args.by) c.loop-k.k c.loop-k.invariant x c.in-Some.quotient lt
    (item-is c.loop-k.items (c.args.from + c.loop-k.k) x lt c.index-items-from.is) c.in-Some.ensures
