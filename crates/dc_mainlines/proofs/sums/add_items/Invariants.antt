use Rattle.std.proofs.Common.{drop}
use Rattle.dc_mainlines.proofs.Sweeps.{MidItems}
use Rattle.dc_mainlines.proofs.sums.add_items.Given as goal

abbrev pub invariant-loop-item : goal.invariant-loop-item
invariant-loop-item l = MidItems l.p l.unknowns l.start l.fn.sums l.sums l.items (drop l.item-index l.items)
