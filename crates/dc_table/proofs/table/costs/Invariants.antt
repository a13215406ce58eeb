use Rattle.std.proofs.Common.{◌≡◌, ◌-◌, ◌∷◌, replicate, pos, negsuc}
use Rattle.dc_table.proofs.table.costs.Given as goal

abbrev pub invariant-loop-column : goal.invariant-loop-column
invariant-loop-column l = l.cost.items ≡ pos 1 ∷ negsuc 0 ∷ replicate (l._column - 2) (pos 0)
