use Rattle.std.proofs.Common.{◌≡◌, take, map, ◌++◌}
use Rattle.dc_moves.specs.Cuts.{cut_to}
use Rattle.dc_moves.proofs.lists.with_guard.Given as goal

abbrev pub invariant-loop-atom : goal.invariant-loop-atom
invariant-loop-atom l = l.atoms.items ≡ l.fn.atoms.items ++ map (cut_to l.places) (take l.atom-index l.atom-items)
