use Rattle.std.proofs.Common.{◌≡◌, map}
use Rattle.dc_system.specs.Folded.{renumbered}
use Rattle.dc_system.proofs.folding.renumber.Given as goal

abbrev pub invariant-loop-edge : goal.invariant-loop-edge
invariant-loop-edge l = l.all.items ≡ map (renumbered l.left) l.yielded
