use Rattle.std.proofs.Common.{◌≡◌, ◌≤◌, ◌+◌, drop}
use Rattle.dc_system.specs.Folded.{number_in}
use Rattle.dc_system.proofs.folding.number.Given as goal

abbrev pub invariant-loop-other : goal.invariant-loop-other
invariant-loop-other l = (l.below ≤ l.other-index) × (l.below + number_in (drop l.other-index l.left) l.location ≡ number_in l.left l.location)
