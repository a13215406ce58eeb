use Rattle.std.proofs.Common.{◌≡◌}
use Rattle.dc_system.specs.Folded.{numbers_below}
use Rattle.dc_system.proofs.folding.numbers.Given as goal

abbrev pub invariant-loop-k : goal.invariant-loop-k
invariant-loop-k l = l.all.items ≡ numbers_below l.k
