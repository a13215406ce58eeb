use Rattle.dc_invariant.proofs.Prunings.{ArePrintedFirst}
use Rattle.dc_invariant.proofs.pruning.printed_each.Given as goal

abbrev pub invariant-loop-location : goal.invariant-loop-location
invariant-loop-location g l = ArePrintedFirst l.t l.location l.printed
