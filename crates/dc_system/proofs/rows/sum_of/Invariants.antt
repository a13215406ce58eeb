use Rattle.dc_system.proofs.RowSteps.{Summing}
use Rattle.dc_system.proofs.rows.sum_of.Given as goal

abbrev pub invariant-loop-k : goal.invariant-loop-k
invariant-loop-k l = Summing l.places l.coefs l.values l.k l.sum
