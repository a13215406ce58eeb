use Rattle.std.proofs.Common.{◌≡◌}
use Rattle.dc_start.specs.Starts.{lowered}
use Rattle.dc_start.proofs.start.minus_sum.Given as goal

abbrev pub invariant-loop-row : goal.invariant-loop-row
invariant-loop-row l = l.total ≡ lowered l.p l.col l.row
