use Rattle.std.proofs.Common.{drop}
use Rattle.dc_frac.specs.Value.{value}
use Rattle.dc_mainlines.proofs.Sweeps.{MidColumn}
use Rattle.dc_mainlines.proofs.sums.add_column.Given as goal

abbrev pub invariant-loop-e : goal.invariant-loop-e
invariant-loop-e l = MidColumn l.fn.sums l.sums l.column (drop l.e-index l.column) (value l.x)
