use Rattle.std.proofs.Common.{◌≡◌, ◌+◌}
use Rattle.dc_system.specs.Edges.{variables}
use Rattle.dc_system.proofs.laying.variables.Given as goal

abbrev pub invariant-loop-k : goal.invariant-loop-k
invariant-loop-k l = l.update.items ≡ variables (l.vars + 1) l.k
