use Rattle.std.proofs.Common.{◌≡◌, ◌++◌}
use Rattle.dc_affine.specs.Atoms.{cases_of}
use Rattle.dc_system.specs.Edges.{test_edges}
use Rattle.dc_system.proofs.laying.branch.Given as goal

abbrev pub invariant-loop-guard : goal.invariant-loop-guard
invariant-loop-guard l = l.out.items ≡ l.initial.out.items ++ test_edges l.vars l.from l.to (cases_of l.yielded)
