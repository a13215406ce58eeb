use Rattle.std.proofs.Common.{eqb}
use Rattle.dc_system.specs.declared.edges.Edge.{Edge}
use Rattle.dc_system.proofs.Onlies.{Found}
use Rattle.dc_system.proofs.folding.only_out_of.Given as goal

abbrev pub invariant-loop-k : goal.invariant-loop-k
invariant-loop-k l = Found (λ (e : Edge). eqb e.from l.location) l.edges l.k l.found
