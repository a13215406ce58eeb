use Rattle.std.proofs.Common.{length}
use Rattle.dc_sparse.specs.Webs.{AreFreed}
use Rattle.dc_sparse.proofs.memory.free_all.Given as goal

abbrev pub invariant-loop-node : goal.invariant-loop-node
invariant-loop-node l = AreFreed l.nodes.items (length l.initial.nodes.items) l.node
