use Rattle.dc_sparse.specs.Webs.{AreEmpty}
use Rattle.dc_sparse.proofs.memory.no_heads.Given as goal

abbrev pub invariant-loop : goal.invariant-loop
invariant-loop l = AreEmpty l.heads.items l.counter
