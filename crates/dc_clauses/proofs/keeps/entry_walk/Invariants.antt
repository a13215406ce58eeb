use Rattle.dc_clauses.specs.Sides.{paired, entry_test, atoms_at}
use Rattle.dc_clauses.proofs.Walks.{Walking}
use Rattle.dc_clauses.proofs.keeps.entry_walk.Given as goal

abbrev pub invariant-loop-k : goal.invariant-loop-k
invariant-loop-k l = Walking (λ case ks. paired (entry_test l.s case) (atoms_at l.x 0) ks) l.cases l.x.entry_keeps 3 l.start l.k l.next
