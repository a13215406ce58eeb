use Rattle.dc_clauses.specs.Sides.{paired, keep_test, atoms_at}
use Rattle.dc_clauses.proofs.Walks.{Walking}
use Rattle.dc_clauses.proofs.keeps.keep_walk.Given as goal

abbrev pub invariant-loop-k : goal.invariant-loop-k
invariant-loop-k l = Walking (λ e c. paired (keep_test l.s l.x e) (atoms_at l.x e.to) c.keeps) l.s.edges l.x.edges 5 l.start l.k l.next
