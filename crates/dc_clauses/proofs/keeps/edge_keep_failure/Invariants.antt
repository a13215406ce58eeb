use Rattle.std.proofs.Common.{◌≡◌, ◌+◌, drop}
use Rattle.dc_clauses.specs.Steps.{counted, first_failure}
use Rattle.dc_clauses.specs.Sides.{paired, keep_test}
use Rattle.dc_clauses.proofs.keeps.edge_keep_failure.Given as goal

abbrev pub invariant-loop-k : goal.invariant-loop-k
invariant-loop-k l = first_failure (counted 5 (l.start + l.k) (paired (keep_test l.s l.x l.e) (drop l.k l.atoms) (drop l.k l.keeps))) ≡ first_failure (counted 5 l.start (paired (keep_test l.s l.x l.e) l.atoms l.keeps))
