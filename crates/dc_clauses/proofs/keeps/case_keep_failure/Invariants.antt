use Rattle.std.proofs.Common.{◌≡◌, ◌+◌, drop}
use Rattle.dc_clauses.specs.Steps.{counted, first_failure}
use Rattle.dc_clauses.specs.Sides.{paired, entry_test}
use Rattle.dc_clauses.proofs.keeps.case_keep_failure.Given as goal

abbrev pub invariant-loop-k : goal.invariant-loop-k
invariant-loop-k l = first_failure (counted 3 (l.start + l.k) (paired (entry_test l.s l.case) (drop l.k l.atoms) (drop l.k l.keeps))) ≡ first_failure (counted 3 l.start (paired (entry_test l.s l.case) l.atoms l.keeps))
