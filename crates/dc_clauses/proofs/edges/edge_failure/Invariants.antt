use Rattle.std.proofs.Common.{◌≡◌, ◌+◌, drop}
use Rattle.dc_clauses.specs.Steps.{counted, first_failure}
use Rattle.dc_clauses.specs.Sides.{paired, edge_test, edge_tests}
use Rattle.dc_clauses.proofs.edges.edge_failure.Given as goal

abbrev pub invariant-loop-k : goal.invariant-loop-k
invariant-loop-k l = first_failure (counted 4 (l.start + l.k) (paired (edge_test l.s l.x) (drop l.k l.edges) (drop l.k l.certs))) ≡ first_failure (counted 4 l.start (edge_tests l.s l.x))
