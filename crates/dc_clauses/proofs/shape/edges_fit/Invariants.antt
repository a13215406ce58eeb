use Rattle.std.proofs.Common.{◌≡◌, drop}
use Rattle.std.specs.List.{list_all}
use Rattle.dc_clauses.specs.Sides.{paired, edge_fits}
use Rattle.dc_clauses.proofs.shape.edges_fit.Given as goal

abbrev pub invariant-loop-k : goal.invariant-loop-k
invariant-loop-k l = list_all (λ fits. fits) (paired (edge_fits l.s l.x) (drop l.k l.edges) (drop l.k l.certs)) ≡ list_all (λ fits. fits) (paired (edge_fits l.s l.x) l.edges l.certs)
