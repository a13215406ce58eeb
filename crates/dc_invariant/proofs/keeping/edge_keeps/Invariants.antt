use Rattle.dc_invariant.proofs.Keepings.{EdgeKeepsFirst}
use Rattle.dc_invariant.proofs.keeping.edge_keeps.Given as goal

abbrev pub invariant-loop-number : goal.invariant-loop-number
invariant-loop-number g l = EdgeKeepsFirst l.t l.edge_number l.edge l.atoms l.number l.keeps
