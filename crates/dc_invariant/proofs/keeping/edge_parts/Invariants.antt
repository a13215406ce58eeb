use Rattle.dc_invariant.proofs.Keepings.{ArePartsFirst}
use Rattle.dc_invariant.proofs.keeping.edge_parts.Given as goal

abbrev pub invariant-loop-number : goal.invariant-loop-number
invariant-loop-number g l = ArePartsFirst l.t l.number l.parts
