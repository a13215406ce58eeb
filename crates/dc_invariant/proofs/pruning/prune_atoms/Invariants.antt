use Rattle.dc_invariant.proofs.Prunings.{IsLeft}
use Rattle.dc_invariant.proofs.pruning.prune_atoms.Given as goal

abbrev pub invariant-loop-left : goal.invariant-loop-left
invariant-loop-left g l = IsLeft l.t l.location l.rows l.left l.atoms.items

abbrev pub decreases-loop-left : goal.decreases-loop-left
decreases-loop-left g l = l.left
