use Rattle.std.proofs.Common.{◌≡◌, map, take}
use Rattle.dc_invariant.specs.Lent.{kept_atom}
use Rattle.dc_invariant.proofs.pruning.least_atoms.Given as goal

abbrev pub invariant-loop-row : goal.invariant-loop-row
invariant-loop-row l = l.atoms.items ≡ map (kept_atom l.c l.least) (take l.row-index l.rows)
