use Rattle.std.proofs.Common.{◌≡◌, ◌++◌, take}
use Rattle.dc_affine.proofs.condition.append.Given as goal

abbrev pub invariant-loop-atom : goal.invariant-loop-atom
invariant-loop-atom l = l.case.items ≡ l.initial.case.items ++ take l.atom-index l.atoms
