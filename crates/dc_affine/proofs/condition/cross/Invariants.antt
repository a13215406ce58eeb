use Rattle.std.proofs.Common.{◌≡◌, ◌++◌, drop}
use Rattle.dc_affine.specs.Table.{crossed}
use Rattle.dc_affine.specs.Atoms.{cases_of}
use Rattle.dc_affine.proofs.condition.cross.Given as goal

abbrev pub invariant-loop-case : goal.invariant-loop-case
invariant-loop-case l = cases_of l.out.items ++ crossed (cases_of (drop l.case-index l.left)) (cases_of l.right) ≡ crossed (cases_of l.left) (cases_of l.right)
