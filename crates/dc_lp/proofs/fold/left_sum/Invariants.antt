use Rattle.std.proofs.Common.{◌≡◌, Some}
use Rattle.dc_frac.specs.Value.{value}
use Rattle.dc_lp.specs.Problems.{coefficient}
use Rattle.dc_lp.specs.Folds.{folded, numbers}
use Rattle.dc_lp.proofs.fold.left_sum.Given as goal

abbrev pub invariant-loop-j : goal.invariant-loop-j
invariant-loop-j l = folded l.j (coefficient l.p l.row) (numbers l.x) ≡ Some (value l.sum)
