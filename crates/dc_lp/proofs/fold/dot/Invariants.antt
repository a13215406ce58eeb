use Rattle.std.proofs.Common.{◌≡◌, Some}
use Rattle.dc_frac.specs.Value.{value}
use Rattle.dc_lp.specs.Problems.{whole_at}
use Rattle.dc_lp.specs.Folds.{folded, numbers}
use Rattle.dc_lp.proofs.fold.dot.Given as goal

abbrev pub invariant-loop-i : goal.invariant-loop-i
invariant-loop-i l = folded l.i (whole_at l.a) (numbers l.x) ≡ Some (value l.sum)
