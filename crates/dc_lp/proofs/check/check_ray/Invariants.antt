use Rattle.dc_lp.specs.Folds.{numbers}
use Rattle.dc_lp.specs.Verdicts.{AllHold, ray_test}
use Rattle.dc_lp.specs.Problems.{columns}
use Rattle.std.proofs.Common.{◌+◌}
use Rattle.dc_lp.proofs.check.check_ray.Given as goal

abbrev pub invariant-loop-j : goal.invariant-loop-j
invariant-loop-j l = AllHold (ray_test l.p (numbers l.r)) l.j

abbrev pub invariant-loop-i : goal.invariant-loop-i
invariant-loop-i l = AllHold (ray_test l.p (numbers l.r)) (columns l.p + l.i)
