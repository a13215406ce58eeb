use Rattle.dc_lp.specs.Folds.{numbers}
use Rattle.dc_lp.specs.Verdicts.{AllHold, dual_test}
use Rattle.dc_lp.proofs.check.check_dual.Given as goal

abbrev pub invariant-loop-j : goal.invariant-loop-j
invariant-loop-j l = AllHold (dual_test l.p (numbers l.x) (numbers l.y)) l.j
