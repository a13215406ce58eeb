use Rattle.dc_lp.specs.Folds.{numbers}
use Rattle.dc_lp.specs.Verdicts.{AllHold, refutation_test}
use Rattle.dc_lp.proofs.check.check_refutation.Given as goal

abbrev pub invariant-loop-j : goal.invariant-loop-j
invariant-loop-j l = AllHold (refutation_test l.p (numbers l.y)) l.j
