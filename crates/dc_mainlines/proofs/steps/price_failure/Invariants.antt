use Rattle.dc_lp.specs.Problems.{whole_at}
use Rattle.dc_lp.specs.Folds.{numbers}
use Rattle.dc_clauses.specs.Mains.{whole_problem}
use Rattle.dc_clauses.proofs.Tests.{Passed}
use Rattle.dc_mainlines.specs.Sums.{priced}
use Rattle.dc_mainlines.proofs.steps.price_failure.Given as goal

abbrev pub invariant-loop-k : goal.invariant-loop-k
invariant-loop-k l = Passed (priced (whole_problem l.p) l.unknowns (whole_at l.costs) (numbers l.y)) l.k
