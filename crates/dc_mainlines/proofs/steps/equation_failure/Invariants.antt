use Rattle.dc_lp.specs.Problems.{whole_at}
use Rattle.dc_clauses.proofs.Tests.{Passed}
use Rattle.dc_mainlines.specs.Sums.{solved}
use Rattle.dc_mainlines.proofs.steps.equation_failure.Given as goal

abbrev pub invariant-loop-row : goal.invariant-loop-row
invariant-loop-row l = Passed (solved l.sums (whole_at l.right)) l.row
