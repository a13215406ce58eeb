use Rattle.dc_clauses.specs.Sides.{numbered_case}
use Rattle.dc_clauses.proofs.Tests.{Passed}
use Rattle.dc_clauses.proofs.cases.case_failure.Given as goal

abbrev pub invariant-loop-number : goal.invariant-loop-number
invariant-loop-number l = Passed (numbered_case l.params l.cases l.when) l.number
