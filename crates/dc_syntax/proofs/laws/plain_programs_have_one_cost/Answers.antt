use Rattle.dc_syntax.proofs.PlainRuns.{plain-runs_once, plain-costs_once, plain-costs_differ}
use Rattle.dc_syntax.proofs.laws.plain_programs_have_one_cost.Goals as goal

pub returns-clause-runs : goal.returns-clause-runs
returns-clause-runs c = plain-runs_once

pub returns-clause-costs : goal.returns-clause-costs
returns-clause-costs c = plain-costs_once

pub returns-clause-differences : goal.returns-clause-differences
returns-clause-differences c = plain-costs_differ
