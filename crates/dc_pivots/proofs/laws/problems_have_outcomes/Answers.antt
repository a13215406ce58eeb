use Rattle.dc_pivots.proofs.Rationals.{has_outcome}
use Rattle.dc_pivots.proofs.laws.problems_have_outcomes.Goals as goal

pub returns : goal.returns
returns c = has_outcome
