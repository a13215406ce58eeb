use Rattle.dc_simplex.proofs.OneOutcome.{has_one_outcome}
use Rattle.dc_simplex.proofs.laws.one_outcome.Goals as goal

pub returns : goal.returns
returns c = has_one_outcome
