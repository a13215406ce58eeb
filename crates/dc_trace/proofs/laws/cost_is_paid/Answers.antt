use Rattle.dc_trace.proofs.Owed.{cost_is_paid}
use Rattle.dc_trace.proofs.laws.cost_is_paid.Goals as goal

pub returns : goal.returns
returns c = cost_is_paid
