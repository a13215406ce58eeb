use Rattle.dc_trace.proofs.Paid.{paid_is_cost}
use Rattle.dc_trace.proofs.laws.paid_is_cost.Goals as goal

pub returns : goal.returns
returns c fits = paid_is_cost fits
