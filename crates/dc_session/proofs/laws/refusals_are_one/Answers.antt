use Rattle.dc_session.proofs.Stops.{through_or_refused, one_refusal}
use Rattle.dc_session.proofs.laws.refusals_are_one.Goals as goal

pub returns : goal.returns
returns c = record { some = through_or_refused; one = one_refusal }
