use Rattle.dc_acceptance.proofs.Accepted.{made_are_narrow, made_are_true}
use Rattle.dc_acceptance.proofs.laws.made_are_accepted.Goals as goal

pub returns : goal.returns
returns c = record { narrow = made_are_narrow; no_false = made_are_true }
