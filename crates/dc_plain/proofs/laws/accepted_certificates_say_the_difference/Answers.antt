use Rattle.dc_plain.proofs.Accepted.{accepted_say_difference}
use Rattle.dc_plain.proofs.laws.accepted_certificates_say_the_difference.Goals as goal

pub returns : goal.returns
returns c = accepted_say_difference
