use Rattle.dc_acceptance.proofs.Accepted.{made_have_systems}
use Rattle.dc_acceptance.proofs.Certificates.{made_are_certificates}
use Rattle.dc_acceptance.proofs.laws.made_are_certificates.Goals as goal

pub returns : goal.returns
returns c = record { ranges = made_are_certificates; systems = made_have_systems }
