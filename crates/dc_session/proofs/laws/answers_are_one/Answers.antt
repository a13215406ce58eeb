use Rattle.dc_session.proofs.Stops.{one_certificate, certificates_exclude}
use Rattle.dc_session.proofs.laws.answers_are_one.Goals as goal

pub returns : goal.returns
returns c = record { certificate = one_certificate; excludes = certificates_exclude }
