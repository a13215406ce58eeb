use Rattle.dc_session.proofs.Certificates.{one_made}
use Rattle.dc_session.proofs.Repeated.{made_repeats}
use Rattle.dc_session.proofs.laws.certificates_are_one.Goals as goal

pub returns : goal.returns
returns c = record { one = one_made; repeats = made_repeats }
