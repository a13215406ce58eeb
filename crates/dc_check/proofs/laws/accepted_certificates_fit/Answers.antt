use Rattle.dc_check.proofs.Fitting.{accepted_fit}
use Rattle.dc_check.proofs.laws.accepted_certificates_fit.Goals as goal

pub returns : goal.returns
returns c = accepted_fit
