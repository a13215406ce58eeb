use Rattle.dc_acceptance.proofs.Accepted.{accepted_are_told, faults_are_folds}
use Rattle.dc_acceptance.proofs.laws.checks_are_answers.Goals as goal

pub returns : goal.returns
returns c = record { certificate = accepted_are_told; fault = faults_are_folds }
