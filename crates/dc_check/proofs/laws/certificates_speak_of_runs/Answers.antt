use Rattle.dc_check.proofs.Running.{certificates_speak_of_runs}
use Rattle.dc_check.proofs.laws.certificates_speak_of_runs.Goals as goal

pub returns : goal.returns
returns c = certificates_speak_of_runs
