use Rattle.dc_answers.proofs.Meanings.{outputs_mean}
use Rattle.dc_answers.proofs.laws.outputs_mean_what_they_say.Goals as goal

pub returns : goal.returns
returns c = outputs_mean
