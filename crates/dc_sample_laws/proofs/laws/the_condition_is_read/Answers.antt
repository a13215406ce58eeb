use Rattle.dc_sample_laws.proofs.Condition.{condition_read}
use Rattle.dc_sample_laws.proofs.laws.the_condition_is_read.Goals as goal

pub returns : goal.returns
returns c = λ costs. condition_read
