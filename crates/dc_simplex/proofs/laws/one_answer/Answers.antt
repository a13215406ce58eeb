use Rattle.dc_simplex.proofs.OneAnswer.{has_answer, has_one_answer}
use Rattle.dc_simplex.proofs.laws.one_answer.Goals as goal

pub returns : goal.returns
returns c = record { some = has_answer; only = has_one_answer }
