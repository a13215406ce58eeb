use Rattle.dc_answers.proofs.One.{one_list, one_answer}
use Rattle.dc_answers.proofs.laws.answers_are_one.Goals as goal

pub returns : goal.returns
returns c = record { list = one_list; answer = one_answer }
