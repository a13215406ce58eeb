use Rattle.dc_existence.proofs.Answered.{has_answer}
use Rattle.dc_existence.proofs.Named.{has_names}
use Rattle.dc_existence.proofs.Spared.{want_is_no_answer}
use Rattle.dc_existence.proofs.laws.words_have_answers.Goals as goal

pub returns : goal.returns
returns c = record { names = has_names; answer = has_answer; memory = want_is_no_answer }
