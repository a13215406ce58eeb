use Rattle.dc_simplex.proofs.OneAnswer.{has_answer, has_one_answer}
use Rattle.dc_entail.proofs.Refusals as lemmas
use Rattle.dc_entail.proofs.laws.refused_or_done.Goals as goal

pub returns : goal.returns
returns c = record { excludes = lemmas.excludes has_one_answer; one = lemmas.done_or_refused has_answer }
