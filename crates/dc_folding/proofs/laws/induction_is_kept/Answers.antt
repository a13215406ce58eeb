use Rattle.dc_folding.proofs.Induction as lemmas
use Rattle.dc_folding.proofs.laws.induction_is_kept.Goals as goal

pub returns : goal.returns
returns c = lemmas.induction_is_kept
