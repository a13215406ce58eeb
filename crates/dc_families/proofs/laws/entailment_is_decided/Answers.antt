use Rattle.dc_families.proofs.Decided as lemmas
use Rattle.dc_families.proofs.laws.entailment_is_decided.Goals as goal

pub returns : goal.returns
returns c = lemmas.entailment_is_decided
