use Rattle.dc_folding.proofs.OneFold as lemmas
use Rattle.dc_folding.proofs.laws.one_fold_certifies.Goals as goal

pub returns : goal.returns
returns c = lemmas.one_fold
