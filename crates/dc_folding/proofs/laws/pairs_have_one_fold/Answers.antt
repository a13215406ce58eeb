use Rattle.dc_folding.proofs.Whole as lemmas
use Rattle.dc_folding.proofs.laws.pairs_have_one_fold.Goals as goal

pub returns : goal.returns
returns c = record { some = lemmas.some_fold; one = lemmas.one_fold_of }
