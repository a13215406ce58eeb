use Rattle.dc_folding.proofs.Whole as lemmas
use Rattle.dc_folding.proofs.laws.folding_loses_nothing.Goals as goal

pub returns : goal.returns
returns c = record { certified = lemmas.folding_loses_nothing; least = lemmas.least_never_rises }
