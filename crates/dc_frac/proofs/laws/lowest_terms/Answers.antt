use Rattle.dc_frac.proofs.PairLaws.{lowest_terms}
use Rattle.dc_frac.proofs.laws.lowest_terms.Goals as goal

pub returns : goal.returns
returns c = lowest_terms
