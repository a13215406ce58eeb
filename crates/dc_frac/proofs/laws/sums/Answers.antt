use Rattle.dc_frac.proofs.PairLaws.{sums}
use Rattle.dc_frac.proofs.laws.sums.Goals as goal

pub returns : goal.returns
returns c = sums
