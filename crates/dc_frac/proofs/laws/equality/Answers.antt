use Rattle.dc_frac.proofs.PairLaws.{equality}
use Rattle.dc_frac.proofs.laws.equality.Goals as goal

pub returns : goal.returns
returns c = equality
