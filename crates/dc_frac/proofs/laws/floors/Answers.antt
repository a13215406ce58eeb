use Rattle.dc_frac.proofs.PairLaws.{floors}
use Rattle.dc_frac.proofs.laws.floors.Goals as goal

pub returns : goal.returns
returns c = floors
