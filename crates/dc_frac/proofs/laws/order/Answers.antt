use Rattle.dc_frac.proofs.PairLaws.{order}
use Rattle.dc_frac.proofs.laws.order.Goals as goal

pub returns : goal.returns
returns c = order
