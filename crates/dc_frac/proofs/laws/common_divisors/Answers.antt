use Rattle.dc_frac.proofs.PairLaws.{common_divisors}
use Rattle.dc_frac.proofs.laws.common_divisors.Goals as goal

pub returns : goal.returns
returns c = common_divisors
