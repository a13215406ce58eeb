use Rattle.dc_frac.proofs.PairLaws.{numbers}
use Rattle.dc_frac.proofs.laws.numbers.Goals as goal

pub returns : goal.returns
returns c = numbers
