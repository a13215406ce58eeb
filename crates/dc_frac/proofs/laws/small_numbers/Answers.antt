use Rattle.dc_frac.proofs.SmallSizes.{small_numbers}
use Rattle.dc_frac.proofs.laws.small_numbers.Goals as goal

pub returns : goal.returns
returns c = small_numbers
