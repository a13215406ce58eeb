use Rattle.dc_frac.proofs.ZeroSums.{right_zero, left_zero, minus_zero, from_zero, fits-value}
use Rattle.dc_frac.proofs.laws.sums_with_zero.Goals as goal

pub returns : goal.returns
returns c = record { right = right_zero; left = left_zero; minus_zero = minus_zero; from_zero = from_zero; fraction = fits-value }
