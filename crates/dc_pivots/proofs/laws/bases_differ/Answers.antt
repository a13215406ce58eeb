use Rattle.dc_pivots.proofs.Whole.{never_repeats}
use Rattle.dc_math.specs.RationalField.{rationals}
use Rattle.dc_math.specs.Rational.{ℚ}
use Rattle.dc_pivots.proofs.laws.bases_differ.Goals as goal

pub returns : goal.returns
returns c = never_repeats ℚ rationals
