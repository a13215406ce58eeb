use Rattle.dc_pivots.proofs.Opposites.{stay_opposite}
use Rattle.dc_math.specs.RationalField.{rationals}
use Rattle.dc_math.specs.Rational.{ℚ}
use Rattle.dc_pivots.proofs.laws.opposites_stay.Goals as goal

pub returns : goal.returns
returns c = stay_opposite ℚ rationals
