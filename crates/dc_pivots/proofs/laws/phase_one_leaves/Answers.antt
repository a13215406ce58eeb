use Rattle.dc_pivots.proofs.Opposites.{phase_one-leaves}
use Rattle.dc_math.specs.RationalField.{rationals}
use Rattle.dc_math.specs.Rational.{ℚ}
use Rattle.dc_pivots.proofs.laws.phase_one_leaves.Goals as goal

pub returns : goal.returns
returns c = phase_one-leaves ℚ rationals
