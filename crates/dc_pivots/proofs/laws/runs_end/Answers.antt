use Rattle.dc_pivots.proofs.Whole.{ends, ends_soon, never_spent}
use Rattle.dc_math.specs.RationalField.{rationals}
use Rattle.dc_math.specs.Rational.{ℚ}
use Rattle.dc_pivots.proofs.laws.runs_end.Goals as goal

pub returns : goal.returns
returns c = record { ends = ends ℚ rationals; fewer = ends_soon ℚ rationals; enough = never_spent ℚ rationals }
