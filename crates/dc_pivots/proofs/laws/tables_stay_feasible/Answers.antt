use Rattle.dc_math.specs.Rational.{ℚ}
use Rattle.dc_math.specs.RationalField.{rationals}
use Rattle.dc_pivots.proofs.Cells.{stays_feasible, pivots_have_cells}
use Rattle.dc_pivots.proofs.laws.tables_stay_feasible.Goals as goal

pub returns : goal.returns
returns c = record { feasible = stays_feasible ℚ rationals; cells = pivots_have_cells }
