-- The tables of a run whose pivots fit hold numbers that fit.
use Rattle.std.specs.Prelude.{◌≡◌, ℕ, ℤ, Some}
use Rattle.dc_math.specs.Rational.{ℚ}
use Rattle.dc_math.specs.RationalField.{rationals}
use Rattle.dc_lp.specs.Linear.{Linear}
use Rattle.dc_pivots.specs.Runs.{State, run}
use Rattle.dc_simplex.specs.Limits.{AllFit}
use Rattle.dc_points.specs.Stated.{rational}
use Rattle.dc_acceptance.proofs.FittingRuns.{run_have}
use Rattle.dc_endings.proofs.Numbers.{IsNumber, zero_number}
use Rattle.dc_endings.proofs.Starts.{IsLight, AreNumbers, start_numbers}

pub run_numbers : (m : Linear ℤ) → IsLight m → (n : ℕ) (s : State ℚ) → run ℚ rationals (rational m) n ≡ Some s → AllFit (rational m) n → AreNumbers s.table
run_numbers m light = run_have IsNumber zero_number (λ x h. h) m (start_numbers m light)
