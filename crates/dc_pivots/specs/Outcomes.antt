-- What each end of a run shows, over the rational numbers.
use Rattle.std.specs.Prelude.{◌≡◌, ℕ, ◌+◌, length}
use Rattle.dc_math.specs.Rational.{ℚ}
use Rattle.dc_math.specs.RationalField.{rationals}
use Rattle.dc_lp.specs.Linear.{Linear, combined_right, cost_of, IsSolution, IsDual, IsRefutation, IsRay, CostAtLeast, HasNoSolution, HasNoBound}
use Rattle.dc_lp.specs.Tables.{Table}
use Rattle.dc_pivots.specs.Runs.{Ending, Infeasible, Optimal, Unbounded}
use Rattle.dc_pivots.specs.Vectors.{solution_at, direction_at, multiplier_at, value_of}

-- a solution and a dual of equal value, which is the table's
pub record IsBest (p : Linear ℚ) (t : Table ℚ) : Type 0 where
  pub solution : IsSolution p (solution_at ℚ rationals t)
  pub dual : IsDual p (multiplier_at ℚ rationals p t (length t.basis + 1))
  pub cost : cost_of p (solution_at ℚ rationals t) ≡ value_of ℚ rationals t
  pub price : combined_right p (multiplier_at ℚ rationals p t (length t.basis + 1))
      ≡ value_of ℚ rationals t

-- a solution, and a ray along column j
pub record IsUnbounded (p : Linear ℚ) (t : Table ℚ) (j : ℕ) : Type 0 where
  pub solution : IsSolution p (solution_at ℚ rationals t)
  pub ray : IsRay p (direction_at ℚ rationals t j)

-- the certificate that an end has; that of an infeasible problem is a refutation by the cost row of
-- phase one
abbrev pub Shows : Linear ℚ → Table ℚ → Ending → Type 0
Shows p t Optimal = IsBest p t
Shows p t Infeasible = IsRefutation p (multiplier_at ℚ rationals p t (length t.basis))
Shows p t (Unbounded j) = IsUnbounded p t j

-- what an end says of the problem: no solution costs less than the table's value; there is no
-- solution; from each the cost falls below every bound
abbrev pub Says : Linear ℚ → Table ℚ → Ending → Type 0
Says p t Optimal = CostAtLeast p (value_of ℚ rationals t)
Says p t Infeasible = HasNoSolution p
Says p t (Unbounded j) = HasNoBound p

-- ---- what a linear problem comes to
-- a solution and a dual of equal value, a refutation, or a solution with a ray
pub data Outcome (p : Linear ℚ) : Type 0 where
  Best : (x y : ℕ → ℚ) → IsSolution p x → IsDual p y → cost_of p x ≡ combined_right p y → Outcome p
  Refuted : (y : ℕ → ℚ) → IsRefutation p y → Outcome p
  Falling : (x r : ℕ → ℚ) → IsSolution p x → IsRay p r → Outcome p
