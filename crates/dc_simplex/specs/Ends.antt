-- What a problem comes to within a budget of pivots, and each vector of its outcome by itself.
use Rattle.std.specs.Prelude.{ℕ, ◌+◌, List, length}
use Rattle.dc_math.specs.Rational.{ℚ}
use Rattle.dc_frac.specs.declared.Frac.{Frac}
use Rattle.dc_lp.specs.Linear.{Linear}
use Rattle.dc_lp.specs.Tables.{Table}
use Rattle.dc_pivots.specs.declared.Ending.{Ending}
use Rattle.dc_pivots.specs.declared.Ending.TheVariants.{Infeasible, Optimal, Unbounded}
use Rattle.dc_simplex.specs.Limits.{Done, IsAnswer}
use Rattle.dc_simplex.specs.Outcomes.{IsVector, solution_at, direction_at, multiplier_at}

-- the run comes to this end and this table
pub record ComesTo (p : Linear ℚ) (budget : ℕ) (e : Ending) (t : Table ℚ) : Type 0 where
  pub pivots : ℕ
  pub answer : IsAnswer p budget (Done pivots e t)

-- there is a solution of least cost, and that of the outcome is x
pub record IsBestAt (p : Linear ℚ) (budget : ℕ) (x : List Frac) : Type 0 where
  pub table : Table ℚ
  pub comes : ComesTo p budget Optimal table
  pub vector : IsVector p.columns (solution_at table) x

-- and its dual is y
pub record IsDualAt (p : Linear ℚ) (budget : ℕ) (y : List Frac) : Type 0 where
  pub table : Table ℚ
  pub comes : ComesTo p budget Optimal table
  pub vector : IsVector p.equations (multiplier_at p table (length table.basis + 1)) y

-- there is no solution, and the refutation of the outcome is y
pub record IsRefutedAt (p : Linear ℚ) (budget : ℕ) (y : List Frac) : Type 0 where
  pub table : Table ℚ
  pub comes : ComesTo p budget Infeasible table
  pub vector : IsVector p.equations (multiplier_at p table (length table.basis)) y

-- there is no bound: the outcome has the solution x, and r is the way along which the cost falls
pub record IsUnboundedAt (p : Linear ℚ) (budget : ℕ) (x r : List Frac) : Type 0 where
  pub table : Table ℚ
  pub column : ℕ
  pub comes : ComesTo p budget (Unbounded column) table
  pub solution : IsVector p.columns (solution_at table) x
  pub ray : IsVector p.columns (direction_at table column) r
