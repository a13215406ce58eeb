-- What the code says is due, in the words of the run.
use Rattle.std.specs.Prelude.{◌≡◌, ℕ, ◌<◌, cond, Result, Ok, Err}
use Rattle.dc_math.specs.Rational.{ℚ}
use Rattle.dc_math.specs.RationalField.{rationals}
use Rattle.dc_lp.specs.declared.tableau.PastQuotient.{PastQuotient}
use Rattle.dc_lp.specs.Linear.{Linear}
use Rattle.dc_lp.specs.Tables.{Table}
use Rattle.dc_lp.specs.Meanings.{Meaning, resting}
use Rattle.dc_pivots.specs.Runs as runs
use Rattle.dc_pivots.specs.declared.Ending.{Ending}
use Rattle.dc_pivots.specs.declared.Ending.TheVariants.{Infeasible, Optimal, Unbounded}
use Rattle.dc_pivots.specs.declared.Due.{Due}
use Rattle.dc_simplex.specs.declared.SolveFault.{SolveFault}
use Rattle.dc_simplex.specs.declared.SolveFault.TheVariants.{Past128, Budget, NoMemory}
use Rattle.dc_simplex.specs.Limits.{test_fits, Done, Past, Out, IsAnswer}

-- what the search for what is due has to say at a table: what is due, where the quotients fit that
-- it looks at
abbrev pub told : Table ℚ → Due → Result Due PastQuotient
told t d = cond (test_fits t d) (Ok d) (Err (record {}))

abbrev pub due_two : Table ℚ → Due
due_two t = runs.due_two ℚ rationals t

abbrev pub due_drive : Table ℚ → Due
due_drive t = runs.due_drive ℚ rationals t

abbrev pub end_one : Table ℚ → Due
end_one t = runs.end_one ℚ rationals t

abbrev pub due_one : Table ℚ → Due
due_one t = runs.due_one ℚ rationals t

-- a run's end with the number of its pivots, and where the tableau is left; or the fault
abbrev pub Runs : Linear ℚ → ℕ → Meaning → Result (Ending × ℕ) SolveFault → Type 0
Runs p budget left (Ok o) = IsAnswer p budget (Done o.1 o.0 left.table) × (left ≡ resting left.table)
Runs p budget left (Err (Past128 k)) = IsAnswer p budget (Past k)
Runs p budget left (Err (Budget n)) = IsAnswer p budget (Out n)
Runs p budget left (Err NoMemory) = Unit {0}

-- the column along which there is no bound is one of n
abbrev pub IsAlong : ℕ → Ending → Type 0
IsAlong n Infeasible = Unit {0}
IsAlong n Optimal = Unit {0}
IsAlong n (Unbounded j) = j < n
