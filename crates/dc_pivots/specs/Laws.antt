-- The laws of the pivot run, for each linear problem over the rational numbers.
use Rattle.std.specs.Prelude.{◌≡◌, ℕ, ◌<◌, Some}
use Rattle.dc_math.specs.Rational.{ℚ}
use Rattle.dc_math.specs.RationalField.{rationals}
use Rattle.dc_lp.specs.Linear.{Linear}
use Rattle.dc_lp.specs.Meanings.{IsPivotCell}
use Rattle.dc_pivots.specs.Runs.{State, Phase, Pivot, Ending, End, due_at, run}
use Rattle.dc_pivots.specs.FieldLaws as laws
use Rattle.dc_pivots.specs.Outcomes.{Shows, Says, Outcome}

-- each table of a run has a basic column for each equation and no negative right side
abbrev pub StaysFeasible : Type 0
StaysFeasible = (p : Linear ℚ) → laws.StaysFeasible ℚ rationals p

-- where a pivot is due, it is at a nonzero entry of an equation in a real column
abbrev pub PivotsHaveCells : Type 0
PivotsHaveCells = (p : Linear ℚ) (n : ℕ) (s : State ℚ) (q : Phase) (r j : ℕ)
    → run ℚ rationals p n ≡ Some s → due_at ℚ rationals s ≡ Pivot q r j
    → IsPivotCell s.table r j × (j < s.table.real)

-- no set of basic columns comes twice in a run, whatever the phases
abbrev pub NeverRepeats : Type 0
NeverRepeats = (p : Linear ℚ) → laws.NeverRepeats ℚ rationals p

-- each run ends, after fewer pivots than there are sets of m columns among n + m
abbrev pub Ends : Type 0
Ends = (p : Linear ℚ) → laws.Ends ℚ rationals p

-- a run reaches no state after as many pivots
abbrev pub EndsSoon : Type 0
EndsSoon = (p : Linear ℚ) → laws.EndsSoon ℚ rationals p

-- with a budget of as many pivots less one, or more, it never comes that the budget is spent and
-- another pivot is due
abbrev pub NeverSpent : Type 0
NeverSpent = (p : Linear ℚ) → laws.NeverSpent ℚ rationals p

-- in phase one a row leaves wherever a column enters
abbrev pub PhaseOneLeaves : Type 0
PhaseOneLeaves = (p : Linear ℚ) → laws.PhaseOneLeaves ℚ rationals p

-- columns that are each other's negatives, with their costs, stay so, and at most one of them is used
abbrev pub StayOpposite : Type 0
StayOpposite = (p : Linear ℚ) (u v : ℕ) → laws.AreOpposite ℚ rationals p u v
    → laws.StayOpposite ℚ rationals p u v

-- wherever a run ends, its last table has the certificate of that end
abbrev pub EndsRight : Type 0
EndsRight = (p : Linear ℚ) (n : ℕ) (s : State ℚ) (e : Ending) → run ℚ rationals p n ≡ Some s
    → due_at ℚ rationals s ≡ End e → Shows p s.table e

-- and what that end says of the problem is so
abbrev pub EndsTrue : Type 0
EndsTrue = (p : Linear ℚ) (n : ℕ) (s : State ℚ) (e : Ending) → run ℚ rationals p n ≡ Some s
    → due_at ℚ rationals s ≡ End e → Says p s.table e

-- every linear problem has a solution and a dual of equal value, a refutation, or a solution with a ray
abbrev pub HasOutcome : Type 0
HasOutcome = (p : Linear ℚ) → Outcome p
