-- Which values of a run must fit 128 bits, and the answer that a run has within a budget of pivots.
use Rattle.std.specs.Prelude.{◌≡◌, ℕ, ◌+◌, ◌<◌, ◌≤◌, Bool, true, false, ◌&&◌, Some}
use Rattle.dc_math.specs.Rational.{ℚ}
use Rattle.dc_math.specs.RationalField.{rationals}
use Rattle.dc_lp.specs.Linear.{Linear}
use Rattle.dc_lp.specs.Tables.{Table}
use Rattle.dc_lp.specs.Meanings.{ratios_fit, pivot_fits}
use Rattle.dc_pivots.specs.Runs.{State, due, run, Spent}
use Rattle.dc_pivots.specs.declared.Phase.{Phase}
use Rattle.dc_pivots.specs.declared.Phase.TheVariants.{One, Drive, Two}
use Rattle.dc_pivots.specs.declared.Ending.{Ending}
use Rattle.dc_pivots.specs.declared.Due.{Due}
use Rattle.dc_pivots.specs.declared.Due.TheVariants.{Pivot, End}

-- the quotients of the ratio test that chose the pivot fit; drive-out has no such test
abbrev pub test_fits : Table ℚ → Due → Bool
test_fits t (Pivot One r j) = ratios_fit t j
test_fits t (Pivot Drive r j) = true
test_fits t (Pivot Two r j) = ratios_fit t j
test_fits t (End e) = true

-- the values that the pivot makes fit
abbrev pub change_fits : Table ℚ → Due → Bool
change_fits t (Pivot phase r j) = pivot_fits t r j
change_fits t (End e) = true

-- what is due over the rational numbers
abbrev pub due_in : Phase → Table ℚ → Due
due_in q t = due ℚ rationals q t

-- each value of the pivot that is due fits, if one is due
abbrev pub fits : State ℚ → Bool
fits s = test_fits s.table (due_in s.phase s.table) && change_fits s.table (due_in s.phase s.table)

-- the first n pivots fit, as many as there are
abbrev pub AllFit : Linear ℚ → ℕ → Type 0
AllFit p n = (i : ℕ) (s : State ℚ) → i < n → run ℚ rationals p i ≡ Some s → fits s ≡ true

-- after n pivots, all of which fit, the run is at this state
pub record IsReached (p : Linear ℚ) (n : ℕ) (s : State ℚ) : Type 0 where
  pub fit : AllFit p n
  pub reached : run ℚ rationals p n ≡ Some s

-- after n pivots, all of which fit, the run ends so with this table
pub record EndsWith (p : Linear ℚ) (n : ℕ) (e : Ending) (t : Table ℚ) : Type 0 where
  pub phase : Phase
  pub reaches : IsReached p n (record { phase = phase; table = t })
  pub over : due_in phase t ≡ End e

-- pivot number k, counted from 1, is due, and is the first that doesn't fit
pub record IsPast (p : Linear ℚ) (k : ℕ) : Type 0 where
  pub before : ℕ
  pub number : k ≡ before + 1
  pub state : State ℚ
  pub reaches : IsReached p before state
  pub unfit : fits state ≡ false

-- the first n pivots fit, and another is due
pub record IsSpent (p : Linear ℚ) (n : ℕ) : Type 0 where
  pub fit : AllFit p n
  pub spent : Spent ℚ rationals p n

-- What a run comes to within a budget of pivots: its end, after so many pivots and with this table;
-- the number of its first pivot that doesn't fit; or the whole budget with another pivot due.
pub data Answer : Type 0 where
  Done : ℕ → Ending → Table ℚ → Answer
  Past : ℕ → Answer
  Out : ℕ → Answer

-- the answer of the run of a problem within a budget; by a law of this crate there is exactly one
abbrev pub IsAnswer : Linear ℚ → ℕ → Answer → Type 0
IsAnswer p budget (Done n e t) = EndsWith p n e t × (n ≤ budget)
IsAnswer p budget (Past k) = IsPast p k × (k ≤ budget)
IsAnswer p budget (Out n) = IsSpent p n × (n ≡ budget)

-- each problem has one answer within a budget, and no second one
abbrev pub HasAnswer : Type 0
HasAnswer = (p : Linear ℚ) (budget : ℕ) → (a : Answer) × IsAnswer p budget a

abbrev pub HasOneAnswer : Type 0
HasOneAnswer = (p : Linear ℚ) (budget : ℕ) (a b : Answer) → IsAnswer p budget a
    → IsAnswer p budget b → a ≡ b
