-- The pivot run of the simplex method by Bland's rule, over any ordered field: what is due at each
-- table, the state after n pivots, and where the run ends. Phase one lowers the sum of the
-- artificial columns, drive-out takes artificial columns out of the basis where that goes, phase
-- two lowers the cost.
use Rattle.std.specs.Prelude.{◌≡◌, ℕ, zero, suc, ◌+◌, ◌<◌, cond, length, slice_index, Option, Some, None}
use Rattle.std.specs.Option.{option_and_then}
use Rattle.dc_math.specs.Field.{Field, is_negative}
use Rattle.dc_lp.specs.Linear.{Linear}
use Rattle.dc_lp.specs.Tables.{Table, at, right, start, entering, ratio_row, drive_cell, pivoted}
pub use Rattle.dc_pivots.specs.declared.Phase.{Phase}
pub use Rattle.dc_pivots.specs.declared.Phase.TheVariants.{One, Drive, Two}
pub use Rattle.dc_pivots.specs.declared.Ending.{Ending}
pub use Rattle.dc_pivots.specs.declared.Ending.TheVariants.{Infeasible, Optimal, Unbounded}
pub use Rattle.dc_pivots.specs.declared.Due.{Due}
pub use Rattle.dc_pivots.specs.declared.Due.TheVariants.{Pivot, End}

-- the phase of the last pivot (phase one at first), and the table
pub record State (Q : Type 0) : Type 0 where
  pub phase : Phase
  pub table : Table Q

-- a pivot is due
abbrev pub IsPivot : Due → Type 0
IsPivot (Pivot phase r j) = Unit {0}
IsPivot (End e) = ⊥

-- phase two, where column j enters: the row that leaves, or no bound
abbrev pub leave_two : ℕ → Option ℕ → Due
leave_two j None = End (Unbounded j)
leave_two j (Some r) = Pivot Two r j

module _ (Q : Type 0) (F : Field Q) where
  -- phase two, where a column enters, or none
  abbrev pub enter_two : Table Q → Option ℕ → Due
  enter_two t None = End Optimal
  enter_two t (Some j) = leave_two j (ratio_row Q F t j)

  -- phase two: the least real column with a negative entry in the last row enters
  unfoldable pub due_two : Table Q → Due
  due_two t = enter_two t (entering Q F t (length t.basis + 1))

  -- drive-out, where there is a cell for it, or none: then phase two
  abbrev pub drive_out : Table Q → Option (ℕ × ℕ) → Due
  drive_out t None = due_two t
  drive_out t (Some (r, j)) = Pivot Drive r j

  -- drive-out: the first row with an artificial basic column and a nonzero real entry, at the least
  -- such column
  unfoldable pub due_drive : Table Q → Due
  due_drive t = drive_out t (drive_cell Q F t)

  -- the end of phase one: infeasible where the right side of its cost row is negative, and else
  -- drive-out
  unfoldable pub end_one : Table Q → Due
  end_one t =
      cond (is_negative Q F (at Q F t (length t.basis) (right Q F t))) (End Infeasible)
      (due_drive t)

  -- phase one, where column j enters: the row that leaves, or the end of the phase (by a law there
  -- always is such a row)
  abbrev pub leave_one : Table Q → ℕ → Option ℕ → Due
  leave_one t j None = end_one t
  leave_one t j (Some r) = Pivot One r j

  -- phase one, where a column enters, or none
  abbrev pub enter_one : Table Q → Option ℕ → Due
  enter_one t None = end_one t
  enter_one t (Some j) = leave_one t j (ratio_row Q F t j)

  -- phase one: the least real column with a negative entry in the last row but one enters
  unfoldable pub due_one : Table Q → Due
  due_one t = enter_one t (entering Q F t (length t.basis))

  -- what is due at a table after a pivot of the phase
  abbrev pub due : Phase → Table Q → Due
  due One t = due_one t
  due Drive t = due_drive t
  due Two t = due_two t

  -- what is due at a state
  abbrev pub due_at : State Q → Due
  due_at s = due s.phase s.table

  -- the state at the start
  abbrev pub begun : Linear Q → State Q
  begun p = record { phase = One; table = start Q F p }

  -- the state after the pivot, where one is due
  abbrev pub after : Table Q → Due → Option (State Q)
  after t (Pivot phase r j) = Some (record { phase = phase; table = pivoted Q F t r j })
  after t (End e) = None

  -- the state after n pivots, where as many are due
  abbrev pub run : Linear Q → ℕ → Option (State Q)
  run p zero = Some (begun p)
  run p (suc n) = option_and_then (λ s. after s.table (due_at s)) (run p n)

-- the run is over after n pivots
pub record IsOver (Q : Type 0) (F : Field Q) (p : Linear Q) (n : ℕ) : Type 0 where
  pub state : State Q
  pub ending : Ending
  pub reached : run Q F p n ≡ Some state
  pub over : due_at Q F state ≡ End ending

-- n pivots were made and another is due
pub record Spent (Q : Type 0) (F : Field Q) (p : Linear Q) (n : ℕ) : Type 0 where
  pub state : State Q
  pub reached : run Q F p n ≡ Some state
  pub more : IsPivot (due_at Q F state)

-- column p is basic
abbrev pub Basic : {Q : Type 0} → Table Q → ℕ → Type 0
Basic t p = (i : ℕ) × (i < length t.basis) × (slice_index t.basis i ≡ p)

-- the same columns are basic
pub record HaveOneBasis {Q : Type 0} (t u : Table Q) : Type 0 where
  pub forth : (p : ℕ) → Basic t p → Basic u p
  pub back : (p : ℕ) → Basic u p → Basic t p
