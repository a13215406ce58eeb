-- The size of a table, at its start and after a pivot.
use Rattle.std.proofs.Common.{◌≡◌, ℕ, ◌+◌, ◌<◌, false, length, refl, sym, ◌∙◌, arith}
use Rattle.dc_lp.specs.declared.Problem.{Problem}
use Rattle.dc_lp.specs.Problems.{linear_of}
use Rattle.dc_math.specs.Tests as tests
use Rattle.dc_lp.specs.Meanings.{Meaning, IsCell, IsPivotCell, at, width, resting, ready_at, start, pivoted}
use Rattle.dc_lp.proofs.Fills.{pivoted-real, pivoted-basis}
use Rattle.dc_simplex.proofs.Steps.{start-basis, start-real}
use Rattle.dc_tableau_trials.specs.Sizes.{IsOver, IsReadyAt}

pub over_start : (x : Meaning) (p : Problem) (n : ℕ) → x ≡ resting (start p) → n ≡ length p.columns.items → IsOver x p.rows n
over_start x p n e h = rw e (record {
  usable = record { loaded = refl; whole = refl };
  rows = start-basis (linear_of p);
  columns = start-real (linear_of p) ∙ sym h;
})

pub over_ready : (x y : Meaning) (m n r j : ℕ) → IsOver x m n → r < m → j < n → tests.is_zero (at x.table r j) ≡ false → y ≡ ready_at x.table r j → IsReadyAt y m n r j
over_ready x y m n r j h a b z e = (let w = h.rows in let c = h.columns in rw e (record {
  over = record { usable = record { loaded = refl; whole = refl }; rows = w; columns = c };
  cell = record { row = omega arith; column = omega arith; nonzero = z };
  ready = refl;
}))

pub over_pivoted : (x y : Meaning) (m n r j : ℕ) → IsReadyAt x m n r j → y ≡ resting (pivoted x.table r j) → IsOver y m n
over_pivoted x y m n r j h e = rw e (record {
  usable = record { loaded = refl; whole = refl };
  rows = pivoted-basis x.table r j ∙ h.over.rows;
  columns = pivoted-real x.table r j ∙ h.over.columns;
})

pub cell_over : (x : Meaning) (m n i k : ℕ) → IsOver x m n → i < m + 2 → k < m + n + 1 → IsCell x.table i k
cell_over x m n i k h a b = (let r = h.rows in let c = h.columns in record { row = omega arith; column = omega arith })

pub column_over : (x : Meaning) (m n k : ℕ) → IsOver x m n → k < n → k < width x.table
column_over x m n k h a = (let r = h.rows in let c = h.columns in omega arith)

pub pivot_cell : (x : Meaning) (m n r j : ℕ) → IsOver x m n → r < m → j < n → tests.is_zero (at x.table r j) ≡ false → IsPivotCell x.table r j
pivot_cell x m n r j h a b z = (let w = h.rows in let c = h.columns in record { row = omega arith; column = omega arith; nonzero = z })

pub ruleset sizes = (over_start, cell_over, column_over)
