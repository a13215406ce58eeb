-- The table of the simplex method and its pivot, over any ordered field: the start, what enters and
-- leaves, and what a pivot makes. With m equations in n unknowns, columns 0 to n - 1 are real,
-- columns n to n + m - 1 are artificial, one for each equation, and column n + m is the right side.
-- Rows 0 to m - 1 are the equations, row m is the cost row of phase one and row m + 1 that of phase
-- two.
use Rattle.std.specs.Prelude.{ℕ, zero, suc, ◌+◌, Bool, not, ◌&&◌, ◌||◌, cond, List, [], map, length, slice_index, slice_index_or, slice_set, Option, Some, None, nat_lt, ◌==◌, if◌then◌else◌}
use Rattle.std.specs.List.{range_with_len}
use Rattle.std.specs.Option.{option_map, option_or}
use Rattle.dc_math.specs.Field.{Field, minus, nonneg, is_below, is_negative, is_positive, is_zero}
use Rattle.dc_lp.specs.Linear.{Linear}
use Rattle.dc_lp.specs.Folds.{checked}

-- rows of numbers, of which the last two are the cost rows; which column is basic in each row; how
-- many columns are real
pub record Table (Q : Type 0) : Type 0 where
  pub real : ℕ
  pub rows : List (List Q)
  pub basis : List ℕ

-- a list of f 0, f 1 and so on, n of them
abbrev pub made : {A : Type 0} → ℕ → (ℕ → A) → List A
made n f = map f (range_with_len 0 n)

-- the first of f 0, f 1 and so on that is there, of n
abbrev pub first_some : {A : Type 0} → (ℕ → Option A) → ℕ → Option A
first_some f zero = None
first_some f (suc n) = option_or (first_some f n) (f n)

-- the first index below n that passes
abbrev pub first_index : (ℕ → Bool) → ℕ → Option ℕ
first_index test n = first_some (λ k. checked (test k) k) n

module _ (Q : Type 0) (F : Field Q) where
  -- the column of the right side
  abbrev pub right : Table Q → ℕ
  right t = t.real + length t.basis

  abbrev pub width : Table Q → ℕ
  width t = t.real + length t.basis + 1

  abbrev pub height : Table Q → ℕ
  height t = length t.basis + 2

  abbrev pub row_at : Table Q → ℕ → List Q
  row_at t i = slice_index_or t.rows i []

  abbrev pub at : Table Q → ℕ → ℕ → Q
  at t i k = slice_index_or (row_at t i) k F.zero_q

  abbrev pub quotient : Q → Q → Q
  quotient x y = F.mul x (F.inverse y)

  -- The start. An equation whose right side is negative is negated.

  abbrev pub signed : Linear Q → ℕ → Q → Q
  signed p i x = cond (nonneg Q F (p.right_side i)) x (F.neg x)

  -- equation i over real columns, artificial columns and the right side
  unfoldable pub start_entry : Linear Q → ℕ → ℕ → Q
  start_entry p i k =
      if nat_lt k p.columns then signed p i (p.coefficient i k)
      else if nat_lt k (p.columns + p.equations) then (if k == p.columns + i then F.one else F.zero_q)
      else signed p i (p.right_side i)

  -- minus the sum of the equations 0 to n - 1 in column k
  unfoldable pub minus_sum : Linear Q → ℕ → ℕ → Q
  minus_sum p k zero = F.zero_q
  minus_sum p k (suc n) = minus Q F (minus_sum p k n) (start_entry p n k)

  unfoldable pub start_value : Linear Q → ℕ → ℕ → Q
  start_value p i k =
      if nat_lt i p.equations then start_entry p i k
      else if i == p.equations then minus_sum p k p.equations
      else if nat_lt k p.columns then p.cost k else F.zero_q

  unfoldable pub start : Linear Q → Table Q
  start p = record {
    real = p.columns;
    rows = made (p.equations + 2) (λ i. made (p.columns + p.equations + 1) (λ k. start_value p i k));
    basis = made p.equations (λ i. p.columns + i);
  }

  -- What enters and leaves.

  -- the least real column with a negative entry in the row
  unfoldable pub entering : Table Q → ℕ → Option ℕ
  entering t i = first_index (λ k. is_negative Q F (at t i k)) t.real

  -- the quotient of right side by entry
  abbrev pub ratio_of : Table Q → ℕ → ℕ → Q
  ratio_of t j i = quotient (at t i (right t)) (at t i j)

  -- row i goes before row k: its quotient is less, or they tie and its basic column is less
  unfoldable pub goes_before : Table Q → ℕ → ℕ → ℕ → Bool
  goes_before t j i k =
      is_below Q F (ratio_of t j i) (ratio_of t j k)
      || not (is_below Q F (ratio_of t j k) (ratio_of t j i))
      && nat_lt (slice_index t.basis i) (slice_index t.basis k)

  abbrev pub better : Table Q → ℕ → ℕ → Option ℕ → Option ℕ
  better t j i None = Some i
  better t j i (Some k) = if goes_before t j i k then Some i else Some k

  -- of the rows 0 to n - 1 with a positive entry in column j, the one that goes before the others
  abbrev pub best_below : Table Q → ℕ → ℕ → Option ℕ
  best_below t j zero = None
  best_below t j (suc i) =
      if is_positive Q F (at t i j) then better t j i (best_below t j i) else best_below t j i

  unfoldable pub ratio_row : Table Q → ℕ → Option ℕ
  ratio_row t j = best_below t j (length t.basis)

  -- the least real column with an entry in row i
  unfoldable pub real_entry : Table Q → ℕ → Option ℕ
  real_entry t i = first_index (λ k. not (is_zero Q F (at t i k))) t.real

  abbrev pub is_artificial : Table Q → ℕ → Bool
  is_artificial t i = not (nat_lt (slice_index t.basis i) t.real)

  -- a row whose basic column is artificial is driven out at its real entry, if it has one
  abbrev pub cell_in : Table Q → ℕ → Option (ℕ × ℕ)
  cell_in t i = if is_artificial t i then option_map (λ j. (i, j)) (real_entry t i) else None

  unfoldable pub drive_cell : Table Q → Option (ℕ × ℕ)
  drive_cell t = first_some (cell_in t) (length t.basis)

  -- A pivot divides row r by its entry in column j, and takes the other rows' entries there times
  -- the new row from them.

  abbrev pub divided : Table Q → ℕ → ℕ → ℕ → Q
  divided t r j k = quotient (at t r k) (at t r j)

  abbrev pub pivoted_entry : Table Q → ℕ → ℕ → ℕ → ℕ → Q
  pivoted_entry t r j i k =
      if i == r then divided t r j k
      else if is_zero Q F (at t i j) then at t i k
      else minus Q F (at t i k) (F.mul (at t i j) (divided t r j k))

  unfoldable pub pivoted : Table Q → ℕ → ℕ → Table Q
  pivoted t r j = record {
    real = t.real;
    rows = made (height t) (λ i. made (width t) (λ k. pivoted_entry t r j i k));
    basis = slice_set t.basis r j;
  }
