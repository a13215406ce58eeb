-- The vectors that the table at the end of a run gives, over any ordered field.
use Rattle.std.specs.Prelude.{ℕ, ◌+◌, ◌==◌, cond, length, slice_index, Option, Some, None}
use Rattle.dc_math.specs.Field.{Field, nonneg}
use Rattle.dc_lp.specs.Linear.{Linear}
use Rattle.dc_lp.specs.Tables.{Table, at, right, first_index}

-- the row in which column k is basic
unfoldable pub basic_row : {Q : Type 0} → Table Q → ℕ → Option ℕ
basic_row t k = first_index (λ i. slice_index t.basis i == k) (length t.basis)

module _ (Q : Type 0) (F : Field Q) where
  -- the entry of column k in the row, and 0 where there is none
  abbrev pub entry_or_zero : Table Q → ℕ → Option ℕ → Q
  entry_or_zero t k None = F.zero_q
  entry_or_zero t k (Some i) = at Q F t i k

  -- the basic solution: at a basic column the right side of its row, at another 0
  abbrev pub solution_at : Table Q → ℕ → Q
  solution_at t k = entry_or_zero t (right Q F t) (basic_row t k)

  -- the way along which column j grows: 1 there, at a basic column minus the entry of j in its row,
  -- at another 0
  abbrev pub direction_at : Table Q → ℕ → ℕ → Q
  direction_at t j k = cond (k == j) F.one (F.neg (entry_or_zero t j (basic_row t k)))

  -- the multiplier of equation i: minus the entry of its artificial column in the cost row, and
  -- negated where the equation was
  abbrev pub multiplier_at : Linear Q → Table Q → ℕ → ℕ → Q
  multiplier_at p t row i =
      cond (nonneg Q F (p.right_side i)) (F.neg (at Q F t row (p.columns + i)))
      (at Q F t row (p.columns + i))

  -- the cost: minus the right side of the last row
  abbrev pub value_of : Table Q → Q
  value_of t = F.neg (at Q F t (length t.basis + 1) (right Q F t))
