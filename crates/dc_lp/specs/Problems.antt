-- Linear problems by columns: their coefficients, and what is asked of their parts.
use Rattle.std.specs.Prelude.{◌≡◌, ◌≢◌, ℕ, suc, ◌<◌, ◌≤◌, ◌^◌, ℤ, pos, cond, ◌==◌, List, [], ◌∷◌, length, map, slice_index_or, sum_by, unsigned_abs}
use Rattle.dc_math.specs.Rational.{of_ℤ}
use Rattle.dc_lp.specs.declared.Entry.{Entry}
use Rattle.dc_lp.specs.declared.Problem.{Problem}
use Rattle.dc_lp.specs.Linear.{Linear}
use Rattle.dc_math.specs.Rational.{ℚ}

-- how many columns
abbrev pub columns : Problem → ℕ
columns p = length p.columns.items

-- the entries of column j
abbrev pub entries : Problem → ℕ → List Entry
entries p j = slice_index_or (map (λ c. c.items) p.columns.items) j []

-- the value of the entry in row i, and 0 where there is none
abbrev pub coefficient_in : List Entry → ℕ → ℤ
coefficient_in [] i = pos 0
coefficient_in (e ∷ es) i = cond (e.row == i) e.value (coefficient_in es i)

abbrev pub coefficient : Problem → ℕ → ℕ → ℤ
coefficient p i j = coefficient_in (entries p j) i

abbrev pub whole_at : List ℤ → ℕ → ℤ
whole_at xs i = slice_index_or xs i (pos 0)

-- the problem over the rational numbers
abbrev pub linear_of : Problem → Linear ℚ
linear_of p = record {
  equations = p.rows;
  columns = columns p;
  coefficient = λ i j. of_ℤ (coefficient p i j);
  right_side = λ i. of_ℤ (whole_at p.b.items i);
  cost = λ j. of_ℤ (whole_at p.cost.items j);
}

-- nonzero values in rows that rise from `low` on and stay below `rows`
abbrev pub AreEntries : ℕ → ℕ → List Entry → Type 0
AreEntries low rows [] = Unit {0}
AreEntries low rows (e ∷ es) = (low ≤ e.row) × (e.row < rows) × (e.value ≢ pos 0)
    × AreEntries (suc e.row) rows es

-- the sum of sizes is at most 2^127 - 1
abbrev pub weight : List Entry → ℕ
weight es = sum_by (λ e. unsigned_abs e.value) es

pub record IsColumn (rows : ℕ) (es : List Entry) : Type 0 where
  pub entries : AreEntries 0 rows es
  pub weight : weight es < 2 ^ 127

pub record IsWellFormed (p : Problem) : Type 0 where
  pub right_sides : length p.b.items ≡ p.rows
  pub costs : length p.cost.items ≡ columns p
  pub columns : (j : ℕ) → j < columns p → IsColumn p.rows (entries p j)
  pub right_side_weight : sum_by unsigned_abs p.b.items < 2 ^ 127
  pub cost_sizes : (j : ℕ) → j < length p.columns.items
      → unsigned_abs (whole_at p.cost.items j) < 2 ^ 127
