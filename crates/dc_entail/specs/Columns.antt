-- A column that is built row by row: its entries so far, and the numbers that they stand for.
use Rattle.std.specs.Prelude.{◌≡◌, ℕ, ◌*◌, ◌<◌, ◌≤◌, eqb, ltb, if◌then◌else◌, List, [], ◌∷◌, ◌++◌, length, ℤ, pos, slice_index_or}
use Rattle.std.specs.Ordering.{int_eq}
use Rattle.dc_affine.specs.declared.atom.Atom.{Atom}
use Rattle.dc_lp.specs.declared.Entry.{Entry}
use Rattle.dc_lp.specs.Problems.{AreEntries, coefficient_in, weight}
use Rattle.dc_points.specs.Stated.{coefficient_of}

-- entries below `rows` whose values are f 0, f 1 and so on, each of the size that an atom's numbers
-- have at most
pub record IsColumnOf (rows : ℕ) (f : ℕ → ℤ) (es : List Entry) : Type 0 where
  pub entries : AreEntries 0 rows es
  pub light : weight es ≤ 2147483648 * rows
  pub values : (i : ℕ) → coefficient_in es i ≡ f i

-- one entry more, where its value isn't 0
abbrev pub with_entry : ℕ → ℤ → List Entry → List Entry
with_entry r z es = if int_eq z (pos 0) then es else es ++ record { row = r; value = z } ∷ []

-- the numbers of the rows below n, and 0 from there on
abbrev pub rows_below : ℕ → (ℕ → ℤ) → ℕ → ℤ
rows_below n f i = if ltb i n then f i else pos 0

-- an atom's coefficients at n places, and its constant behind them
abbrev pub place_numbers : ℕ → Atom → ℕ → ℤ
place_numbers n a = rows_below n (coefficient_of a)

abbrev pub column_numbers : ℕ → Atom → ℕ → ℤ
column_numbers n a i = if eqb i n then a.c0 else place_numbers n a i

-- the first k columns of a problem
pub record AreColumnsOf (k rows : ℕ) (f : ℕ → ℕ → ℤ) (cs : List (List Entry)) : Type 0 where
  pub long : length cs ≡ k
  pub each : (j : ℕ) → j < k → IsColumnOf rows (λ i. f i j) (slice_index_or cs j [])
