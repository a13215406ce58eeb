-- A table in one list of fractions, row after row, and its pivot there. The pivot's row is divided
-- first, and the other rows are reduced by what it is then.
use Rattle.std.specs.Prelude.{◌≡◌, ℕ, ◌+◌, ◌*◌, ◌<◌, ◌≤◌, Bool, ◌&&◌, ◌||◌, ◌==◌, cond, pos, List, length}
use Rattle.dc_math.specs.Rational.{ℚ, ◌-ℚ◌, ◌*ℚ◌, of_ℤ}
use Rattle.dc_math.specs.Inverse.{◌/ℚ◌}
use Rattle.dc_math.specs.Tests.{is_zero}
use Rattle.dc_frac.specs.declared.Frac.{Frac}
use Rattle.dc_frac.specs.Fits.{difference_fits, product_fits, quotient_fits}
use Rattle.dc_start.specs.Changes.{step_fits}
use Rattle.dc_lp.specs.Folds.{numbers}
use Rattle.dc_lp.specs.Tables.{made}
use Rattle.dc_lp.specs.Meanings.{all_below}

-- the number at index q, and 0 behind the end
unfoldable pub item : List Frac → ℕ → ℚ
item xs q = numbers xs q

-- h rows of w numbers
unfoldable pub flat : ℕ → ℕ → List Frac → List (List ℚ)
flat h w xs = made h (λ i. made w (λ k. item xs (i * w + k)))

-- what changes is from `from` on, width numbers
pub record ChangesWithin (old new : List Frac) (from width : ℕ) : Type 0 where
  pub before : (q : ℕ) → q < from → item new q ≡ item old q
  pub behind : (q : ℕ) → from + width ≤ q → item new q ≡ item old q

-- ---- the pivot's row

unfoldable pub divisions_fit : List Frac → ℕ → ℚ → ℕ → Bool
divisions_fit xs from by n = all_below n (λ k. quotient_fits (item xs (from + k)) by)

abbrev pub IsDivided : List Frac → List Frac → ℕ → ℕ → ℚ → Type 0
IsDivided old new from n by = (k : ℕ) → k < n → item new (from + k) ≡ item old (from + k) /ℚ by

-- ---- another row

-- the numbers from `from` on, less factor times those from `pivot` on, but for column col
unfoldable pub reductions_fit : List Frac → ℕ → ℕ → ℕ → ℚ → ℕ → Bool
reductions_fit xs from pivot col factor n = all_below n (λ k. k == col
    || step_fits factor (item xs (pivot + k)) (item xs (from + k)))

abbrev pub IsReduced : List Frac → List Frac → ℕ → ℕ → ℕ → ℚ → ℕ → Type 0
IsReduced old new from pivot col factor n = (k : ℕ) → k < n
    → item new (from + k)
    ≡ cond (k == col) (of_ℤ (pos 0)) (item old (from + k) -ℚ factor *ℚ item old (pivot + k))

-- what row i has once it is reduced; row `row` stays, and so does a row with 0 in column col
unfoldable pub reduced_item : List Frac → ℕ → ℕ → ℕ → ℕ → ℕ → ℚ
reduced_item xs w row col i k =
    cond (i == row || is_zero (item xs (i * w + col))) (item xs (i * w + k))
    (cond (k == col) (of_ℤ (pos 0))
    (item xs (i * w + k) -ℚ item xs (i * w + col) *ℚ item xs (row * w + k)))

unfoldable pub row_fits : List Frac → ℕ → ℕ → ℕ → ℕ → Bool
row_fits xs w row col i = i == row || is_zero (item xs (i * w + col))
    || reductions_fit xs (i * w) (row * w) col (item xs (i * w + col)) w

unfoldable pub rows_fit : List Frac → ℕ → ℕ → ℕ → ℕ → Bool
rows_fit xs w row col n = all_below n (row_fits xs w row col)

abbrev pub AreReduced : List Frac → List Frac → ℕ → ℕ → ℕ → ℕ → Type 0
AreReduced old new w row col n = (i : ℕ) → i < n → (k : ℕ) → k < w
    → item new (i * w + k) ≡ reduced_item old w row col i k

-- ---- the whole pivot

unfoldable pub items_fit : List Frac → ℕ → ℕ → ℕ → ℕ → Bool
items_fit xs w h row col =
    all_below w (λ k. quotient_fits (item xs (row * w + k)) (item xs (row * w + col)))
    && all_below h (λ i. i == row || is_zero (item xs (i * w + col))
    || all_below w (λ k. k == col
    || step_fits (item xs (i * w + col)) (item xs (row * w + k) /ℚ item xs (row * w + col))
    (item xs (i * w + k))))

-- what a pivot leaves in row i and column k
abbrev pub pivoted_item : List Frac → ℕ → ℕ → ℕ → ℕ → ℕ → ℚ
pivoted_item xs w row col i k =
    cond (i == row) (item xs (row * w + k) /ℚ item xs (row * w + col))
    (cond (is_zero (item xs (i * w + col))) (item xs (i * w + k))
    (item xs (i * w + k)
    -ℚ item xs (i * w + col) *ℚ (item xs (row * w + k) /ℚ item xs (row * w + col))))

pub record ArePivoted (old new : List Frac) (w h row col : ℕ) : Type 0 where
  pub long : length new ≡ length old
  pub each : (i k : ℕ) → i < h → k < w → item new (i * w + k) ≡ pivoted_item old w row col i k
