-- One row of a pivot: a multiple of the pivot's row is taken from another.
use Rattle.std.specs.Prelude.{◌≡◌, ◌≢◌, ℕ, ◌<◌, ◌≤◌, Bool, not, ◌&&◌, ◌||◌, ◌==◌, cond, pos, List, true, false, Option, Some, None}
use Rattle.dc_math.specs.Rational.{ℚ, ◌-ℚ◌, ◌*ℚ◌, of_ℤ}
use Rattle.dc_math.specs.Inverse.{◌/ℚ◌}
use Rattle.dc_math.specs.Tests.{is_zero, is_negative}
use Rattle.dc_frac.specs.Fits.{quotient_fits}
use Rattle.dc_lp.specs.Meanings.{all_below}
use Rattle.dc_lp.specs.Fill.{count_below, count_cells}
use Rattle.dc_start.specs.Changes.{step_fits}
use Rattle.dc_sparse.specs.declared.web.Node.{Node}
use Rattle.dc_sparse.specs.Entries.{entry_at, StandsAt, KeepsCells}

-- what must fit in the columns 0 to n - 1 but col, where factor times row `pivot` is taken from row i
unfoldable pub reductions_fit : List Node → ℕ → ℕ → ℕ → ℚ → ℕ → Bool
reductions_fit xs i pivot col factor n =
    all_below n (λ k. k == col || step_fits factor (entry_at xs pivot k) (entry_at xs i k))

-- what the entry y in column k becomes, where the pivot's row has x there
abbrev pub reduced_entry : ℕ → ℕ → ℚ → ℚ → ℚ → ℚ
reduced_entry k col factor x y = cond (k == col) (of_ℤ (pos 0)) (y -ℚ factor *ℚ x)

-- what column k of row i becomes
abbrev pub entry_after : List Node → ℕ → ℕ → ℕ → ℚ → ℕ → ℚ
entry_after xs i pivot col factor k = reduced_entry k col factor (entry_at xs pivot k) (entry_at xs i k)

abbrev pub AreReduced : List Node → List Node → ℕ → ℕ → ℕ → ℚ → ℕ → Type 0
AreReduced old new i pivot col factor n =
    (k : ℕ) → k < n → entry_at new i k ≡ entry_after old i pivot col factor k

-- in how many of the columns 0 to n - 1 row `pivot` has an entry and row i has none
unfoldable pub row_gaps : List Node → ℕ → ℕ → ℕ → ℕ
row_gaps xs i pivot n =
    count_below n (λ k. is_zero (entry_at xs i k) && not (is_zero (entry_at xs pivot k)))

-- in all rows but i the entries and their nodes stay
pub record KeepsRows (old new : List Node) (i : ℕ) : Type 0 where
  pub entries : (a b : ℕ) → a ≢ i → entry_at new a b ≡ entry_at old a b
  pub stays : (n a b : ℕ) → a ≢ i → StandsAt old n a b → StandsAt new n a b
  pub stood : (n a b : ℕ) → a ≢ i → StandsAt new n a b → StandsAt old n a b

-- ---- a row of whole numbers

-- row i's entries in columns n to m - 1 are multiplied; all other entries and the cells of all
-- nodes stay
pub record IsMultiplied (old new : List Node) (i n m : ℕ) (times : ℚ) : Type 0 where
  pub here : (k : ℕ) → n ≤ k → k < m → entry_at new i k ≡ entry_at old i k *ℚ times
  pub before : (k : ℕ) → k < n → entry_at new i k ≡ entry_at old i k
  pub behind : (k : ℕ) → m ≤ k → entry_at new i k ≡ entry_at old i k
  pub others : (a b : ℕ) → a ≢ i → entry_at new a b ≡ entry_at old a b
  pub cells : KeepsCells old new

-- what column k of row i becomes where `factor` times row `pivot` is taken from `times` times row i
abbrev pub combined_entry : List Node → ℕ → ℕ → ℕ → ℚ → ℚ → ℕ → ℚ
combined_entry xs i pivot col times factor k =
    reduced_entry k col factor (entry_at xs pivot k) (entry_at xs i k *ℚ times)

abbrev pub AreCombined : List Node → List Node → ℕ → ℕ → ℕ → ℚ → ℚ → ℕ → Type 0
AreCombined old new i pivot col times factor n =
    (k : ℕ) → k < n → entry_at new i k ≡ combined_entry old i pivot col times factor k

-- ---- the pivot's row

unfoldable pub divisions_fit : List Node → ℕ → ℚ → ℕ → Bool
divisions_fit xs i by n = all_below n (λ k. quotient_fits (entry_at xs i k) by)

abbrev pub AreDivided : List Node → List Node → ℕ → ℚ → ℕ → Type 0
AreDivided old new i by n = (k : ℕ) → k < n → entry_at new i k ≡ entry_at old i k /ℚ by

-- ---- the other rows

-- what must fit where its entry in column col times row `pivot` is taken from row i
abbrev pub steps_fit : (ℕ → ℕ → ℚ) → ℕ → ℕ → ℕ → ℕ → Bool
steps_fit e w pivot col i = all_below w (λ k. k == col || step_fits (e i col) (e pivot k) (e i k))

-- what must fit in row i
abbrev pub row_fits : (ℕ → ℕ → ℚ) → ℕ → ℕ → ℕ → ℕ → Bool
row_fits e w pivot col i = i == pivot || is_zero (e i col) || steps_fit e w pivot col i

unfoldable pub rows_fit : (ℕ → ℕ → ℚ) → ℕ → ℕ → ℕ → ℕ → Bool
rows_fit e w pivot col n = all_below n (row_fits e w pivot col)

-- what column k of row i becomes where its entry in column col times row `pivot` is taken from it
abbrev pub stepped_at : (ℕ → ℕ → ℚ) → ℕ → ℕ → ℕ → ℕ → ℚ
stepped_at e pivot col i k = reduced_entry k col (e i col) (e pivot k) (e i k)

-- the same for all rows: row `pivot` stays, and so does a row with 0 in column col
abbrev pub reduced_at : (ℕ → ℕ → ℚ) → ℕ → ℕ → ℕ → ℕ → ℚ
reduced_at e pivot col i k = cond (i == pivot || is_zero (e i col)) (e i k) (stepped_at e pivot col i k)

abbrev pub RowsAreReduced : (ℕ → ℕ → ℚ) → (ℕ → ℕ → ℚ) → ℕ → ℕ → ℕ → ℕ → Type 0
RowsAreReduced old new w pivot col n =
    (i : ℕ) → i < n → (k : ℕ) → k < w → new i k ≡ reduced_at old pivot col i k

-- in how many of the columns below w row `pivot` has an entry and row i has none
abbrev pub gaps_in_row : (ℕ → ℕ → ℚ) → ℕ → ℕ → ℕ → ℕ
gaps_in_row e i pivot w = count_below w (λ k. is_zero (e i k) && not (is_zero (e pivot k)))

-- the same over rows 0 to n - 1 that have an entry in column col
abbrev pub gaps_in_rows : (ℕ → ℕ → ℚ) → ℕ → ℕ → ℕ → ℕ → ℕ
gaps_in_rows e w pivot col n =
    count_cells n w (λ i k. is_zero (e i k) && not (is_zero (e i col)) && not (is_zero (e pivot k)))

-- where rows 0 to n - 1 have an entry in column col, the columns below w in which row `pivot` has
-- one and they have none
unfoldable pub rows_gaps : List Node → ℕ → ℕ → ℕ → ℕ → ℕ
rows_gaps xs w pivot col n =
    count_cells n w (λ i k. is_zero (entry_at xs i k)
    && not (is_zero (entry_at xs i col)) && not (is_zero (entry_at xs pivot k)))

-- in how many of the columns below w a row has an entry
unfoldable pub entries_in : (ℕ → ℚ) → ℕ → ℕ
entries_in row w = count_below w (λ k. not (is_zero (row k)))

-- ---- the first negative entry of a row

abbrev pub NoneNegative : List Node → ℕ → ℕ → Type 0
NoneNegative xs i n = (k : ℕ) → k < n → is_negative (entry_at xs i k) ≡ false

abbrev pub IsFirstNegative : List Node → ℕ → ℕ → Option ℕ → Type 0
IsFirstNegative xs i limit None = NoneNegative xs i limit
IsFirstNegative xs i limit (Some k) =
    (k < limit) × (is_negative (entry_at xs i k) ≡ true) × NoneNegative xs i k
