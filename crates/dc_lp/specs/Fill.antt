-- The fill of a pivot: how many entries are 0 before it and not 0 after it.
use Rattle.std.specs.Prelude.{◌≡◌, ℕ, zero, suc, ◌+◌, ◌<◌, Bool, not, ◌&&◌, cond}
use Rattle.dc_math.specs.Tests.{is_zero}
use Rattle.dc_math.specs.Rational.{ℚ}
use Rattle.dc_lp.specs.Tables.{Table}
use Rattle.dc_lp.specs.Meanings.{at, height, width, pivoted}

-- how many of 0 to n - 1 pass
abbrev pub count_below : ℕ → (ℕ → Bool) → ℕ
count_below zero test = 0
count_below (suc n) test = count_below n test + cond (test n) 1 0

-- how many cells of the first h rows and w columns pass
abbrev pub count_cells : ℕ → ℕ → (ℕ → ℕ → Bool) → ℕ
count_cells zero w test = 0
count_cells (suc h) w test = count_cells h w test + count_below w (test h)

-- the entry in row i and column k becomes one by the pivot at (r, j)
abbrev pub is_filled : Table ℚ → ℕ → ℕ → ℕ → ℕ → Bool
is_filled t r j i k = is_zero (at t i k) && not (is_zero (at (pivoted t r j) i k))

unfoldable pub fill : Table ℚ → ℕ → ℕ → ℕ
fill t r j = count_cells (height t) (width t) (is_filled t r j)

-- row i has an entry in column j, and in column k the pivot's row has one where row i has none
abbrev pub meets_gap : Table ℚ → ℕ → ℕ → ℕ → ℕ → Bool
meets_gap t r j i k = is_zero (at t i k) && not (is_zero (at t i j)) && not (is_zero (at t r k))

-- the pairs of an entry of the pivot's column and one of its row at whose crossing there is none
unfoldable pub gaps : Table ℚ → ℕ → ℕ → ℕ
gaps t r j = count_cells (height t) (width t) (meets_gap t r j)

-- a zero in the pivot's row stays zero; the entries that come are exactly those at the crossings
pub record FillIsGaps (t : Table ℚ) (r j : ℕ) : Type 0 where
  pub each : (i k : ℕ) → i < height t → k < width t → is_filled t r j i k ≡ meets_gap t r j i k
  pub number : fill t r j ≡ gaps t r j

-- the number of entries of a table that aren't 0
unfoldable pub entry_count : Table ℚ → ℕ
entry_count t = count_cells (height t) (width t) (λ i k. not (is_zero (at t i k)))
