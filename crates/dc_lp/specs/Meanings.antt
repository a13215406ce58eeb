-- What a tableau is for a contract: a table of rational numbers and its state. What must fit 128
-- bits in a pivot.
use Rattle.std.specs.Prelude.{◌≡◌, ℕ, zero, suc, ◌<◌, Bool, true, false, not, ◌&&◌, ◌||◌, ◌==◌, length, Option, Some, None, Result, Ok, Err, cond}
use Rattle.dc_math.specs.Tests.{is_positive, is_zero}
use Rattle.dc_math.specs.Rational.{ℚ, ◌*ℚ◌}
use Rattle.dc_math.specs.RationalField.{rationals}
use Rattle.dc_frac.specs.Fits.{difference_fits, product_fits, quotient_fits}
use Rattle.dc_lp.specs.declared.Problem.{Problem}
use Rattle.dc_lp.specs.declared.tableau.PastQuotient.{PastQuotient}
use Rattle.dc_lp.specs.Problems.{linear_of}
use Rattle.dc_lp.specs.Tables as tables
use Rattle.dc_lp.specs.Tables.{Table}

-- ---- the table's words over the rational numbers
abbrev pub right : Table ℚ → ℕ
right t = tables.right ℚ rationals t

abbrev pub width : Table ℚ → ℕ
width t = tables.width ℚ rationals t

abbrev pub height : Table ℚ → ℕ
height t = tables.height ℚ rationals t

abbrev pub at : Table ℚ → ℕ → ℕ → ℚ
at t i k = tables.at ℚ rationals t i k

abbrev pub start : Problem → Table ℚ
start p = tables.start ℚ rationals (linear_of p)

abbrev pub entering : Table ℚ → ℕ → Option ℕ
entering t i = tables.entering ℚ rationals t i

abbrev pub ratio_row : Table ℚ → ℕ → Option ℕ
ratio_row t j = tables.ratio_row ℚ rationals t j

abbrev pub drive_cell : Table ℚ → Option (ℕ × ℕ)
drive_cell t = tables.drive_cell ℚ rationals t

abbrev pub divided : Table ℚ → ℕ → ℕ → ℕ → ℚ
divided t r j k = tables.divided ℚ rationals t r j k

abbrev pub pivoted : Table ℚ → ℕ → ℕ → Table ℚ
pivoted t r j = tables.pivoted ℚ rationals t r j

-- ---- what must fit
-- all of 0 to n - 1 pass
abbrev pub all_below : ℕ → (ℕ → Bool) → Bool
all_below zero test = true
all_below (suc n) test = all_below n test && test n

-- in each of the first n rows with a positive entry in column j: the quotient of right side by entry
unfoldable pub ratios_fit_below : Table ℚ → ℕ → ℕ → Bool
ratios_fit_below t j n = all_below n (λ i. not (is_positive (at t i j))
    || quotient_fits (at t i (right t)) (at t i j))

-- before column j enters: the quotients in the rows of the equations
abbrev pub ratios_fit : Table ℚ → ℕ → Bool
ratios_fit t j = ratios_fit_below t j (length t.basis)

-- in the pivot's row r: each entry's quotient by the one in column j
unfoldable pub division_fits : Table ℚ → ℕ → ℕ → Bool
division_fits t r j = all_below (width t) (λ k. quotient_fits (at t r k) (at t r j))

-- in another row i with an entry in column j: for each column but j whose new entry in row r isn't
-- 0, the product and the difference
unfoldable pub reduction_fits : Table ℚ → ℕ → ℕ → ℕ → Bool
reduction_fits t r j i = is_zero (at t i j) || all_below (width t) (λ k.
    k == j || is_zero (divided t r j k)
    || product_fits (at t i j) (divided t r j k)
    && difference_fits (at t i k) (at t i j *ℚ divided t r j k))

unfoldable pub pivot_fits : Table ℚ → ℕ → ℕ → Bool
pivot_fits t r j = division_fits t r j && all_below (height t) (λ i. i == r || reduction_fits t r j i)

-- ---- a tableau
-- what it holds, whether it holds anything, whether a pivot left it half done, and the cell for
-- which it has room
pub record Meaning : Type 0 where
  pub loaded : Bool
  pub broken : Bool
  pub ready : Option (ℕ × ℕ)
  pub table : Table ℚ

pub record IsUsable (m : Meaning) : Type 0 where
  pub loaded : m.loaded ≡ true
  pub whole : m.broken ≡ false

-- loaded with this table, whole, and ready for no pivot
abbrev pub resting : Table ℚ → Meaning
resting t = record { loaded = true; broken = false; ready = None; table = t }

-- the same, and ready for the pivot at (r, j)
abbrev pub ready_at : Table ℚ → ℕ → ℕ → Meaning
ready_at t r j = record { loaded = true; broken = false; ready = Some (r, j); table = t }

-- an entry's cell
pub record IsCell (t : Table ℚ) (i k : ℕ) : Type 0 where
  pub row : i < height t
  pub column : k < width t

-- where a pivot may be made: a nonzero entry of an equation
pub record IsPivotCell (t : Table ℚ) (r j : ℕ) : Type 0 where
  pub row : r < length t.basis
  pub column : j < width t
  pub nonzero : is_zero (at t r j) ≡ false

-- the row of the least quotient, if all quotients fit
abbrev pub ratio_answer : Table ℚ → ℕ → Result (Option ℕ) PastQuotient
ratio_answer t j = cond (ratios_fit t j) (Ok (ratio_row t j)) (Err (record {}))
