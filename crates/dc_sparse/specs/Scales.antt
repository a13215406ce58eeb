-- Rows of fractions, and rows of whole numbers over one denominator.
use Rattle.std.specs.Prelude.{◌≡◌, ℕ, ◌<◌, ◌≤◌, ◌^◌, ℤ, pos, ◌≤ℤ◌, unsigned_abs, true, List, length, slice_index_or, Option, Some, None}
use Rattle.dc_math.specs.Rational.{ℚ, of_ℤ}
use Rattle.dc_math.specs.Inverse.{◌/ℚ◌}
use Rattle.dc_math.specs.Order.{Positive}
use Rattle.dc_math.specs.Lowest.{lowest}
use Rattle.dc_frac.specs.declared.Frac.{Frac}
use Rattle.dc_frac.specs.Value.{value}
use Rattle.dc_frac.specs.Fits.{quotient_fits}
use Rattle.dc_sparse.specs.declared.web.Node.{Node}
use Rattle.dc_sparse.specs.Entries.{entry_at}

-- a whole number below 2^n in size
pub record IsWhole (n : ℕ) (x : ℚ) : Type 0 where
  pub whole : (lowest x).den ≡ pos 1
  pub small : unsigned_abs (lowest x).num < 2 ^ n

-- a denominator: a whole number above 0 and below 2^41
pub record IsDen (x : ℚ) : Type 0 where
  pub positive : Positive x
  pub small : IsWhole 41 x

-- what a row of whole numbers is multiplied by
pub record IsMultiplier (z : ℤ) : Type 0 where
  pub positive : pos 1 ≤ℤ z
  pub small : unsigned_abs z < 2 ^ 41

-- the denominator of row i, `None` where the row holds fractions
unfoldable pub scale_at : List (Option Frac) → ℕ → Option Frac
scale_at ds i = slice_index_or ds i None

abbrev pub den_of : Option Frac → ℚ
den_of None = of_ℤ (pos 1)
den_of (Some d) = value d

-- what a row with a denominator holds: whole numbers below 2^41
abbrev pub IsScaled : Option Frac → (ℕ → ℚ) → Type 0
IsScaled None row = Unit {0}
IsScaled (Some d) row = IsDen (value d) × ((k : ℕ) → IsWhole 41 (row k))

-- h rows
pub record AreScaled (xs : List Node) (ds : List (Option Frac)) (h : ℕ) : Type 0 where
  pub long : length ds ≡ h
  pub rows : (i : ℕ) → IsScaled (scale_at ds i) (entry_at xs i)

-- from row n on all rows hold fractions
abbrev pub AreFractions : List (Option Frac) → ℕ → Type 0
AreFractions ds n = (i : ℕ) → n ≤ i → scale_at ds i ≡ None

-- the entry in row i and column k: what the arena has there over the row's denominator
unfoldable pub scaled_at : List Node → List (Option Frac) → ℕ → ℕ → ℚ
scaled_at xs ds i k = entry_at xs i k /ℚ den_of (scale_at ds i)

-- the quotient of a number fits, and is a whole number below 2^41
pub record IsPart (x by : ℚ) : Type 0 where
  pub fit : quotient_fits x by ≡ true
  pub whole : IsWhole 41 (x /ℚ by)

-- that of each number of a row
abbrev pub AreParted : (ℕ → ℚ) → ℚ → Type 0
AreParted row by = (k : ℕ) → IsPart (row k) by
