-- Which column enters and which row leaves, in the words of the simplex method.
use Rattle.std.specs.Prelude.{◌≡◌, ◌≢◌, ℕ, ◌<◌, ◌≤◌, pos, length, slice_index}
use Rattle.dc_math.specs.Rational.{ℚ, of_ℤ, ◌≤ℚ◌, ◌<ℚ◌, NonNegative}
use Rattle.dc_math.specs.RationalField.{rationals}
use Rattle.dc_lp.specs.Tables as tables
use Rattle.dc_lp.specs.Tables.{Table}
use Rattle.dc_lp.specs.Meanings.{at}

abbrev pub IsPositiveIn : Table ℚ → ℕ → ℕ → Type 0
IsPositiveIn t j i = of_ℤ (pos 0) <ℚ at t i j

-- the quotient of right side by entry
abbrev pub ratio_of : Table ℚ → ℕ → ℕ → ℚ
ratio_of t j i = tables.ratio_of ℚ rationals t j i

-- column j is real, with a negative entry in row i, and none before it has one
pub record Enters (t : Table ℚ) (i j : ℕ) : Type 0 where
  pub real : j < t.real
  pub negative : at t i j <ℚ of_ℤ (pos 0)
  pub least : (k : ℕ) → k < j → NonNegative (at t i k)

abbrev pub NoneEnters : Table ℚ → ℕ → Type 0
NoneEnters t i = (k : ℕ) → k < t.real → NonNegative (at t i k)

-- row r of an equation has a positive entry in column j; of the rows that have one, none has a
-- lesser quotient, none that ties has a lesser basic column, and none before it ties with the same
pub record Leaves (t : Table ℚ) (j r : ℕ) : Type 0 where
  pub row : r < length t.basis
  pub positive : IsPositiveIn t j r
  pub least : (i : ℕ) → i < length t.basis → IsPositiveIn t j i → ratio_of t j r ≤ℚ ratio_of t j i
  pub ties : (i : ℕ) → i < length t.basis → IsPositiveIn t j i → ratio_of t j i ≡ ratio_of t j r
      → slice_index t.basis r ≤ slice_index t.basis i
  pub first : (i : ℕ) → i < r → IsPositiveIn t j i → ratio_of t j i ≡ ratio_of t j r
      → slice_index t.basis i ≢ slice_index t.basis r

abbrev pub NoneLeaves : Table ℚ → ℕ → Type 0
NoneLeaves t j = (i : ℕ) → i < length t.basis → at t i j ≤ℚ of_ℤ (pos 0)
