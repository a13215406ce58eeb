-- The starting table, as far as it is held.
use Rattle.std.specs.Prelude.{◌≡◌, ℕ, ◌+◌, ◌<◌, ◌≤◌, ◌⊎◌, false, List}
use Rattle.dc_lp.specs.declared.Problem.{Problem}
use Rattle.dc_sparse.specs.declared.web.Node.{Node}
use Rattle.dc_sparse.specs.Entries.{entry_at, StandsAt}
use Rattle.dc_math.specs.Tests.{is_zero}
use Rattle.dc_math.specs.Rational.{ℚ}
use Rattle.dc_start.specs.Starts.{width, start_value}

-- each entry that isn't 0 is one of the starting table
pub record IsPartOf (p : Problem) (xs : List Node) (height : ℕ) : Type 0 where
  pub each : (i k : ℕ) → i < height → k < width p → is_zero (entry_at xs i k) ≡ false
      → is_zero (start_value p i k) ≡ false

-- in the columns from `col` on, and there alone
pub record IsFilled (p : Problem) (xs : List Node) (height col : ℕ) : Type 0 where
  pub entries : (i k : ℕ) → i < height → col ≤ k → k < width p → entry_at xs i k ≡ start_value p i k
  pub none_else : (n i k : ℕ) → StandsAt xs n i k → col ≤ k

-- the same, and in column `col` in the rows from `row` on, and there alone
pub record IsFilling (p : Problem) (xs : List Node) (height row col : ℕ) : Type 0 where
  pub entries : (i k : ℕ) → i < height → col + 1 ≤ k → k < width p → entry_at xs i k ≡ start_value p i k
  pub part : (i : ℕ) → i < height → row ≤ i → entry_at xs i col ≡ start_value p i col
  pub none_else : (n i k : ℕ) → StandsAt xs n i k → (col < k) ⊎ ((k ≡ col) × (row ≤ i))

-- a table is the starting table
abbrev pub IsStarted : Problem → (ℕ → ℕ → ℚ) → Type 0
IsStarted p e = (i k : ℕ) → i < p.rows + 2 → k < width p → e i k ≡ start_value p i k
