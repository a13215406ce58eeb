-- One phase of a run: each pivot with its row and column, as Bland's rule picks them.
use Rattle.std.specs.Prelude.{◌≡◌, ℕ, ◌+◌, ◌<◌, ◌≤◌, true, false}
use Rattle.dc_math.specs.Field.{Field, minus, nonneg}
use Rattle.dc_pivots.proofs.Rows.{Rows}

-- column p is basic in one of the first k rows
abbrev pub Has : (ℕ → ℕ) → ℕ → ℕ → Type 0
Has b k p = (i : ℕ) × (i < k) × (b i ≡ p)

module _ (Q : Type 0) (F : Field Q) (m n : ℕ) where
  -- the quotient of right side by entry
  abbrev pub ratio : Rows Q F m n → ℕ → ℕ → Q
  ratio t j i = F.mul (t i (n + m)) (F.inverse (t i j))

  -- column j enters and row r leaves
  pub record IsStep (t : Rows Q F m n) (b : ℕ → ℕ) (z : ℕ → Q) (r j : ℕ) : Type 0 where
    pub row : r < m
    pub real : j < n
    pub negative : nonneg Q F (z j) ≡ false
    pub least : (k : ℕ) → k < j → nonneg Q F (z k) ≡ true
    pub positive : nonneg Q F (F.neg (t r j)) ≡ false
    pub best : (i : ℕ) → i < m → nonneg Q F (F.neg (t i j)) ≡ false → nonneg Q F (minus Q F (ratio t j i) (ratio t j r)) ≡ true
    pub tie : (i : ℕ) → i < m → nonneg Q F (F.neg (t i j)) ≡ false → nonneg Q F (minus Q F (ratio t j r) (ratio t j i)) ≡ true → b r ≤ b i
