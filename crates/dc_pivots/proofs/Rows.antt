-- Rows of a tableau, as functions of row and column, and the pivot.
use Rattle.std.specs.Prelude.{ℕ, ◌==◌, cond}
use Rattle.dc_math.specs.Field.{Field, minus}

module _ (Q : Type 0) (F : Field Q) (m n : ℕ) where
  abbrev pub Rows : Type 0
  Rows = ℕ → ℕ → Q

  -- the pivot at (r, j)
  unfoldable pub pivot_at : Rows → ℕ → ℕ → Rows
  pivot_at t r j i k = cond (i == r) (F.mul (t r k) (F.inverse (t r j))) (minus Q F (t i k) (F.mul (t i j) (F.mul (t r k) (F.inverse (t r j)))))

  unfoldable pub basis_at : (ℕ → ℕ) → ℕ → ℕ → (ℕ → ℕ)
  basis_at b r j i = cond (i == r) j (b i)
