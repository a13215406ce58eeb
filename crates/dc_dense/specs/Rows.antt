-- The starting table in one list.
use Rattle.std.specs.Prelude.{◌≡◌, ℕ, ◌+◌, ◌*◌, ◌<◌, List, length}
use Rattle.dc_frac.specs.declared.Frac.{Frac}
use Rattle.dc_lp.specs.declared.Problem.{Problem}
use Rattle.dc_start.specs.Starts.{width, start_value}
use Rattle.dc_dense.specs.Flat.{item}

-- the list has the first n rows of the starting table, and of the next one the first j numbers
pub record HasRows (p : Problem) (n j : ℕ) (xs : List Frac) : Type 0 where
  pub long : length xs ≡ n * width p + j
  pub rows : (i : ℕ) → i < n → (k : ℕ) → k < width p → item xs (i * width p + k) ≡ start_value p i k
  pub part : (k : ℕ) → k < j → item xs (n * width p + k) ≡ start_value p n k
