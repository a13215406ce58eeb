-- A tableau over so many equations in so many unknowns.
use Rattle.std.specs.Prelude.{◌≡◌, ℕ, length}
use Rattle.dc_lp.specs.Meanings.{Meaning, IsUsable, IsPivotCell, ready_at}

-- it can be used, and its table is of this size
pub record IsOver (x : Meaning) (m n : ℕ) : Type 0 where
  pub usable : IsUsable x
  pub rows : length x.table.basis ≡ m
  pub columns : x.table.real ≡ n

-- there is room for the pivot at a cell
pub record IsReadyAt (x : Meaning) (m n r j : ℕ) : Type 0 where
  pub over : IsOver x m n
  pub cell : IsPivotCell x.table r j
  pub ready : x ≡ ready_at x.table r j
