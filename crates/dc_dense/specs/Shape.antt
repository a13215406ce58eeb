-- The sizes in a dense table.
use Rattle.std.specs.Prelude.{◌≡◌, ℕ, ◌+◌, ◌*◌}

-- one basic column for each equation; a row has the real columns, the artificial ones and the right
-- side; there are two cost rows
pub record IsShaped (rows columns width basis items : ℕ) : Type 0 where
  pub basis_is : basis ≡ rows
  pub width_is : width ≡ columns + rows + 1
  pub items_is : items ≡ (rows + 2) * width
