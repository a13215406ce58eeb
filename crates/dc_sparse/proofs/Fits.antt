-- The sizes of a loaded tableau, and cells in it.
use Rattle.std.proofs.Common.{◌≡◌, ◌+◌, ◌<◌, ℕ, true, length, vec_len, arith}
use Rattle.dc_lp.specs.Meanings.{IsCell, IsPivotCell}
use Rattle.dc_sparse.specs.Shape.{IsShaped}
use Rattle.dc_sparse.specs.Meanings.{cross_meaning}
use Rattle.dc_sparse.specs.declared.cross.Cross.{Cross}

pub record IsFit (c : Cross) (row col : ℕ) : Type 0 where
  pub tall : length c.held.web.row_heads.items ≡ length c.basis.items + 2
  pub wide : length c.held.web.col_heads.items ≡ c.columns + length c.basis.items + 1
  pub inside : row < length c.held.web.row_heads.items
  pub column : col < length c.held.web.col_heads.items

pub fit_cell : (c : Cross) (row col : ℕ) → c.loaded ≡ true → IsCell (cross_meaning c).table row col → IsFit c row col
fit_cell c row col loaded h =
    let s : IsShaped c.columns (vec_len c.basis) (length c.held.web.row_heads.items) (length c.held.web.col_heads.items) = c.shape loaded in
    let r : row < length c.basis.items + 2 = h.row in
    let k : col < c.columns + length c.basis.items + 1 = h.column in
    record { tall = omega (arith, c.basis.ok.0); wide = omega (arith, c.basis.ok.0); inside = omega (arith, c.basis.ok.0); column = omega (arith, c.basis.ok.0) }

pub fit_pivot : (c : Cross) (row col : ℕ) → c.loaded ≡ true → IsPivotCell (cross_meaning c).table row col → IsFit c row col
fit_pivot c row col loaded h =
    let s : IsShaped c.columns (vec_len c.basis) (length c.held.web.row_heads.items) (length c.held.web.col_heads.items) = c.shape loaded in
    let r : row < length c.basis.items = h.row in
    let k : col < c.columns + length c.basis.items + 1 = h.column in
    record { tall = omega (arith, c.basis.ok.0); wide = omega (arith, c.basis.ok.0); inside = omega (arith, c.basis.ok.0); column = omega (arith, c.basis.ok.0) }
