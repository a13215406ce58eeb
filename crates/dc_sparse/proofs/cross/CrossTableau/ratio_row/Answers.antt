use Rattle.std.proofs.Common.{◌≡◌, ◌+◌, ◌<◌, ℕ, List, arith, length, vec_len, sym, subst}
use Rattle.dc_sparse.specs.Shape.{IsShaped}
use Rattle.dc_sparse.specs.Ratios.{HasRatios}
use Rattle.dc_sparse.specs.Meanings.{cross_meaning}
use Rattle.dc_sparse.proofs.HeldRatios.{held_ratios}
use Rattle.dc_sparse.proofs.cross.CrossTableau.ratio_row.Goals as goal

pub ratio_row-requires-clause-shape : goal.ratio_row-requires-clause-shape
ratio_row-requires-clause-shape c =
    let d = c.args.self.now in
    let s : IsShaped d.columns (vec_len d.basis) (length d.held.web.row_heads.items) (length d.held.web.col_heads.items) = d.shape c.requires.usable.loaded in
    rw c.deref.ensures.value (record { height_is = omega (arith, d.basis.ok.0); width_is = omega (arith, d.basis.ok.0) })

pub ratio_row-requires-clause-col : goal.ratio_row-requires-clause-col
ratio_row-requires-clause-col c =
    let d = c.args.self.now in
    let s : IsShaped d.columns (vec_len d.basis) (length d.held.web.row_heads.items) (length d.held.web.col_heads.items) = d.shape c.requires.usable.loaded in
    let k : c.args.col < d.columns + length d.basis.items + 1 = c.requires.column in
    omega (arith, d.basis.ok.0)

pub returns : goal.returns
returns c =
    let d = c.args.self.now in
    let xs = d.held.web.nodes.items in
    let s : IsShaped d.columns (vec_len d.basis) (length d.held.web.row_heads.items) (length d.held.web.col_heads.items) = d.shape c.requires.usable.loaded in
    let tall : length d.held.web.row_heads.items ≡ length d.basis.items + 2 = omega (arith, d.basis.ok.0) in
    let wide : length d.held.web.col_heads.items ≡ d.columns + length d.basis.items + 1 = omega (arith, d.basis.ok.0) in
    let k : c.args.col < d.columns + length d.basis.items + 1 = c.requires.column in
    let t = (cross_meaning d).table in
    c.ratio_row.ensures t (subst (λ (b : List ℕ). HasRatios t d.columns b xs c.args.col) (sym c.deref.ensures.value)
    (held_ratios d.held d.columns d.basis.items tall wide c.args.col (omega arith)))
