use Rattle.std.proofs.Common.{◌≡◌, ◌+◌, ◌*◌, ◌<◌, ◌∙◌, sym, arith, length, vec_len}
use Rattle.dc_dense.specs.Shape.{IsShaped}
use Rattle.dc_dense.proofs.Indices.{index_below}
use Rattle.dc_dense.proofs.Flats.{item-is}
use Rattle.dc_dense.proofs.Links.{table-at}
use Rattle.dc_dense.proofs.dense.DenseTableau.entry.Goals as goal

pub returns : goal.returns
returns c =
    let d = c.args.self.now in
    let s : IsShaped d.rows d.columns d.width (vec_len d.basis) (vec_len d.items) = d.shape c.requires.usable.loaded in
    let tall : d.rows + 2 ≡ length d.basis.items + 2 = omega (arith, d.basis.ok.0) in
    let wide : d.width ≡ d.columns + length d.basis.items + 1 = omega (arith, d.basis.ok.0) in
    let r : c.args.row < d.rows + 2 = omega (arith, d.basis.ok.0) in
    let k : c.args.col < d.width = omega (arith, d.basis.ok.0) in
    let e : c.args.row * d.width + c.args.col < (d.rows + 2) * d.width = index_below c.args.row c.args.col (d.rows + 2) d.width r k in
    let q : c.args.row * d.width + c.args.col < length d.items.items = omega (arith, d.items.ok.0) in
    item-is d.items.items (c.args.row * d.width + c.args.col) c.index.result.now q c.index.ensures
    ∙ sym (table-at d.columns (d.rows + 2) d.width d.basis.items d.items.items tall wide c.args.row c.args.col r k)
