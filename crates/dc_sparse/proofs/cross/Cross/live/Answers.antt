use Rattle.std.proofs.Common.{◌≡◌, ◌+◌, ◌∙◌, length, vec_len, sym, arith}
use Rattle.dc_sparse.specs.Shape.{IsShaped}
use Rattle.dc_sparse.proofs.Tables.{entries-grid}
use Rattle.dc_sparse.specs.Held.{held_at}
use Rattle.dc_sparse.proofs.HeldEntries.{held-zero}
use Rattle.dc_sparse.proofs.cross.Cross.live.Goals as goal

pub returns-clause-entries : goal.returns-clause-entries
returns-clause-entries c loaded =
    let d = c.args.self.now in
    let s : IsShaped d.columns (vec_len d.basis) (length d.held.web.row_heads.items) (length d.held.web.col_heads.items) = d.shape loaded in
    let tall : length d.held.web.row_heads.items ≡ length d.basis.items + 2 = omega (arith, d.basis.ok.0) in
    let wide : length d.held.web.col_heads.items ≡ d.columns + length d.basis.items + 1 = omega (arith, d.basis.ok.0) in
    c.live.ensures.entries ∙ sym (entries-grid d.columns (length d.held.web.row_heads.items) (length d.held.web.col_heads.items) d.basis.items (held_at d.held) tall wide d.held.web.nodes.items (λ i k. held-zero d.held i k))
