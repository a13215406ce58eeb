use Rattle.std.proofs.Common.{◌∙◌, sym, length}
use Rattle.dc_sparse.proofs.Fits.{fit_cell}
use Rattle.dc_sparse.proofs.Tables.{table-at}
use Rattle.dc_sparse.specs.Held.{held_at}
use Rattle.dc_sparse.proofs.cross.CrossTableau.entry.Goals as goal

pub returns : goal.returns
returns c =
    let d = c.args.self.now in
    let f = fit_cell d c.args.row c.args.col c.requires.usable.loaded c.requires.cell in
    c.entry.ensures ∙ sym (table-at d.columns (length d.held.web.row_heads.items) (length d.held.web.col_heads.items) d.basis.items (held_at d.held) f.tall f.wide c.args.row c.args.col f.inside f.column)
