use Rattle.std.proofs.Common.{◌∙◌, ap, map}
use Rattle.dc_rows.specs.Rows.{with_row}
use Rattle.dc_rows.proofs.Same.{with_row-keys}
use Rattle.dc_rows.proofs.row_set.RowSet.insert.Goals as goal

pub returns : goal.returns
returns c =
    ap (map (λ v. v.items)) c.in_ok-insert.ensures.keys ∙ (with_row-keys c.self.inside.set.keys c.args.row ∙ ap (λ n. with_row n c.args.row.items) c.self.view_is)
