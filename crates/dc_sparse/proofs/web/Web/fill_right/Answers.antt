use Rattle.std.proofs.Common.{◌+◌}
use Rattle.dc_sparse.proofs.StartTables.{filling-part}
use Rattle.dc_sparse.proofs.web.Web.fill_right.Goals as goal

pub returns-clause-part : goal.returns-clause-part
returns-clause-part c =
    let p = c.args.p.now in
    filling-part p c.loop-row.self.nodes.items (p.rows + 2) c.loop-row.row c.args.col c.loop-row.invariant.filling
