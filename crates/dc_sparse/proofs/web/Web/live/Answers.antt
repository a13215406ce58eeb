use Rattle.std.proofs.Common.{◌∙◌, length, arith}
use Rattle.dc_sparse.proofs.LiveCounts.{live_count-entries}
use Rattle.dc_sparse.proofs.web.Web.live.Goals as goal

pub returns-clause-nodes : goal.returns-clause-nodes
returns-clause-nodes c = (let n = c.args.self.now.woven.count in omega (arith, c.args.self.now.nodes.ok.0))

pub returns-clause-entries : goal.returns-clause-entries
returns-clause-entries c =
    let w = c.args.self.now in
    returns-clause-nodes c ∙ live_count-entries w.nodes.items (length w.row_heads.items) (length w.col_heads.items) w.woven.apart w.woven.within
