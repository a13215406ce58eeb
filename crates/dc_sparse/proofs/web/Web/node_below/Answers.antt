use Rattle.std.proofs.Common.{◌∙◌, arith, Some}
use Rattle.dc_sparse.specs.Lines.{IsFirst, index_after}
use Rattle.dc_sparse.specs.Nodes.{by_columns}
use Rattle.dc_sparse.proofs.SingleWrites.{item_live}
use Rattle.dc_sparse.proofs.Links.{last_stop, row-read, below_is, below_isnt}
use Rattle.dc_sparse.proofs.web.Web.node_below.Goals as goal

pub down_of-requires-clause-above : goal.down_of-requires-clause-above
down_of-requires-clause-above c = last_stop (by_columns c.args.self.now.nodes.items) c.args.col c.args.row c.args.above c.requires.above

pub index-requires : goal.index-requires
index-requires c =
    let w = c.args.self.now in
    let f : IsFirst (by_columns w.nodes.items) c.args.col (index_after (by_columns w.nodes.items) c.args.above) (Some c.in_ok-node.node) = c.in_ok-node.ensures in
    let l = item_live w.nodes.items c.in_ok-node.node f.0.live in
    omega (arith, w.nodes.ok.0)

pub returns-then-row : goal.returns-then-row
returns-then-row c =
    let w = c.args.self.now in
    let f : IsFirst (by_columns w.nodes.items) c.args.col (index_after (by_columns w.nodes.items) c.args.above) (Some c.in_ok-node.node) = c.in_ok-node.ensures in
    let e = c.row.ensures ∙ row-read w.nodes.items c.in_ok-node.node c.index.result.now (item_live w.nodes.items c.in_ok-node.node f.0.live) c.index.ensures in
    below_is w.nodes.items c.args.row c.args.col c.args.above c.in_ok-node.node c.requires.above f (let t = c.if-row.true in omega arith)

pub returns-else-row : goal.returns-else-row
returns-else-row c =
    let w = c.args.self.now in
    let f : IsFirst (by_columns w.nodes.items) c.args.col (index_after (by_columns w.nodes.items) c.args.above) (Some c.in_ok-node.node) = c.in_ok-node.ensures in
    let e = c.row.ensures ∙ row-read w.nodes.items c.in_ok-node.node c.index.result.now (item_live w.nodes.items c.in_ok-node.node f.0.live) c.index.ensures in
    below_isnt w.nodes.items c.args.row c.args.col c.args.above c.in_ok-node.node c.requires.above f (let t = c.if-row.false in λ q. t (e ∙ q))
