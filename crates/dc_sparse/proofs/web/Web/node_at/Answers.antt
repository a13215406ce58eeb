use Rattle.std.proofs.Common.{◌∙◌, arith, Some}
use Rattle.dc_sparse.specs.Lines.{IsFirst, index_after}
use Rattle.dc_sparse.specs.Nodes.{by_rows}
use Rattle.dc_sparse.proofs.SingleWrites.{item_live}
use Rattle.dc_sparse.proofs.Links.{last_stop, col-read, first_is, first_isnt}
use Rattle.dc_sparse.proofs.web.Web.node_at.Goals as goal

pub right_of-requires-clause-left : goal.right_of-requires-clause-left
right_of-requires-clause-left c = last_stop (by_rows c.args.self.now.nodes.items) c.args.row c.args.col c.args.left c.requires.left

pub index-requires : goal.index-requires
index-requires c =
    let w = c.args.self.now in
    let f : IsFirst (by_rows w.nodes.items) c.args.row (index_after (by_rows w.nodes.items) c.args.left) (Some c.in_ok-node.node) = c.in_ok-node.ensures in
    let l = item_live w.nodes.items c.in_ok-node.node f.0.live in
    omega (arith, w.nodes.ok.0)

pub returns-then-col : goal.returns-then-col
returns-then-col c =
    let w = c.args.self.now in
    let f : IsFirst (by_rows w.nodes.items) c.args.row (index_after (by_rows w.nodes.items) c.args.left) (Some c.in_ok-node.node) = c.in_ok-node.ensures in
    let e = c.col.ensures ∙ col-read w.nodes.items c.in_ok-node.node c.index.result.now (item_live w.nodes.items c.in_ok-node.node f.0.live) c.index.ensures in
    first_is w.nodes.items c.args.row c.args.col c.args.left c.in_ok-node.node c.requires.left f (let t = c.if-col.true in omega arith)

pub returns-else-col : goal.returns-else-col
returns-else-col c =
    let w = c.args.self.now in
    let f : IsFirst (by_rows w.nodes.items) c.args.row (index_after (by_rows w.nodes.items) c.args.left) (Some c.in_ok-node.node) = c.in_ok-node.ensures in
    let e = c.col.ensures ∙ col-read w.nodes.items c.in_ok-node.node c.index.result.now (item_live w.nodes.items c.in_ok-node.node f.0.live) c.index.ensures in
    first_isnt w.nodes.items c.args.row c.args.col c.args.left c.in_ok-node.node c.requires.left f (let t = c.if-col.false in λ q. t (e ∙ q))
