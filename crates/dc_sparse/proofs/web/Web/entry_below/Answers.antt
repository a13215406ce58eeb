use Rattle.std.proofs.Common.{◌∙◌, arith, sym}
use Rattle.dc_sparse.specs.Entries.{StandsAt}
use Rattle.dc_sparse.proofs.SingleWrites.{item_live, item-read}
use Rattle.dc_sparse.proofs.Entries.{entry-node, entry-vacant}
use Rattle.dc_sparse.proofs.web.Web.entry_below.Goals as goal

pub index-requires : goal.index-requires
index-requires c =
    let w = c.args.self.now in
    let s : StandsAt w.nodes.items c.in-Some.node c.args.row c.args.col = c.in-Some.ensures in
    let l = item_live w.nodes.items c.in-Some.node s.live in
    omega (arith, w.nodes.ok.0)

pub returns-in-Some : goal.returns-in-Some
returns-in-Some c =
    let w = c.args.self.now in
    let s : StandsAt w.nodes.items c.in-Some.node c.args.row c.args.col = c.in-Some.ensures in
    let l = item_live w.nodes.items c.in-Some.node s.live in
    item-read w.nodes.items c.in-Some.node c.index.result.now l c.index.ensures ∙ sym (entry-node w.nodes.items c.in-Some.node c.args.row c.args.col l w.woven.apart s)

pub returns-in-None : goal.returns-in-None
returns-in-None c = c.whole.ensures ∙ sym (entry-vacant c.args.self.now.nodes.items c.args.row c.args.col c.in-None.ensures)
