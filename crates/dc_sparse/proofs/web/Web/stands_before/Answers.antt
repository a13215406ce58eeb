use Rattle.std.proofs.Common.{◌∙◌, not, arith, sym, ap}
use Rattle.dc_math.specs.Tests.{is_zero}
use Rattle.dc_sparse.proofs.SingleWrites.{item-read}
use Rattle.dc_sparse.proofs.Links.{row-read, col-read}
use Rattle.dc_sparse.proofs.web.Web.stands_before.Goals as goal

pub returns : goal.returns
returns c holds =
    let w = c.args.self.now in
    let n = c.args.node in
    let x = c.index-node.result.now in
    let row = c.row.ensures ∙ row-read w.nodes.items n x c.requires c.index-node.ensures in
    let above = c.if-row.false in
    record {
      live = ap (λ q. not (is_zero q)) (sym (item-read w.nodes.items n x c.requires c.index-node.ensures)) ∙ ap not (sym c.is_zero.ensures) ∙ holds;
      line = sym (c.col.ensures ∙ col-read w.nodes.items n x c.requires c.index-node.ensures) ∙ c.if-col.false;
      index = omega arith;
    }
