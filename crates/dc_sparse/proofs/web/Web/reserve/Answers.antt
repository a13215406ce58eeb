use Rattle.std.proofs.Common.{◌∙◌, arith}
use Rattle.dc_sparse.proofs.Entries.{keeps_on}
use Rattle.dc_sparse.proofs.web.Web.reserve.Goals as goal

pub loop-preserved : goal.loop-preserved
loop-preserved c =
    let i = c.loop.invariant in
    let s = i.spare in
    let r = i.room in
    record {
      kept = keeps_on c.args.self.now.nodes.items c.loop.self.nodes.items c.grow.new.self.nodes.items i.kept c.grow.ensures.kept;
      arena = (let a = i.arena in let g = c.grow.ensures.arena in omega arith);
      spare = (let g = c.grow.ensures.spare in omega arith);
      room = (let l = c.grow.ensures.long in let k = c.grow.ensures.capacity in omega arith);
      rows = c.grow.ensures.rows ∙ i.rows;
      columns = c.grow.ensures.columns ∙ i.columns;
    }
