use Rattle.std.proofs.Common.{◌<◌, ◌∙◌, length, arith}
use Rattle.dc_sparse.proofs.Scaling.{scale-read}
use Rattle.dc_sparse.proofs.scaled.Scaled.reduce.Goals as goal

pub reduce_whole-requires-clause-mine : goal.reduce_whole-requires-clause-mine
reduce_whole-requires-clause-mine c =
    let s = c.args.self.now in
    let lt : c.args.row < length s.dens.items = (let l = s.scaled.long in omega arith) in
    scale-read s.dens.items c.args.row c.index.result.now lt c.index.ensures ∙ c.in-Some.is

pub reduce_whole-requires-clause-den : goal.reduce_whole-requires-clause-den
reduce_whole-requires-clause-den c =
    let s = c.args.self.now in
    let lt : c.args.pivot < length s.dens.items = (let l = s.scaled.long in omega arith) in
    scale-read s.dens.items c.args.pivot c.index-in-Some.result.now lt c.index-in-Some.ensures ∙ c.in-Some-index.is
