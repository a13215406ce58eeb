use Rattle.std.proofs.Common.{◌∙◌}
use Rattle.dc_lp.specs.Folds.{numbers}
use Rattle.dc_session.specs.Made.{unknown_in}
use Rattle.dc_engine.proofs.Bodies.{vector_push, one_zero, unknown_read}
use Rattle.dc_engine.proofs.body.differences.Goals as goal

pub difference-requires : goal.difference-requires
difference-requires c =
    one_zero c.args.count c.args.x.now c.requires c.loop-k.k c.index-x-k.result c.index-x-k-in-loop-k.result c.loop-k-test.true c.index-x-k.is c.index-x-k-in-loop-k.is

pub loop-k-preserved : goal.loop-k-preserved
loop-k-preserved c =
    vector_push (unknown_in (numbers c.args.x.now)) c.loop-k.list.items c.push.new.self.items c.loop-k.k c.difference.result c.loop-k.invariant
    (c.difference.ensures ∙ unknown_read c.args.count c.args.x.now c.requires c.loop-k.k c.index-x-k.result c.index-x-k-in-loop-k.result c.loop-k-test.true c.index-x-k.is c.index-x-k-in-loop-k.is)
    c.in_ok-push.ensures.items
