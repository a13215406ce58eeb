use Rattle.dc_rows.specs.Rows.{later_rows}
use Rattle.dc_rows.proofs.Steps.{range_step, range_done}
use Rattle.std.proofs.Common.{arith}
use Rattle.dc_rows.proofs.rows.add_pairs.Goals as goal

pub returns : goal.returns
returns c = range_done (later_rows c.args.vars) c.args.vars c.loop-j.j _ _ (omega arith) c.loop-j.invariant

pub loop-j-preserved : goal.loop-j-preserved
loop-j-preserved c = range_step (later_rows c.args.vars) c.args.vars c.loop-j.j _ _ _ (omega arith) c.in_ok-add_later.ensures c.loop-j.invariant
