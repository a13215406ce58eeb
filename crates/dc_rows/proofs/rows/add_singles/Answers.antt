use Rattle.dc_rows.specs.Rows.{rows_of_one}
use Rattle.dc_rows.proofs.Steps.{range_step, range_done}
use Rattle.std.proofs.Common.{arith}
use Rattle.dc_rows.proofs.rows.add_singles.Goals as goal

pub returns : goal.returns
returns c = range_done (rows_of_one c.args.vars) c.args.vars c.loop-k.k _ _ (omega arith) c.loop-k.invariant

pub loop-k-preserved : goal.loop-k-preserved
loop-k-preserved c = range_step (rows_of_one c.args.vars) c.args.vars c.loop-k.k _ _ _ (omega arith) c.in_ok-add_one.ensures c.loop-k.invariant
