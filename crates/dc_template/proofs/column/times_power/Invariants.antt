use Rattle.dc_template.proofs.Stages.{Stage}
use Rattle.dc_template.proofs.column.times_power.Given as goal

abbrev pub invariant-loop-k : goal.invariant-loop-k
invariant-loop-k l = Stage l.fn.column l.update l._k l.product
