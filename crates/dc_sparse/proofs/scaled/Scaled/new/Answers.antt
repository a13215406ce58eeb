use Rattle.dc_sparse.proofs.Scaling.{empty_scaled}
use Rattle.dc_sparse.proofs.scaled.Scaled.new.Goals as goal

pub invariant_of-result : goal.invariant_of-result
invariant_of-result c = record { scaled = rw (c.new.ensures.nodes, c.new.ensures.rows, c.new-2.ensures.items) empty_scaled }
