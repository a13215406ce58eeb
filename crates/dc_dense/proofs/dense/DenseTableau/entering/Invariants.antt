use Rattle.std.proofs.Common.{◌≡◌, None}
use Rattle.dc_dense.specs.Meanings.{dense_meaning}
use Rattle.dc_dense.proofs.Links.{entering_below}
use Rattle.dc_dense.proofs.dense.DenseTableau.entering.Given as goal

abbrev pub invariant-loop-col : goal.invariant-loop-col
invariant-loop-col l = entering_below (dense_meaning l.self).table l.cost_row l.col ≡ None
