use Rattle.dc_dense.specs.Meanings.{dense_meaning}
use Rattle.dc_start.specs.Ratios.{IsBestOf}
use Rattle.dc_dense.proofs.dense.DenseTableau.ratio_row.Given as goal

abbrev pub invariant-loop-row : goal.invariant-loop-row
invariant-loop-row l = IsBestOf (dense_meaning l.self).table l.col l.row l.best
