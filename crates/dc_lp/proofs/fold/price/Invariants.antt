use Rattle.std.proofs.Common.{◌≡◌, Some}
use Rattle.dc_frac.specs.Value.{value}
use Rattle.dc_lp.specs.Problems.{coefficient_in}
use Rattle.dc_lp.proofs.Columns.{row_after}
use Rattle.dc_lp.specs.Folds.{folded, numbers}
use Rattle.dc_lp.proofs.fold.price.Given as goal

abbrev pub invariant-loop-e : goal.invariant-loop-e
invariant-loop-e l = folded (row_after 0 l.column l.e-index) (coefficient_in l.column) (numbers l.y) ≡ Some (value l.sum)
