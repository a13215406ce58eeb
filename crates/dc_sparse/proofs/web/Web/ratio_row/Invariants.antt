use Rattle.std.proofs.Common.{◌+◌, ◌-◌, ◌≤◌, length}
use Rattle.dc_math.specs.Rational.{ℚ}
use Rattle.dc_lp.specs.Tables.{Table}
use Rattle.dc_start.specs.Ratios.{IsBestOf}
use Rattle.dc_sparse.specs.Nodes.{by_columns}
use Rattle.dc_sparse.specs.Lines.{IsFirst, StandsBefore}
use Rattle.dc_sparse.specs.Ratios.{HasRatios}
use Rattle.dc_sparse.proofs.web.Web.ratio_row.Given as goal

abbrev pub invariant-loop-next : goal.invariant-loop-next
invariant-loop-next l = record {
  best : (t : Table ℚ) → HasRatios t l.columns l.basis l.self.nodes.items l.col → IsBestOf t l.col l.done l.best;
  next : IsFirst (by_columns l.self.nodes.items) l.col l.done l.next;
  stop : StandsBefore (by_columns l.self.nodes.items) (l.columns + length l.basis) l.done l.above;
  within : l.done ≤ length l.basis;
}

abbrev pub decreases-loop-next : goal.decreases-loop-next
decreases-loop-next l = length l.basis - l.done
