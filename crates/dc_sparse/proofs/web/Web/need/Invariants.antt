use Rattle.std.proofs.Common.{◌≤◌, ◌-◌, length}
use Rattle.dc_sparse.proofs.ColumnSteps.{AreCounted}
use Rattle.dc_sparse.proofs.web.Web.need.Given as goal

abbrev pub invariant-loop-next : goal.invariant-loop-next
invariant-loop-next l = record {
  counting : AreCounted l.self.nodes.items (length l.self.col_heads.items) l.pivot l.col l.count l.done l.next;
  within : l.done ≤ length l.self.row_heads.items;
}

abbrev pub decreases-loop-next : goal.decreases-loop-next
decreases-loop-next l = length l.self.row_heads.items - l.done
