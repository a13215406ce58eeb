use Rattle.std.proofs.Common.{◌≤◌, ◌-◌, length, pos, ◌≤ℤ◌}
use Rattle.dc_sparse.specs.Nodes.{by_rows}
use Rattle.dc_sparse.specs.Lines.{IsFirst}
use Rattle.dc_sparse.proofs.web.Web.common.Given as goal

abbrev pub invariant-loop-next : goal.invariant-loop-next
invariant-loop-next l = record {
  positive : pos 1 ≤ℤ l.common;
  first : IsFirst (by_rows l.self.nodes.items) l.row l.done l.next;
  within : l.done ≤ length l.self.col_heads.items;
}

abbrev pub decreases-loop-next : goal.decreases-loop-next
decreases-loop-next l = length l.self.col_heads.items - l.done
