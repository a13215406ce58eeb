use Rattle.std.proofs.Common.{◌≡◌, ◌≤◌, ◌-◌, length}
use Rattle.dc_frac.specs.Value.{value}
use Rattle.dc_sparse.proofs.Quotients.{IsAcross}
use Rattle.dc_sparse.proofs.web.Web.divide_row.Given as goal

abbrev pub invariant-loop-next : goal.invariant-loop-next
invariant-loop-next l = record {
  across : IsAcross l.initial.self.nodes.items l.self.nodes.items l.row (value l.by) l.done l.next;
  spare : l.self.spare ≡ l.initial.self.spare;
  arena : length l.self.nodes.items ≡ length l.initial.self.nodes.items;
  height : length l.self.row_heads.items ≡ length l.initial.self.row_heads.items;
  width : length l.self.col_heads.items ≡ length l.initial.self.col_heads.items;
  within : l.done ≤ length l.initial.self.col_heads.items;
}

abbrev pub decreases-loop-next : goal.decreases-loop-next
decreases-loop-next l = length l.initial.self.col_heads.items - l.done
