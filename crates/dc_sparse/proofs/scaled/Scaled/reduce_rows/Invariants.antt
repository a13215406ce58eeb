use Rattle.std.proofs.Common.{◌≡◌, ◌≤◌, ◌-◌, length}
use Rattle.dc_sparse.specs.Held.{held_at}
use Rattle.dc_sparse.proofs.HeldSteps.{AreDown}
use Rattle.dc_sparse.proofs.scaled.Scaled.reduce_rows.Given as goal

abbrev pub invariant-loop-next : goal.invariant-loop-next
invariant-loop-next l = record {
  down : AreDown (held_at l.initial.self) (held_at l.self) l.self.web.nodes.items (length l.initial.self.web.col_heads.items) l.pivot l.col l.initial.self.web.spare l.self.web.spare l.done l.next;
  arena : length l.self.web.nodes.items ≡ length l.initial.self.web.nodes.items;
  height : length l.self.web.row_heads.items ≡ length l.initial.self.web.row_heads.items;
  width : length l.self.web.col_heads.items ≡ length l.initial.self.web.col_heads.items;
  within : l.done ≤ length l.initial.self.web.row_heads.items;
}

abbrev pub decreases-loop-next : goal.decreases-loop-next
decreases-loop-next l = length l.initial.self.web.row_heads.items - l.done
