use Rattle.std.proofs.Common.{◌≡◌, ◌≤◌, ◌-◌, length}
use Rattle.dc_sparse.specs.Nodes.{by_rows}
use Rattle.dc_sparse.specs.Lines.{IsFirst}
use Rattle.dc_sparse.specs.Entries.{entry_at}
use Rattle.dc_sparse.specs.Rows.{entries_in}
use Rattle.dc_sparse.proofs.web.Web.row_length.Given as goal

abbrev pub invariant-loop-next : goal.invariant-loop-next
invariant-loop-next l = record {
  counted : l.count ≡ entries_in (entry_at l.self.nodes.items l.row) l.done;
  first : IsFirst (by_rows l.self.nodes.items) l.row l.done l.next;
  within : l.done ≤ length l.self.col_heads.items;
}

abbrev pub decreases-loop-next : goal.decreases-loop-next
decreases-loop-next l = length l.self.col_heads.items - l.done
