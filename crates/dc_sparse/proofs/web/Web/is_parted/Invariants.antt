use Rattle.std.proofs.Common.{ℕ, ◌<◌, ◌≤◌, ◌-◌, length}
use Rattle.dc_sparse.specs.Nodes.{by_rows}
use Rattle.dc_sparse.specs.Lines.{IsFirst}
use Rattle.dc_frac.specs.Value.{value}
use Rattle.dc_sparse.specs.Entries.{entry_at}
use Rattle.dc_sparse.specs.Scales.{IsPart}
use Rattle.dc_sparse.proofs.web.Web.is_parted.Given as goal

abbrev pub invariant-loop-next : goal.invariant-loop-next
invariant-loop-next l = record {
  parts : (k : ℕ) → k < l.done → IsPart (entry_at l.self.nodes.items l.row k) (value l.by);
  first : IsFirst (by_rows l.self.nodes.items) l.row l.done l.next;
  within : l.done ≤ length l.self.col_heads.items;
}

abbrev pub decreases-loop-next : goal.decreases-loop-next
decreases-loop-next l = length l.self.col_heads.items - l.done
