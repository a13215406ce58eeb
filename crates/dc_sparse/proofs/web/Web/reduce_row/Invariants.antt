use Rattle.std.proofs.Common.{◌≡◌, ◌≤◌, ◌-◌, length}
use Rattle.dc_frac.specs.Value.{value}
use Rattle.dc_sparse.proofs.RowSteps.{IsAlong}
use Rattle.dc_sparse.proofs.web.Web.reduce_row.Given as goal

abbrev pub invariant-loop-source : goal.invariant-loop-source
invariant-loop-source l = record {
  along : IsAlong l.initial.self.nodes.items l.self.nodes.items l.row l.pivot l.col (value l.factor) l.initial.self.spare l.self.spare l.done l.source l.left;
  arena : length l.self.nodes.items ≡ length l.initial.self.nodes.items;
  height : length l.self.row_heads.items ≡ length l.initial.self.row_heads.items;
  width : length l.self.col_heads.items ≡ length l.initial.self.col_heads.items;
  within : l.done ≤ length l.initial.self.col_heads.items;
}

abbrev pub decreases-loop-source : goal.decreases-loop-source
decreases-loop-source l = length l.initial.self.col_heads.items - l.done
