use Rattle.std.proofs.Common.{◌≡◌, ℕ, ◌+◌, ◌≤◌, length}
use Rattle.dc_lp.specs.Problems.{entries}
use Rattle.dc_lp.proofs.Columns.{row_after}
use Rattle.dc_sparse.specs.Sizes.{HasGrown}
use Rattle.dc_sparse.specs.Fills.{IsFilling}
use Rattle.dc_sparse.proofs.web.Web.fill_real.Given as goal

abbrev pub invariant-loop-left : goal.invariant-loop-left
invariant-loop-left l = record {
  filling : IsFilling l.p l.self.nodes.items (l.p.rows + 2) (row_after 0 (entries l.p l.col) l.left) l.col;
  arena : (n : ℕ) → HasGrown n (length l.initial.self.nodes.items) l.initial.self.spare → HasGrown n (length l.self.nodes.items) l.self.spare;
  within : l.left ≤ length (entries l.p l.col);
  height : length l.self.row_heads.items ≡ length l.initial.self.row_heads.items;
  width : length l.self.col_heads.items ≡ length l.initial.self.col_heads.items;
}

abbrev pub decreases-loop-left : goal.decreases-loop-left
decreases-loop-left l = l.left
