use Rattle.std.proofs.Common.{◌≡◌, ℕ, ◌+◌, ◌≤◌, length}
use Rattle.dc_sparse.specs.Sizes.{HasGrown}
use Rattle.dc_sparse.specs.Fills.{IsFilling}
use Rattle.dc_sparse.proofs.web.Web.fill_right.Given as goal

abbrev pub invariant-loop-row : goal.invariant-loop-row
invariant-loop-row l = record {
  filling : IsFilling l.p l.self.nodes.items (l.p.rows + 2) l.row l.col;
  arena : (n : ℕ) → HasGrown n (length l.initial.self.nodes.items) l.initial.self.spare → HasGrown n (length l.self.nodes.items) l.self.spare;
  within : l.row ≤ l.p.rows + 2;
  height : length l.self.row_heads.items ≡ length l.initial.self.row_heads.items;
  width : length l.self.col_heads.items ≡ length l.initial.self.col_heads.items;
}

abbrev pub decreases-loop-row : goal.decreases-loop-row
decreases-loop-row l = l.row
