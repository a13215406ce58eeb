use Rattle.std.proofs.Common.{◌≡◌, ℕ, ◌+◌, ◌≤◌, length}
use Rattle.dc_start.specs.Starts.{width}
use Rattle.dc_sparse.specs.Sizes.{HasGrown}
use Rattle.dc_sparse.specs.Fills.{IsFilled}
use Rattle.dc_sparse.proofs.web.Web.fill.Given as goal

abbrev pub invariant-loop-col : goal.invariant-loop-col
invariant-loop-col l = record {
  filled : IsFilled l.p l.self.nodes.items (l.p.rows + 2) l.col;
  arena : (n : ℕ) → HasGrown n (length l.initial.self.nodes.items) l.initial.self.spare → HasGrown n (length l.self.nodes.items) l.self.spare;
  within : l.col ≤ width l.p;
  height : length l.self.row_heads.items ≡ length l.initial.self.row_heads.items;
  width : length l.self.col_heads.items ≡ length l.initial.self.col_heads.items;
}

abbrev pub decreases-loop-col : goal.decreases-loop-col
decreases-loop-col l = l.col
