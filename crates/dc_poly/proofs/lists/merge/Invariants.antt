use Rattle.std.proofs.Common.{◌≤◌, ◌+◌, ◌-◌, length, drop}
use Rattle.dc_poly.proofs.Merge.{Merging}
use Rattle.dc_poly.proofs.lists.merge.Given as goal

abbrev pub invariant-merge : goal.invariant-merge
invariant-merge l = record {
  left_in : l.i ≤ length l.left;
  right_in : l.j ≤ length l.right;
  merging : Merging l.left l.right l.out.items (drop l.i l.left) (drop l.j l.right);
}

abbrev pub decreases-merge : goal.decreases-merge
decreases-merge l = (length l.left - l.i) + (length l.right - l.j)
