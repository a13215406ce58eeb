use Rattle.std.proofs.Common.{◌≡◌, ◌≤◌, length, drop}
use Rattle.dc_poly.specs.Sums.{times}
use Rattle.dc_poly.proofs.lists.product.Given as goal

abbrev pub invariant-terms : goal.invariant-terms
invariant-terms l = record {
  inside : l.k ≤ length l.left;
  so_far : l.sum.items ≡ times (drop l.k l.left) l.right;
}

abbrev pub decreases-terms : goal.decreases-terms
decreases-terms l = l.k
