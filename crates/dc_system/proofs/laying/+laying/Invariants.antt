use Rattle.std.proofs.Common.{◌≡◌, ◌+◌, ◌*◌, ◌≤◌, ◌++◌, drop, map, true}
use Rattle.dc_affine.specs.Whole.{all_pass}
use Rattle.dc_graph.specs.Pieces.{piece, sizes, pieces, all_arrows}
use Rattle.dc_system.specs.Edges.{edge_of}
use Rattle.dc_system.proofs.laying.+laying.Given as goal

abbrev pub invariant-lay_all-loop-i : goal.invariant-lay_all-loop-i
invariant-lay_all-loop-i l = record {
  risen : l.at ≤ l.number;
  numbered : l.number + sizes (pieces (drop l.i l.body)) ≡ l.at + sizes (pieces l.body);
  passing : all_pass l.vars (drop l.i l.body) ≡ true;
  so_far : l.out.items ++ map (edge_of l.vars) (all_arrows (pieces (drop l.i l.body)) l.number l.next) ≡ l.initial.out.items ++ map (edge_of l.vars) (all_arrows (pieces l.body) l.at l.next);
}

-- the numbers that are still to be given
abbrev pub decreases-lay : goal.decreases-lay
decreases-lay l = 2 * (piece l.statement.now).size

abbrev pub decreases-lay_all : goal.decreases-lay_all
decreases-lay_all l = 2 * sizes (pieces l.body.now) + 1
