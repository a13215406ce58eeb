use Rattle.std.proofs.Common.{◌≤◌, ◌-◌, length}
use Rattle.dc_sparse.proofs.RowSteps.{IsCounting}
use Rattle.dc_sparse.proofs.web.Web.row_gaps.Given as goal

abbrev pub invariant-loop-source : goal.invariant-loop-source
invariant-loop-source l = record {
  counting : IsCounting l.self.nodes.items l.row l.pivot l.count l.done l.source l.left;
  within : l.done ≤ length l.self.col_heads.items;
}

abbrev pub decreases-loop-source : goal.decreases-loop-source
decreases-loop-source l = length l.self.col_heads.items - l.done
