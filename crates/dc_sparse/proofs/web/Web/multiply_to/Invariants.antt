use Rattle.std.proofs.Common.{IsTrue, length}
use Rattle.dc_math.specs.Rational.{of_ℤ}
use Rattle.dc_sparse.specs.Nodes.{by_rows}
use Rattle.dc_sparse.specs.Held.{KeepsSizes}
use Rattle.dc_sparse.proofs.Links.{left_from}
use Rattle.dc_sparse.proofs.Multiples.{IsPassing}
use Rattle.dc_sparse.proofs.web.Web.multiply_to.Given as goal

abbrev pub invariant-loop-next : goal.invariant-loop-next
invariant-loop-next l = record {
  passing : IsPassing l.initial.self.nodes.items l.self.nodes.items l.row l.done l.limit (of_ℤ l.times) l.all l.left l.next;
  before : IsTrue l.all → IsTrue l.small;
  sizes : KeepsSizes l.initial.self l.self;
}

abbrev pub decreases-loop-next : goal.decreases-loop-next
decreases-loop-next l = left_from (by_rows l.self.nodes.items) (length l.self.col_heads.items) l.next
