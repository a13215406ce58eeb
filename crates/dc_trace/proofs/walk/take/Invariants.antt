use Rattle.std.proofs.Common.{◌≡◌}
use Rattle.dc_trace.specs.Tails.{todo_at}
use Rattle.dc_trace.proofs.walk.take.Given as goal

abbrev pub invariant-tails : goal.invariant-tails
invariant-tails l = todo_at l.tails.items ≡ todo_at l.fn.tails.items

abbrev pub decreases-tails : goal.decreases-tails
decreases-tails l = goal.left-tails l
