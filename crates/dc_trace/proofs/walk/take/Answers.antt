use Rattle.dc_trace.proofs.Walks.{todo-done, todo-taken}
use Rattle.dc_trace.proofs.walk.take.Goals as goal

pub returns-in-Some-tail_at : goal.returns-in-Some-tail_at
returns-in-Some-tail_at c = (
  todo-taken c.pop.new.self.items c.tails.tails.items c.in-Some.all _ c.in-Some-tail_at.tail.first.now c.in-Some-tail_at.tail.rest.now c.in-Some.ensures.items c.in-Some-tail_at.ensures.0 c.tails.invariant,
  c.in-Some-tail_at.ensures.1,
)

pub tails-preserved : goal.tails-preserved
tails-preserved c = todo-done c.pop.new.self.items c.tails.tails.items c.in-Some.all _ c.in-Some.ensures.items c.in_default-tail_at.ensures c.tails.invariant
