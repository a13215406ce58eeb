use Rattle.dc_trace.proofs.Walks.{todo-pushed}
use Rattle.dc_trace.proofs.walk.Walk.put.Goals as goal

pub returns-clause-todo : goal.returns-clause-todo
returns-clause-todo c = todo-pushed c.args.self.now.tails.items c.push.new.self.items c.args.statements c.in_ok-push.ensures.items
