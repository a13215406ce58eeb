use Rattle.dc_sparse.proofs.SingleWrites.{relinked_down, reheaded_at}
use Rattle.dc_sparse.proofs.writes.link_down.Goals as goal

pub returns-in-None-clause-heads : goal.returns-in-None-clause-heads
returns-in-None-clause-heads c = rw c.in-None.is (reheaded_at c.args.heads.now.items c.args.col c.args.to c.requires.col)

pub returns-in-Some-clause-nodes : goal.returns-in-Some-clause-nodes
returns-in-Some-clause-nodes c = rw c.in-Some.is (relinked_down c.args.nodes.now.items c.in-Some.above c.index_mut-in-Some.result.now c.set_down.new.self c.args.to (rw c.in-Some.is at c.requires.before) c.index_mut-in-Some.ensures.value (record { row = c.set_down.ensures.row; col = c.set_down.ensures.col; value = c.set_down.ensures.value; right = c.set_down.ensures.right; down = c.set_down.ensures.down }))
