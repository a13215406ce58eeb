use Rattle.dc_sparse.proofs.SingleWrites.{relinked_right, reheaded_at}
use Rattle.dc_sparse.proofs.writes.link_right.Goals as goal

pub returns-in-None-clause-heads : goal.returns-in-None-clause-heads
returns-in-None-clause-heads c = rw c.in-None.is (reheaded_at c.args.heads.now.items c.args.row c.args.to c.requires.row)

pub returns-in-Some-clause-nodes : goal.returns-in-Some-clause-nodes
returns-in-Some-clause-nodes c = rw c.in-Some.is (relinked_right c.args.nodes.now.items c.in-Some.left c.index_mut-in-Some.result.now c.set_right.new.self c.args.to (rw c.in-Some.is at c.requires.before) c.index_mut-in-Some.ensures.value (record { row = c.set_right.ensures.row; col = c.set_right.ensures.col; value = c.set_right.ensures.value; right = c.set_right.ensures.right; down = c.set_right.ensures.down }))
