use Rattle.std.proofs.Common.{◌≡◌, ◌<◌, set, length, arith, ap, ◌∙◌}
use Rattle.dc_frac.specs.Value.{value}
use Rattle.dc_sparse.specs.declared.web.Node.{Node}
use Rattle.dc_sparse.proofs.SingleWrites.{written}
use Rattle.dc_sparse.proofs.Blank.{freed_start, freed_more}
use Rattle.dc_sparse.proofs.memory.free_all.Goals as goal

pub loop-node-init : goal.loop-node-init
loop-node-init c = freed_start c.args.nodes.now.items

pub loop-node-preserved : goal.loop-node-preserved
loop-node-preserved c =
    let xs = c.loop-node.nodes.items in
    let n = c.loop-node.node in
    let x : Node = c.new.result in
    let h = c.loop-node.invariant in
    let s = h.size in
    let l : n < length xs = omega (arith, c.args.nodes.now.ok.0) in
    freed_more xs (set xs n x) (length c.args.nodes.now.items) n x h (written xs n x l) c.new.ensures.row (ap value c.new.ensures.value ∙ c.whole.ensures) (c.new.ensures.right ∙ c.top.ensures.is)

pub returns : goal.returns
returns c =
    let e : c.loop-node.node ≡ length c.args.nodes.now.items = omega (arith, c.args.nodes.now.ok.0) in
    rw e at c.loop-node.invariant
