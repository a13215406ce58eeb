use Rattle.dc_start.proofs.Loads.{basis-more}
use Rattle.dc_start.proofs.start.start_basis.Goals as goal

pub loop-i-preserved : goal.loop-i-preserved
loop-i-preserved c = basis-more c.args.n c.loop-i.i c.loop-i.basis.items c.push.new.self.items c.loop-i.invariant c.in_ok-push.ensures.items
