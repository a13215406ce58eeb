use Rattle.std.proofs.Common.{refl}
use Rattle.dc_greatest.proofs.Sames.{same_all}
use Rattle.dc_greatest.proofs.lists.are_same.Goals as goal

pub returns : goal.returns
returns c = let e = same_all c.args.a.now c.args.b.now c.loop-k.k c.loop-k-test.false c.requires c.loop-k.invariant in ((λ t. e), (λ q. refl))
