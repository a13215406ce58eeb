use Rattle.dc_greatest.proofs.Sames.{same_options}
use Rattle.dc_greatest.proofs.lists.same_numbers.Goals as goal

pub returns : goal.returns
returns c = let e = c.eq.ensures in rw e (same_options c.args.a.now c.args.b.now)
