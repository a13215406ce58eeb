use Rattle.dc_frac.proofs.Halving.{odd_part_is}
use Rattle.dc_frac.proofs.gcd.odd_part.Goals as goal

pub returns : goal.returns
returns c = odd_part_is c.args.a c.requires c.ranges.a.fits
