use Rattle.std.proofs.Common.{arith}
use Rattle.dc_frac.proofs.Halving.{gcd-zero, gcd-rest}
use Rattle.dc_frac.proofs.gcd.gcd_ordered.Goals as goal

pub returns-then-b-eq0 : goal.returns-then-b-eq0
returns-then-b-eq0 c = gcd-zero _ _ (omega (arith, c.if-b-eq0.true))

pub returns-then-rest-eq0 : goal.returns-then-rest-eq0
returns-then-rest-eq0 c = gcd-rest _ _ _ (gcd-zero _ _ (omega (arith, c.if-rest-eq0.true)))

pub returns-else-rest-eq0 : goal.returns-else-rest-eq0
returns-else-rest-eq0 c = gcd-rest _ _ _ c.gcd_nonzero.ensures
