use Rattle.std.proofs.Common.{◌+◌}
use Rattle.dc_frac.proofs.Halving.{OddSteps}
use Rattle.dc_frac.proofs.gcd.gcd_odd.Given as goal

abbrev pub invariant-loop-x : goal.invariant-loop-x
invariant-loop-x l = OddSteps l.fn.a l.fn.b l.x l.y

abbrev pub decreases-loop-x : goal.decreases-loop-x
decreases-loop-x l = l.x + l.y
