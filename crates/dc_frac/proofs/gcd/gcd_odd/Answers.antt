use Rattle.std.proofs.Common.{arith, ◌≡◌}
use Rattle.dc_frac.proofs.Halving.{next_steps, last_steps}
use Rattle.dc_frac.proofs.gcd.gcd_odd.Goals as goal

pub loop-x-preserved : goal.loop-x-preserved
loop-x-preserved c = next_steps _ _ _ _ _ _ _ _ c.loop-x.invariant c.abs_diff-apart.ensures c.odd_part-x.ensures c.lesser-y.ensures

pub returns : goal.returns
returns c =
    let same : c.loop-x.x ≡ c.loop-x.y = omega (arith, c.loop-x-test.false) in
    last_steps _ _ _ _ c.loop-x.invariant same
