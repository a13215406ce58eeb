use Rattle.std.specs.Prelude.{◌*◌, ◌^◌, ◌≤◌}
use Rattle.std.specs.Int.{w64, trailing_zeros}
use Rattle.std.proofs.Common.{arith, ap, ◌∙◌}
use Rattle.dc_frac.proofs.Halving.{put_back_left, put_back_right, shifted_is}
use Rattle.dc_frac.proofs.gcd.gcd_nonzero.Goals as goal

pub returns-then-left-right : goal.returns-then-left-right
returns-then-left-right c =
    let t = trailing_zeros w64 c.args.a in
    let less : t ≤ trailing_zeros w64 c.args.b = omega (arith, c.if-left-right.true) in
    shifted_is c.args.a c.args.b _
    (ap (λ n. n * 2 ^ t) c.gcd_odd-odd.ensures ∙ put_back_left _ _ _ _ _ _ c.odd_part.ensures c.odd_part-2.ensures less)
    c.ranges.a.fits c.ranges.b.fits

pub returns-else-left-right : goal.returns-else-left-right
returns-else-left-right c =
    let t = trailing_zeros w64 c.args.b in
    let less : t ≤ trailing_zeros w64 c.args.a = omega (arith, c.if-left-right.false) in
    shifted_is c.args.a c.args.b _
    (ap (λ n. n * 2 ^ t) c.gcd_odd-odd.ensures ∙ put_back_right _ _ _ _ _ _ c.odd_part.ensures c.odd_part-2.ensures less)
    c.ranges.a.fits c.ranges.b.fits
