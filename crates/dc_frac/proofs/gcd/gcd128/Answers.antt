use Rattle.std.proofs.Common.{arith, ◌<◌, ◌^◌, pos, ◌∙◌, ap, ap₂}
use Rattle.std.proofs.lemmas.Int.{ints, to_z_pos, to_z-of_z}
use mir.Syntax.{w128}
use Rattle.dc_math.specs.Gcd.{gcd, gcd-le, gcd_positive}
use Rattle.dc_frac.proofs.gcd.gcd128.Goals as goal

pub overflow_cast-result : goal.overflow_cast-result
overflow_cast-result c = omega (arith, ints, gcd-le c.unsigned_abs.result c.unsigned_abs-2.result)

pub returns-clause-value : goal.returns-clause-value
returns-clause-value c =
    let small : c.gcd_sizes.result < 2 ^ 127 = omega (arith, ints, gcd-le c.unsigned_abs.result c.unsigned_abs-2.result) in
    let fits_a = c.ranges.a in
    let fits_b = c.ranges.b in
    to_z_pos w128 _ small ∙ ap pos (simp to_z-of_z at (c.gcd_sizes.ensures ∙ ap₂ gcd c.unsigned_abs.ensures.value c.unsigned_abs-2.ensures.value))

pub returns-clause-positive : goal.returns-clause-positive
returns-clause-positive c h =
    let small : c.gcd_sizes.result < 2 ^ 127 = omega (arith, ints, gcd-le c.unsigned_abs.result c.unsigned_abs-2.result) in
    let some : 0 < c.unsigned_abs-2.result = omega (arith, ints) in
    omega (arith, ints, gcd_positive c.unsigned_abs.result c.unsigned_abs-2.result some)
