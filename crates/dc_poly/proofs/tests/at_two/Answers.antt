use Rattle.std.proofs.Common.{rules, arith, tests}
use Rattle.dc_poly.proofs.Small.{can_subst}
use Rattle.dc_poly.proofs.tests.at_two.Goals as goal

pub subst-requires : goal.subst-requires
subst-requires g c =
    can_subst c.args.p.now c.args.a c.args.b
    (first_of (search rules, grind (arith, tests))) (first_of (search rules, grind (arith, tests)))
    (first_of (search rules, grind (arith, tests))) (first_of (search rules, grind (arith, tests))) (first_of (search rules, grind (arith, tests)))
    (first_of (search rules, grind (arith, tests))) (first_of (search rules, grind (arith, tests))) (first_of (search rules, grind (arith, tests)))
