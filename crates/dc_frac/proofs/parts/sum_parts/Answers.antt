use Rattle.std.proofs.Common.{rules, arith, sym, subst, subst₂, SomeIff, ◌≡◌, pos, ◌∙◌, SFits, ◌+ℤ◌}
use Rattle.std.proofs.lemmas.Int.{ints, to_z-of_z}
use mir.Syntax.{w128}
use Rattle.dc_math.specs.Quotients.{gcd_ℤ}
use Rattle.dc_frac.specs.Fits.{IsSmall}
use Rattle.dc_frac.specs.Parts.{SumFits, sum_pair}
use Rattle.dc_frac.proofs.ShortWays.{over_short, whole_over, apart_short}
use Rattle.dc_frac.proofs.parts.sum_parts.Goals as goal

pub returns-then-d-eq1 : goal.returns-then-d-eq1
returns-then-d-eq1 c =
    let fa = c.ranges.a in
    let fb = c.ranges.b in
    let fc = c.ranges.c in
    let fd = c.ranges.d in
    let ed : c.args.d ≡ pos 1 = omega (arith, ints) in
    let eb : c.args.b ≡ pos 1 = omega (arith, ints) in
    let k = simp to_z-of_z at c.sum_whole.ensures in
    let o = subst (λ p. SomeIff c.sum_whole.result (IsSmall (c.args.a +ℤ c.args.c)) p) (whole_over c.args.a c.args.c) k in
    subst₂ (λ b d. SomeIff c.sum_whole.result (SumFits c.args.a b c.args.c d (gcd_ℤ b d)) (sum_pair c.args.a b c.args.c d (gcd_ℤ b d))) (sym eb) (sym ed)
    (over_short c.args.a c.args.c (pos 1) (omega (arith, ints)) c.requires.a_small c.requires.c_small (omega arith) c.sum_whole.result o)

pub returns-else-d-eq1 : goal.returns-else-d-eq1
returns-else-d-eq1 c =
    let fa = c.ranges.a in
    let fb = c.ranges.b in
    let fc = c.ranges.c in
    let fd = c.ranges.d in
    let eb : c.args.b ≡ c.args.d = omega (arith, ints) in
    let k = simp to_z-of_z at c.sum_over.ensures in
    subst (λ b. SomeIff c.sum_over.result (SumFits c.args.a b c.args.c c.args.d (gcd_ℤ b c.args.d)) (sum_pair c.args.a b c.args.c c.args.d (gcd_ℤ b c.args.d))) (sym eb)
    (over_short c.args.a c.args.c c.args.d c.requires.d c.requires.a_small c.requires.c_small (omega (arith, ints)) c.sum_over.result k)

pub returns-then-common-eq1 : goal.returns-then-common-eq1
returns-then-common-eq1 c =
    let fa = c.ranges.a in
    let fb = c.ranges.b in
    let fc = c.ranges.c in
    let fd = c.ranges.d in
    let f : SFits w128 c.gcd128-common.result = search rules in
    let e = simp to_z-of_z at c.gcd128-common.ensures.value in
    let one : c.gcd128-common.result ≡ pos 1 = omega (arith, ints) in
    let k = simp to_z-of_z at c.sum_apart.ensures in
    apart_short c.args.a c.args.b c.args.c c.args.d c.sum_apart.result (gcd_ℤ c.args.b c.args.d) (sym e ∙ one) k

pub returns : goal.returns
returns c =
    let fa = c.ranges.a in
    let fb = c.ranges.b in
    let fc = c.ranges.c in
    let fd = c.ranges.d in
    let f : SFits w128 c.gcd128-common.result = search rules in
    let e = simp to_z-of_z at c.gcd128-common.ensures.value in
    let k = simp to_z-of_z at c.sum_by.ensures in
    subst (λ g. SomeIff c.sum_by.result (SumFits c.args.a c.args.b c.args.c c.args.d g) (sum_pair c.args.a c.args.b c.args.c c.args.d g)) e k
