use Rattle.std.proofs.Common.{rules, arith, sym, subst₂, SomeIff, ◌≡◌, pos, ℤ, ◌∙◌, ap, ap₂, subst, SFits, ◌*ℤ◌}
use Rattle.std.specs.Prelude.{int_div}
use Rattle.std.proofs.lemmas.Int.{ints, to_z-of_z}
use mir.Syntax.{w128}
use Rattle.dc_frac.specs.Fits.{IsSmall}
use Rattle.dc_frac.specs.Parts.{ProductFits, product_pair}
use Rattle.dc_frac.proofs.ShortWays.{whole_short}
use Rattle.dc_frac.proofs.parts.product_parts.Goals as goal

pub returns-then-d-eq1 : goal.returns-then-d-eq1
returns-then-d-eq1 c =
    let fa = c.ranges.a in
    let fb = c.ranges.b in
    let fc = c.ranges.c in
    let fd = c.ranges.d in
    let eb : c.args.b ≡ pos 1 = omega (arith, ints) in
    let ed : c.args.d ≡ pos 1 = omega (arith, ints) in
    let k = simp to_z-of_z at c.product_whole.ensures in
    subst₂ (λ b d. SomeIff c.product_whole.result (ProductFits c.args.a b c.args.c d) (product_pair c.args.a b c.args.c d)) (sym eb) (sym ed)
    (whole_short c.args.a c.args.c c.product_whole.result k)

pub quotient-requires-3 : goal.quotient-requires-3
quotient-requires-3 c =
    let fb = c.ranges.b in
    let f : SFits w128 c.gcd128-right.result = search rules in
    simp to_z-of_z (c.gcd128-right.ensures.positive (simp to_z-of_z c.requires.b))

pub quotient-requires-4 : goal.quotient-requires-4
quotient-requires-4 c =
    let fd = c.ranges.d in
    let f : SFits w128 c.gcd128-left.result = search rules in
    simp to_z-of_z (c.gcd128-left.ensures.positive (simp to_z-of_z c.requires.d))

pub returns : goal.returns
returns c =
    let a = c.args.a in
    let b = c.args.b in
    let d = c.args.d in
    let fa = c.ranges.a in
    let fb = c.ranges.b in
    let fc = c.ranges.c in
    let fd = c.ranges.d in
    let f₀ : SFits w128 c.gcd128-left.result = search rules in
    let f₁ : SFits w128 c.gcd128-right.result = search rules in
    let f₂ : SFits w128 c.quotient.result = search rules in
    let f₃ : SFits w128 c.quotient-2.result = search rules in
    let f₄ : SFits w128 c.quotient-3.result = search rules in
    let f₅ : SFits w128 c.quotient-4.result = search rules in
    let f₆ : SFits w128 c.in_ok-num.num = search rules in
    let f₇ : SFits w128 c.in_ok-den.den = search rules in
    let gl = simp to_z-of_z at c.gcd128-left.ensures.value in
    let gr = simp to_z-of_z at c.gcd128-right.ensures.value in
    let p = (simp to_z-of_z at c.quotient.ensures) ∙ ap (int_div a) gl in
    let q = (simp to_z-of_z at c.quotient-2.ensures) ∙ ap (int_div c.args.c) gr in
    let r = (simp to_z-of_z at c.quotient-3.ensures) ∙ ap (int_div b) gr in
    let s = (simp to_z-of_z at c.quotient-4.ensures) ∙ ap (int_div d) gl in
    let en = simp to_z-of_z at c.in_ok-num.ensures in
    let ed = simp to_z-of_z at c.in_ok-den.ensures in (
      record {
        num = subst (λ x. IsSmall x) (ap₂ ◌*ℤ◌ p q) en.0;
        den = subst (λ x. IsSmall x) (ap₂ ◌*ℤ◌ r s) ed.0;
      },
      simp to_z-of_z (ap₂ pair (en.1 ∙ ap₂ ◌*ℤ◌ p q) (ed.1 ∙ ap₂ ◌*ℤ◌ r s)),
    )
  where
    pair : ℤ → ℤ → ℤ × ℤ
    pair x y = (x, y)
