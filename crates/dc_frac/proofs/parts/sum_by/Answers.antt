use Rattle.std.proofs.Common.{rules, ◌≡◌, ℤ, ◌∙◌, ap, ap₂, subst, SFits, ◌*ℤ◌, ◌+ℤ◌}
use Rattle.std.specs.Prelude.{int_div}
use Rattle.std.proofs.lemmas.Int.{to_z-of_z}
use mir.Syntax.{w128}
use Rattle.dc_math.specs.Quotients.{gcd_ℤ}
use Rattle.dc_frac.specs.Fits.{IsSmall}
use Rattle.dc_frac.proofs.parts.sum_by.Goals as goal

pub quotient-requires-2 : goal.quotient-requires-2
quotient-requires-2 c =
    let fg = c.ranges.g in
    let f : SFits w128 c.gcd128-shared.result = search rules in
    simp to_z-of_z (c.gcd128-shared.ensures.positive (simp to_z-of_z c.requires.g))

pub quotient-requires-3 : goal.quotient-requires-3
quotient-requires-3 c =
    let fg = c.ranges.g in
    let f : SFits w128 c.gcd128-shared.result = search rules in
    simp to_z-of_z (c.gcd128-shared.ensures.positive (simp to_z-of_z c.requires.g))

pub returns : goal.returns
returns c =
    let a = c.args.a in
    let b = c.args.b in
    let d = c.args.d in
    let g = c.args.g in
    let fa = c.ranges.a in
    let fb = c.ranges.b in
    let fc = c.ranges.c in
    let fd = c.ranges.d in
    let fg = c.ranges.g in
    let f₂ : SFits w128 c.quotient-b_part.result = search rules in
    let f₃ : SFits w128 c.quotient.result = search rules in
    let f₄ : SFits w128 c.in_ok-left.left = search rules in
    let f₅ : SFits w128 c.in_ok-right.right = search rules in
    let f₆ : SFits w128 c.in_ok-total.total = search rules in
    let f₇ : SFits w128 c.gcd128-shared.result = search rules in
    let f₈ : SFits w128 c.quotient-2.result = search rules in
    let f₉ : SFits w128 c.in_ok-den.den = search rules in
    let f₀ : SFits w128 c.quotient-3.result = search rules in
    let bp : c.quotient-b_part.result ≡ int_div b g = simp to_z-of_z at c.quotient-b_part.ensures in
    let dp : c.quotient.result ≡ int_div d g = simp to_z-of_z at c.quotient.ensures in
    let el = simp to_z-of_z at c.in_ok-left.ensures in
    let er = simp to_z-of_z at c.in_ok-right.ensures in
    let et = simp to_z-of_z at c.in_ok-total.ensures in
    let ed = simp to_z-of_z at c.in_ok-den.ensures in
    let l = el.1 ∙ ap (λ x. a *ℤ x) dp in
    let r = er.1 ∙ ap (λ x. c.args.c *ℤ x) bp in
    let t = et.1 ∙ ap₂ ◌+ℤ◌ l r in
    let s = (simp to_z-of_z at c.gcd128-shared.ensures.value) ∙ ap (λ x. gcd_ℤ x g) t in
    let q = (simp to_z-of_z at c.quotient-2.ensures) ∙ ap (int_div d) s in
    let n = ed.1 ∙ ap₂ ◌*ℤ◌ bp q in
    let m = (simp to_z-of_z at c.quotient-3.ensures) ∙ ap₂ int_div t s in (
      record {
        left = subst (λ x. IsSmall (a *ℤ x)) dp el.0;
        right = subst (λ x. IsSmall (c.args.c *ℤ x)) bp er.0;
        total = subst (λ x. IsSmall x) (ap₂ ◌+ℤ◌ l r) et.0;
        den = subst (λ x. IsSmall x) (ap₂ ◌*ℤ◌ bp q) ed.0;
      },
      simp to_z-of_z (ap₂ pair m n),
    )
  where
    pair : ℤ → ℤ → ℤ × ℤ
    pair x y = (x, y)
