use Rattle.std.proofs.Common.{rules, ◌≡◌, unsigned_abs, pos, ◌≤ℤ◌, ap, sym, ◌∙◌, subst, subst₂, SFits}
use Rattle.std.proofs.lemmas.Int.{to_z-of_z}
use mir.Syntax.{w128}
use Rattle.dc_math.specs.Gcd.{gcd}
use Rattle.dc_frac.specs.Fits.{IsSmall}
use Rattle.std.specs.Prelude.{int_div}
use Rattle.dc_frac.proofs.Values.{parts_value, lowest_parts}
use Rattle.dc_frac.proofs.ops.lowest.Goals as goal

pub invariant_of-result : goal.invariant_of-result
invariant_of-result c =
    let fn = c.ranges.num in
    let fd = c.ranges.den in
    let f₁ : SFits w128 c.gcd128-shared.result = search rules in
    let f₂ : SFits w128 c.quotient.result = search rules in
    let f₃ : SFits w128 c.quotient-2.result = search rules in
    let g = simp to_z-of_z at c.gcd128-shared.ensures.value in
    let en = (simp to_z-of_z at c.quotient.ensures) ∙ ap (int_div c.args.num) g in
    let ed = (simp to_z-of_z at c.quotient-2.ensures) ∙ ap (int_div c.args.den) g in
    let p = lowest_parts c.args.num c.args.den c.requires.positive c.requires.num_small in
    record {
      positive = simp to_z-of_z (subst (λ z. pos 1 ≤ℤ z) (sym ed) p.positive);
      reduced = simp to_z-of_z (subst₂ (λ x y. gcd (unsigned_abs x) (unsigned_abs y) ≡ 1) (sym en) (sym ed) p.reduced);
      small = simp to_z-of_z (subst IsSmall (sym en) p.small);
    }

pub returns : goal.returns
returns c =
    let fn = c.ranges.num in
    let fd = c.ranges.den in
    let f₁ : SFits w128 c.gcd128-shared.result = search rules in
    let f₂ : SFits w128 c.quotient.result = search rules in
    let f₃ : SFits w128 c.quotient-2.result = search rules in
    let g = simp to_z-of_z at c.gcd128-shared.ensures.value in
    let en = (simp to_z-of_z at c.quotient.ensures) ∙ ap (int_div c.args.num) g in
    let ed = (simp to_z-of_z at c.quotient-2.ensures) ∙ ap (int_div c.args.den) g in
    let p = lowest_parts c.args.num c.args.den c.requires.positive c.requires.num_small in
    parts_value _ _ _ _ p (simp to_z-of_z en) (simp to_z-of_z ed)
