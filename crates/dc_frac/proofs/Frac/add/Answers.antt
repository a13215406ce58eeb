use Rattle.std.proofs.Common.{rules, ◌≡◌, unsigned_abs, pos, ℤ, ◌≤ℤ◌, ap, sym, subst, subst₂, SFits}
use Rattle.std.proofs.lemmas.Int.{to_z-of_z}
use mir.Syntax.{w128}
use Rattle.dc_math.specs.Gcd.{gcd}
use Rattle.dc_frac.specs.Fits.{IsSmall}
use Rattle.dc_frac.proofs.Values.{parts_value}
use Rattle.dc_frac.proofs.FitLaws.{sum_true, sum_false, sum_is}
use Rattle.dc_frac.proofs.Frac.add.Goals as goal

pub returns-in_err-num : goal.returns-in_err-num
returns-in_err-num c =
    let f₁ : SFits w128 c.args.self.num = search rules in
    let f₂ : SFits w128 c.args.self.den = search rules in
    let f₃ : SFits w128 c.args.other.num = search rules in
    let f₄ : SFits w128 c.args.other.den = search rules in
    rw c.from_residual.ensures (sum_false c.args.self c.args.other (simp to_z-of_z at c.in_err-num.ensures))

pub invariant_of-result : goal.invariant_of-result
invariant_of-result c =
    let f₁ : SFits w128 c.args.self.num = search rules in
    let f₂ : SFits w128 c.args.self.den = search rules in
    let f₃ : SFits w128 c.args.other.num = search rules in
    let f₄ : SFits w128 c.args.other.den = search rules in
    let f₅ : SFits w128 c.in_ok-num.num = search rules in
    let f₆ : SFits w128 c.in_ok-num.den = search rules in
    let e = simp to_z-of_z at c.in_ok-num.ensures in
    let en = ap (λ (p : ℤ × ℤ). p.0) e.1 in
    let ed = ap (λ (p : ℤ × ℤ). p.1) e.1 in
    let p = sum_is c.args.self c.args.other e.0 in
    record {
      positive = simp to_z-of_z (subst (λ z. pos 1 ≤ℤ z) (sym ed) p.positive);
      reduced = simp to_z-of_z (subst₂ (λ x y. gcd (unsigned_abs x) (unsigned_abs y) ≡ 1) (sym en) (sym ed) p.reduced);
      small = simp to_z-of_z (subst IsSmall (sym en) p.small);
    }

pub returns : goal.returns
returns c =
    let f₁ : SFits w128 c.args.self.num = search rules in
    let f₂ : SFits w128 c.args.self.den = search rules in
    let f₃ : SFits w128 c.args.other.num = search rules in
    let f₄ : SFits w128 c.args.other.den = search rules in
    let f₅ : SFits w128 c.in_ok-num.num = search rules in
    let f₆ : SFits w128 c.in_ok-num.den = search rules in
    let e = simp to_z-of_z at c.in_ok-num.ensures in
    let en = ap (λ (p : ℤ × ℤ). p.0) e.1 in
    let ed = ap (λ (p : ℤ × ℤ). p.1) e.1 in
    let p = sum_is c.args.self c.args.other e.0 in
    (sum_true c.args.self c.args.other e.0, parts_value _ _ _ _ p (simp to_z-of_z en) (simp to_z-of_z ed))
