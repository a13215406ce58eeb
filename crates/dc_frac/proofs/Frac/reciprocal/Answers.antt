use Rattle.std.proofs.Common.{rules, arith, ◌≡◌, unsigned_abs, pos, neg_ℤ, ◌≤ℤ◌, ◌-ℤ◌, subst₂, refl, SFits}
use Rattle.std.proofs.lemmas.Int.{ints, to_z-of_z}
use mir.Syntax.{w128}
use Rattle.dc_math.specs.Gcd.{gcd}
use Rattle.dc_frac.specs.Fits.{IsSmall}
use Rattle.dc_frac.proofs.Values.{parts_value, inverse_parts, negative_parts, positive_num}
use Rattle.dc_frac.proofs.Frac.reciprocal.Goals as goal

pub invariant_of-result : goal.invariant_of-result
invariant_of-result c =
    let f₁ : SFits w128 c.args.self.num = search rules in
    let f₂ : SFits w128 c.args.self.den = search rules in
    let d = c.args.self.positive in
    let n = c.args.self.small in
    let s : IsSmall c.args.self.den = omega (arith, ints) in
    let h : pos 1 ≤ℤ neg_ℤ c.args.self.num = omega (arith, ints) in
    let f₃ : SFits w128 (pos 0 -ℤ c.args.self.num) = omega (arith, ints) in
    let f₄ : SFits w128 (pos 0 -ℤ c.args.self.den) = omega (arith, ints) in
    let e₁ : neg_ℤ c.args.self.num ≡ pos 0 -ℤ c.args.self.num = omega (arith, ints) in
    let e₂ : neg_ℤ c.args.self.den ≡ pos 0 -ℤ c.args.self.den = omega (arith, ints) in
    let p = negative_parts c.args.self s c.requires h in
    record {
      positive = omega (arith, ints);
      reduced = simp to_z-of_z (subst₂ (λ x y. gcd (unsigned_abs x) (unsigned_abs y) ≡ 1) e₂ e₁ p.reduced);
      small = omega (arith, ints);
    }

pub returns-then-self-lt0 : goal.returns-then-self-lt0
returns-then-self-lt0 c =
    let f₁ : SFits w128 c.args.self.num = search rules in
    let f₂ : SFits w128 c.args.self.den = search rules in
    let d = c.args.self.positive in
    let n = c.args.self.small in
    let s : IsSmall c.args.self.den = omega (arith, ints) in
    let h : pos 1 ≤ℤ neg_ℤ c.args.self.num = omega (arith, ints) in
    parts_value _ _ _ _ (negative_parts c.args.self s c.requires h) (omega (arith, ints)) (omega (arith, ints))

pub invariant_of-result-2 : goal.invariant_of-result-2
invariant_of-result-2 c =
    let f₁ : SFits w128 c.args.self.num = search rules in
    let f₂ : SFits w128 c.args.self.den = search rules in
    let d = c.args.self.positive in
    let s : IsSmall c.args.self.den = omega (arith, ints) in
    let h = positive_num c.args.self c.requires (omega (arith, ints)) in
    let p = inverse_parts c.args.self s c.requires h in
    record { positive = simp to_z-of_z p.positive; reduced = simp to_z-of_z p.reduced; small = simp to_z-of_z p.small }

pub returns : goal.returns
returns c =
    let f₁ : SFits w128 c.args.self.num = search rules in
    let f₂ : SFits w128 c.args.self.den = search rules in
    let d = c.args.self.positive in
    let s : IsSmall c.args.self.den = omega (arith, ints) in
    let h = positive_num c.args.self c.requires (omega (arith, ints)) in
    parts_value _ _ _ _ (inverse_parts c.args.self s c.requires h) (simp to_z-of_z refl) (simp to_z-of_z refl)
