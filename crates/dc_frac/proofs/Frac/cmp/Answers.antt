use Rattle.std.proofs.Common.{rules, arith, ◌≡◌, ◌*ℤ◌, SFits, subst, sym}
use Rattle.std.proofs.lemmas.Int.{ints, to_z-of_z}
use mir.Syntax.{w128}
use Rattle.std.specs.Cmp.{int_ranks}
use Rattle.std.specs.declared.cmp.Ordering.TheVariants.{Less, Greater}
use Rattle.dc_frac.proofs.Orders.{Ranked, value_ranked, over_ranked, both_positive, both_negative, signs_apart}
use Rattle.dc_frac.proofs.Frac.cmp.Goals as goal

pub returns-then-self-other : goal.returns-then-self-other
returns-then-self-other c =
    let f₁ : SFits w128 c.args.self.now.num = search rules in
    let f₂ : SFits w128 c.args.self.now.den = search rules in
    let f₃ : SFits w128 c.args.other.now.num = search rules in
    let f₄ : SFits w128 c.args.other.now.den = search rules in
    let e : c.args.other.now.den ≡ c.args.self.now.den = omega (arith, ints) in
    let o = c.cmp.result in
    let h = subst (λ r. Ranked r c.args.self.now.num c.args.other.now.num) (sym c.cmp.ensures) (int_ranks c.args.self.now.num c.args.other.now.num) in
    value_ranked c.args.self.now c.args.other.now o
    (subst (λ d. Ranked o (c.args.self.now.num *ℤ d) (c.args.other.now.num *ℤ c.args.self.now.den)) (sym e)
    (over_ranked c.args.self.now.num c.args.other.now.num c.args.self.now.den o c.args.self.now.positive h))

pub returns-then-other-lt0 : goal.returns-then-other-lt0
returns-then-other-lt0 c =
    let f₁ : SFits w128 c.args.self.now.num = search rules in
    let f₂ : SFits w128 c.args.self.now.den = search rules in
    let f₃ : SFits w128 c.args.other.now.num = search rules in
    let f₄ : SFits w128 c.args.other.now.den = search rules in
    let e₁ = simp to_z-of_z at c.unsigned_abs-left.ensures.value in
    let e₂ = simp to_z-of_z at c.unsigned_abs-right.ensures.value in
    let e₃ = simp to_z-of_z at c.unsigned_abs-left_den.ensures.value in
    let e₄ = simp to_z-of_z at c.unsigned_abs-right_den.ensures.value in
    let h = simp (e₁, e₂, e₃, e₄) at c.compare_sizes.ensures in
    value_ranked c.args.self.now c.args.other.now c.compare_sizes.result
    (both_negative c.args.self.now.num c.args.self.now.den c.args.other.now.num c.args.other.now.den c.args.self.now.positive c.args.other.now.positive c.compare_sizes.result (omega (arith, ints)) (omega (arith, ints)) h)

pub returns-then-self-lt0 : goal.returns-then-self-lt0
returns-then-self-lt0 c =
    let f₁ : SFits w128 c.args.self.now.num = search rules in
    let f₃ : SFits w128 c.args.other.now.num = search rules in
    value_ranked c.args.self.now c.args.other.now Less
    (signs_apart c.args.self.now.num c.args.self.now.den c.args.other.now.num c.args.other.now.den c.args.self.now.positive c.args.other.now.positive (omega (arith, ints)) (omega (arith, ints)))

pub returns-then-other-lt0-2 : goal.returns-then-other-lt0-2
returns-then-other-lt0-2 c =
    let f₁ : SFits w128 c.args.self.now.num = search rules in
    let f₃ : SFits w128 c.args.other.now.num = search rules in
    value_ranked c.args.self.now c.args.other.now Greater
    (signs_apart c.args.other.now.num c.args.other.now.den c.args.self.now.num c.args.self.now.den c.args.other.now.positive c.args.self.now.positive (omega (arith, ints)) (omega (arith, ints)))

pub returns : goal.returns
returns c =
    let f₁ : SFits w128 c.args.self.now.num = search rules in
    let f₂ : SFits w128 c.args.self.now.den = search rules in
    let f₃ : SFits w128 c.args.other.now.num = search rules in
    let f₄ : SFits w128 c.args.other.now.den = search rules in
    let e₁ = simp to_z-of_z at c.unsigned_abs-left.ensures.value in
    let e₂ = simp to_z-of_z at c.unsigned_abs-right.ensures.value in
    let e₃ = simp to_z-of_z at c.unsigned_abs-left_den.ensures.value in
    let e₄ = simp to_z-of_z at c.unsigned_abs-right_den.ensures.value in
    let h = simp (e₁, e₂, e₃, e₄) at c.compare_sizes-2.ensures in
    value_ranked c.args.self.now c.args.other.now c.compare_sizes-2.result
    (both_positive c.args.self.now.num c.args.self.now.den c.args.other.now.num c.args.other.now.den c.args.self.now.positive c.args.other.now.positive c.compare_sizes-2.result (omega (arith, ints)) (omega (arith, ints)) h)
