use Rattle.std.proofs.Common.{rules, arith, ◌≡◌, pos, sym, ◌∙◌, SFits}
use Rattle.std.proofs.lemmas.Int.{ints, to_z-of_z}
use mir.Syntax.{w128}
use Rattle.dc_frac.proofs.Values.{floor_parts, floor_whole}
use Rattle.dc_frac.proofs.Frac.floor.Goals as goal

pub returns-then-self-eq1 : goal.returns-then-self-eq1
returns-then-self-eq1 c =
    let f₁ : SFits w128 c.args.self.num = search rules in
    let f₂ : SFits w128 c.args.self.den = search rules in
    let e : c.args.self.den ≡ pos 1 = omega (arith, ints) in
    simp to_z-of_z (sym (floor_whole c.args.self e))

pub returns-else-self-eq1 : goal.returns-else-self-eq1
returns-else-self-eq1 c =
    let f₁ : SFits w128 c.args.self.num = search rules in
    let f₂ : SFits w128 c.args.self.den = search rules in
    let f₃ : SFits w128 c.div_euclid.result = search rules in
    simp to_z-of_z ((simp to_z-of_z at c.div_euclid.ensures) ∙ sym (floor_parts c.args.self))
