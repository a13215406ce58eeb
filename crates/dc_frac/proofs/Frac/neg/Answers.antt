use Rattle.std.proofs.Common.{rules, arith, refl, SFits}
use Rattle.std.proofs.lemmas.Int.{ints, to_z-of_z}
use mir.Syntax.{w128}
use Rattle.dc_frac.proofs.Values.{parts_value, neg_parts}
use Rattle.dc_frac.proofs.Frac.neg.Goals as goal

pub returns : goal.returns
returns c =
    let f₁ : SFits w128 c.args.self.num = search rules in
    let f₂ : SFits w128 c.args.self.den = search rules in
    parts_value _ _ _ _ (neg_parts c.args.self) (omega (arith, ints)) (simp to_z-of_z refl)
