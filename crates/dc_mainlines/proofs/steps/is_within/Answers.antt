use Rattle.std.proofs.Common.{◌≡◌, rules, subst, SFits, true}
use Rattle.std.proofs.lemmas.Int.{to_z-of_z}
use mir.Syntax.{w128}
use Rattle.dc_math.specs.Rational.{le_ℚ}
use Rattle.dc_frac.specs.Value.{value}
use Rattle.dc_lp.proofs.Checking.{at_most}
use Rattle.dc_mainlines.proofs.steps.is_within.Goals as goal

pub returns-in-Less : goal.returns-in-Less
returns-in-Less c =
    let f : SFits w128 c.args.number.now = search rules in
    let w = simp to_z-of_z at c.whole.ensures in
    subst (λ z. true ≡ le_ℚ (value c.args.sum.now) z) w (at_most (value c.args.sum.now) (value c.whole.result) c.cmp.result c.cmp.ensures c.in-Less.is)
