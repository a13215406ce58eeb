use Rattle.std.proofs.Common.{rules, arith, ◌≡◌, pos, SFits}
use Rattle.std.proofs.lemmas.Int.{ints, to_z-of_z}
use Rattle.std.specs.Cmp.{both_ways}
use lib.Signed.{lt_z}
use mir.Syntax.{w128}
use Rattle.dc_math.specs.Tests.{is_positive}
use Rattle.dc_frac.specs.Value.{value}
use Rattle.dc_frac.proofs.Values.{above_num, num_above}
use Rattle.dc_frac.proofs.Frac.is_positive.Goals as goal

pub returns : goal.returns
returns c =
    let f₁ : SFits w128 c.args.self.num = search rules in
    let e : lt_z (pos 0) c.args.self.num ≡ is_positive (value c.args.self) = both_ways _ _ (λ e. above_num c.args.self (omega (arith, ints))) (λ e. let h = num_above c.args.self e in grind (arith, ints)) in
    simp to_z-of_z e
