use Rattle.std.proofs.Common.{rules, arith, ◌≡◌, pos, SFits}
use Rattle.std.proofs.lemmas.Int.{ints, to_z-of_z}
use Rattle.std.specs.Cmp.{both_ways}
use lib.Signed.{lt_z}
use mir.Syntax.{w128}
use Rattle.dc_math.specs.Tests.{is_negative}
use Rattle.dc_frac.specs.Value.{value}
use Rattle.dc_frac.proofs.Values.{negative_num, num_negative}
use Rattle.dc_frac.proofs.Frac.is_negative.Goals as goal

pub returns : goal.returns
returns c =
    let f₁ : SFits w128 c.args.self.num = search rules in
    let e : lt_z c.args.self.num (pos 0) ≡ is_negative (value c.args.self) = both_ways _ _ (λ e. negative_num c.args.self (omega (arith, ints))) (λ e. let h = num_negative c.args.self e in grind (arith, ints)) in
    simp to_z-of_z e
