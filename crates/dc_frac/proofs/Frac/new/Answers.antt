use Rattle.std.proofs.Common.{arith, ◌≡◌, pos, neg_ℤ, ◌-ℤ◌, ◌∙◌, SFits}
use Rattle.std.proofs.lemmas.Int.{ints, to_z-of_z}
use mir.Syntax.{w128}
use Rattle.dc_frac.proofs.Values.{turned_quotient}
use Rattle.dc_frac.proofs.Frac.new.Goals as goal

pub returns-then-den-lt0 : goal.returns-then-den-lt0
returns-then-den-lt0 c =
    let fn = c.ranges.num in
    let fd = c.ranges.den in
    let hn = c.requires.num_small in
    let hd = c.requires.den_small in
    let f₁ : SFits w128 (pos 0 -ℤ c.args.num) = omega (arith, ints) in
    let f₂ : SFits w128 (pos 0 -ℤ c.args.den) = omega (arith, ints) in
    let e₁ : pos 0 -ℤ c.args.num ≡ neg_ℤ c.args.num = omega (arith, ints) in
    let e₂ : pos 0 -ℤ c.args.den ≡ neg_ℤ c.args.den = omega (arith, ints) in
    let h = simp to_z-of_z at c.lowest.ensures in
    (simp (e₁, e₂) at h) ∙ turned_quotient c.args.num c.args.den c.requires.nonzero
