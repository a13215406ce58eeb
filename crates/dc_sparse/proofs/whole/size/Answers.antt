use Rattle.std.proofs.Common.{rules, pos, ◌≤ℤ◌, SFits, arith}
use Rattle.std.proofs.lemmas.Int.{ints, to_z-of_z}
use mir.Syntax.{w128}
use Rattle.dc_frac.proofs.Values.{positive_num}
use Rattle.dc_sparse.proofs.whole.size.Goals as goal

pub returns-else-number-lt0 : goal.returns-else-number-lt0
returns-else-number-lt0 c =
    let f₁ : SFits w128 c.args.number.num = search rules in
    let l : pos 0 ≤ℤ c.args.number.num = omega (arith, ints) in
    simp to_z-of_z (positive_num c.args.number c.requires l)
