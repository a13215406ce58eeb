use Rattle.std.proofs.Common.{rules, arith, ◌≡◌, ◌<◌, pos, SFits}
use Rattle.std.proofs.lemmas.Int.{ints, to_z-of_z}
use Rattle.std.proofs.lemmas.Bool.{ltb-true}
use mir.Syntax.{w128}
use Rattle.dc_sparse.proofs.Wholes.{whole_value}
use Rattle.dc_sparse.proofs.whole.is_small.Goals as goal

pub returns : goal.returns
returns c =
    let f₁ : SFits w128 c.args.number.now.num = search rules in
    let f₂ : SFits w128 c.args.number.now.den = search rules in
    let e : c.args.number.now.den ≡ pos 1 = omega (arith, ints) in
    let u = simp to_z-of_z at c.unsigned_abs.ensures.value in
    λ h. whole_value 41 c.args.number.now e (let l : c.unsigned_abs.result < 2199023255552 = ltb-true c.unsigned_abs.result 2199023255552 h in omega (arith, ints))
