use mir.Syntax.{w64, w128}
use Rattle.std.specs.Prelude.{◌+ℤ◌}
use Rattle.std.proofs.Common.{rules, SFits}
use Rattle.std.proofs.lemmas.Int.{to_z-of_z}
use Rattle.dc_greatest.proofs.bounds.sum.Goals as goal

pub returns : goal.returns
returns c =
    let b : SFits w64 c.args.bound.now = search rules in
    let d : SFits w128 c.args.bound.now = search rules in
    let k : SFits w128 c.args.constant.now = search rules in
    let f : SFits w128 (c.args.bound.now +ℤ c.args.constant.now) = search rules in
    simp (to_z-of_z w64 _ b, to_z-of_z w128 _ d, to_z-of_z w128 _ k, to_z-of_z w128 _ f) at c.whole.ensures
