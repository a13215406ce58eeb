use Rattle.std.proofs.Common.{refl, arith, SFits, ◌+ℤ◌}
use Rattle.std.specs.Int.{w64, w128}
use Rattle.std.proofs.lemmas.Int.{to_z-of_z}
use Rattle.dc_affine.proofs.Fits.{small_64, small_128}
use Rattle.dc_clauses.proofs.Moves.{sum_fits, number_fits}
use Rattle.dc_clauses.proofs.keeps.sum.Goals as goal

pub overflow_add-result : goal.overflow_add-result
overflow_add-result c =
    let h = c.requires.constant in
    let d : SFits w64 c.args.constant.now = small_64 c.args.constant.now (omega arith) in
    let f : SFits w128 c.args.constant.now = small_128 c.args.constant.now (omega arith) in
    let g : SFits w128 c.args.more.now = number_fits c.args.more.now c.requires.more in
    simp to_z-of_z (sum_fits c.args.constant.now c.args.more.now c.requires.constant c.requires.more)

pub returns : goal.returns
returns c =
    let h = c.requires.constant in
    let d : SFits w64 c.args.constant.now = small_64 c.args.constant.now (omega arith) in
    let f : SFits w128 c.args.constant.now = small_128 c.args.constant.now (omega arith) in
    let g : SFits w128 c.args.more.now = number_fits c.args.more.now c.requires.more in
    let k : SFits w128 (c.args.constant.now +ℤ c.args.more.now) = sum_fits c.args.constant.now c.args.more.now c.requires.constant c.requires.more in
    record { value = simp to_z-of_z refl }
