use Rattle.std.proofs.Common.{◌∙◌, SFits, ◌*ℤ◌, arith, ap}
use Rattle.std.proofs.lemmas.Int.{to_z-of_z}
use mir.Syntax.{w128}
use Rattle.dc_math.specs.Rational.{of_ℤ, of_ℤ-*ℤ, ◌*ℚ◌}
use Rattle.dc_frac.proofs.SmallSizes.{product_below}
use Rattle.dc_sparse.proofs.Multiples.{whole_num, num_below, small_fits}
use Rattle.dc_sparse.proofs.combine.product.Goals as goal

pub overflow_mul-result : goal.overflow_mul-result
overflow_mul-result c =
    let e = whole_num c.args.number c.requires.number in
    let l = num_below c.args.number c.requires.number in
    let p = product_below 41 41 c.args.number.num c.args.by l c.requires.by in
    let fn : SFits w128 c.args.number.num = small_fits c.args.number.num (omega arith) in
    let fb : SFits w128 c.args.by = c.ranges.by in
    let fp : SFits w128 (c.args.number.num *ℤ c.args.by) = small_fits (c.args.number.num *ℤ c.args.by) (omega arith) in
    simp to_z-of_z fp

pub returns-clause-value : goal.returns-clause-value
returns-clause-value c =
    let e = whole_num c.args.number c.requires.number in
    let l = num_below c.args.number c.requires.number in
    let p = product_below 41 41 c.args.number.num c.args.by l c.requires.by in
    let fn : SFits w128 c.args.number.num = small_fits c.args.number.num (omega arith) in
    let fb : SFits w128 c.args.by = c.ranges.by in
    let fp : SFits w128 (c.args.number.num *ℤ c.args.by) = small_fits (c.args.number.num *ℤ c.args.by) (omega arith) in
    simp to_z-of_z (of_ℤ-*ℤ c.args.number.num c.args.by ∙ ap (λ x. x *ℚ of_ℤ c.args.by) e)

pub returns-clause-small : goal.returns-clause-small
returns-clause-small c =
    let e = whole_num c.args.number c.requires.number in
    let l = num_below c.args.number c.requires.number in
    let p = product_below 41 41 c.args.number.num c.args.by l c.requires.by in
    let fn : SFits w128 c.args.number.num = small_fits c.args.number.num (omega arith) in
    let fb : SFits w128 c.args.by = c.ranges.by in
    let fp : SFits w128 (c.args.number.num *ℤ c.args.by) = small_fits (c.args.number.num *ℤ c.args.by) (omega arith) in
    simp to_z-of_z p
