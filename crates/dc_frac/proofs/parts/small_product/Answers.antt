use Rattle.std.proofs.Common.{arith, ◌*ℤ◌, refl, SFits}
use Rattle.std.proofs.lemmas.Int.{ints, to_z-of_z}
use mir.Syntax.{w128}
use Rattle.dc_frac.specs.Parts.{IsWord}
use Rattle.dc_frac.proofs.Words.{word_product}
use Rattle.dc_frac.proofs.parts.small_product.Goals as goal

pub overflow_mul-result : goal.overflow_mul-result
overflow_mul-result c =
    let fa = c.ranges.a in
    let fb = c.ranges.b in
    let h : IsWord c.args.a = simp to_z-of_z at (c.is_word.ensures c.if-is_word.true) in
    let k : IsWord c.args.b = simp to_z-of_z at (c.is_word-then-is_word.ensures c.if-is_word-2.true) in
    let p = word_product c.args.a c.args.b h k in
    simp to_z-of_z (omega (arith, ints, p))

pub returns-then-is_word-2 : goal.returns-then-is_word-2
returns-then-is_word-2 c =
    let fa = c.ranges.a in
    let fb = c.ranges.b in
    let h : IsWord c.args.a = simp to_z-of_z at (c.is_word.ensures c.if-is_word.true) in
    let k : IsWord c.args.b = simp to_z-of_z at (c.is_word-then-is_word.ensures c.if-is_word-2.true) in
    let p = word_product c.args.a c.args.b h k in
    let f : SFits w128 (c.args.a *ℤ c.args.b) = omega (arith, ints, p) in
    (omega (arith, p), simp to_z-of_z refl)
