use Rattle.std.proofs.Common.{rules, SFits, arith, length, ◌*ℤ◌}
use Rattle.std.specs.Int.{w128}
use Rattle.std.proofs.lemmas.Int.{to_z-of_z}
use Rattle.dc_poly.specs.Terms.{weight}
use Rattle.dc_poly.proofs.Products.{places_within, degree_within, size_within, product_fits, shifted_step}
use Rattle.dc_poly.proofs.lists.shift.Goals as goal

pub times-requires-clause-same_places : goal.times-requires-clause-same_places
times-requires-clause-same_places c = places_within (length c.args.factor.now.mono) c.loop-term.term-index _ c.term-item.result c.loop-term-test.true c.term-item.is c.requires.padded

pub times-requires-clause-low : goal.times-requires-clause-low
times-requires-clause-low c = let d = degree_within c.loop-term.term-index c.args.terms.now c.term-item.result c.loop-term-test.true c.term-item.is in omega (arith, d)

pub overflow_mul-coef : goal.overflow_mul-coef
overflow_mul-coef c =
    let f : SFits w128 c.args.factor.now.coef = search rules in
    let g : SFits w128 c.term-item.result.coef = search rules in
    simp to_z-of_z
    (product_fits c.args.factor.now.coef c.term-item.result.coef (weight c.args.terms.now) (size_within c.loop-term.term-index _ c.term-item.result c.loop-term-test.true c.term-item.is) c.requires.light)

pub loop-term-preserved : goal.loop-term-preserved
loop-term-preserved c =
    let f : SFits w128 c.args.factor.now.coef = search rules in
    let g : SFits w128 c.term-item.result.coef = search rules in
    let h : SFits w128 (c.args.factor.now.coef *ℤ c.term-item.result.coef) =
    product_fits c.args.factor.now.coef c.term-item.result.coef (weight c.args.terms.now) (size_within c.loop-term.term-index _ c.term-item.result c.loop-term-test.true c.term-item.is) c.requires.light in
    shifted_step c.loop-term.term-index _ _ _ c.args.factor.now c.term-item.result _ _ c.loop-term-test.true c.term-item.is c.in_ok-mono.ensures (search rules) (simp to_z-of_z at c.in_ok-push.ensures.items) c.loop-term.invariant
