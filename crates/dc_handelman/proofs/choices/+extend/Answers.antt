use Rattle.std.proofs.Common.{ap, arith}
use Rattle.dc_poly.specs.Terms.{Polynomial}
use Rattle.dc_handelman.proofs.Walks.{walk_can, walk_step, walk_product, walk_factors}
use Rattle.dc_handelman.proofs.choices.+extend.Goals as goal

pub mul-requires : goal.mul-requires
mul-requires t c =
    walk_can c.args.factors.now c.args.product.now c.index-factors-i.result c.loop-i.i c.args.left c.requires.low c.if-left-eq0.false c.requires.factors c.requires.product c.loop-i-test.true c.index-factors-i.is

pub extend-requires : goal.extend-requires
extend-requires t c = (
  (let n = c.if-left-eq0.false in omega arith),
  (
    (let l = c.requires.low in omega arith),
    (
      walk_factors c.args.factors.now c.args.product.now c.in_ok-more.more (ap (λ (x : Polynomial). x.places) c.in_ok-more.ensures.product) c.requires.factors,
      walk_product c.args.factors.now c.args.product.now c.index-factors-i.result c.in_ok-more.more c.loop-i.i c.args.left c.requires.low c.if-left-eq0.false c.requires.factors c.requires.product c.loop-i-test.true c.index-factors-i.is
          c.in_ok-more.ensures.product,
    ),
  ),
)

pub loop-i-preserved : goal.loop-i-preserved
loop-i-preserved t c =
    walk_step c.args.factors.now c.args.product.now c.index-factors-i.result c.in_ok-more.more c.loop-i.i c.args.left c.loop-i.out.items c.extend.new.out.items _ c.if-left-eq0.false c.loop-i-test.true c.index-factors-i.is
    c.in_ok-more.ensures.product c.in_ok-extend.ensures c.loop-i.invariant
