use Rattle.dc_template.proofs.Stages.{stage_can, stage_next}
use Rattle.dc_template.proofs.column.times_power.Goals as goal

pub mul-requires : goal.mul-requires
mul-requires c =
    stage_can c.args.column c.args.update.now c.args.exponent c.loop-k._k c.loop-k.product c.places-2.ensures.kind c.requires.normal c.requires.same_places c.requires.low c.requires.light c.loop-k-test.true c.loop-k.invariant

pub loop-k-preserved : goal.loop-k-preserved
loop-k-preserved c =
    stage_next c.args.column c.args.update.now c.loop-k._k c.loop-k.product c.in_ok-product.product c.places-2.ensures.kind c.requires.normal c.in_ok-product.ensures.product c.in_ok-product.ensures.value c.in_ok-product.ensures.kind c.loop-k.invariant
