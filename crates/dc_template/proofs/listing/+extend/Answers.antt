use Rattle.std.proofs.Common.{◌∙◌, ap, length, arith}
use Rattle.dc_poly.specs.Terms.{degree}
use Rattle.dc_poly.proofs.Padded.{length-unit_at}
use Rattle.dc_poly.proofs.Degrees.{degree-unit_at}
use Rattle.dc_template.proofs.listing.+extend.Goals as goal

pub times-requires-clause-same_places : goal.times-requires-clause-same_places
times-requires-clause-same_places t c =
    ap length c.in_ok-variable.ensures.value ∙ length-unit_at _ c.args.from ∙ ap length c.exponents-places.ensures.value

pub times-requires-clause-low : goal.times-requires-clause-low
times-requires-clause-low t c =
    let a = degree-unit_at (length c.exponents-places.result.now) c.args.from in
    let b = ap degree c.in_ok-variable.ensures.value in
    let l = c.requires.low in
    let n = c.if-left-eq0.false in
    omega arith
