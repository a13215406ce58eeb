use Rattle.std.proofs.Common.{rules, SFits}
use Rattle.std.specs.Int.{w128}
use Rattle.std.proofs.lemmas.Int.{to_z-of_z}
use Rattle.dc_trace.proofs.Parts.{within-range, left-range, right-range}
use Rattle.dc_trace.proofs.evaluate.is_within.Goals as goal

pub returns-in_err-low : goal.returns-in_err-low
returns-in_err-low c = left-range c.from_residual.result c.args.state.now c.args.a.now c.args.z.now c.args.b.now c.from_residual.ensures c.in_err-low.ensures

pub returns-in_err-high : goal.returns-in_err-high
returns-in_err-high c = right-range c.from_residual-in_err-high.result c.args.state.now c.args.a.now c.args.z.now c.args.b.now c.from_residual-in_err-high.ensures c.in_err-high.ensures

pub returns : goal.returns
returns c =
    let a : SFits w128 c.in_ok-low.low = search rules in
    let b : SFits w128 c.in_ok-high.high = search rules in
    let g = simp to_z-of_z at c.is_between.ensures in
    within-range c.args.state.now c.args.a.now c.args.z.now c.args.b.now c.in_ok-low.low c.in_ok-high.high c.is_between.result c.in_ok-low.ensures c.in_ok-high.ensures g
