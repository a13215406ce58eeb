use Rattle.std.proofs.Common.{rules, SFits}
use Rattle.std.specs.Int.{w128}
use Rattle.std.proofs.lemmas.Int.{to_z-of_z}
use Rattle.dc_certtext.proofs.Fractions.{refuse_front, refuse_rest, frac_end}
use Rattle.dc_certtext.proofs.read.fraction.Goals as goal

pub returns-in_default : goal.returns-in_default
returns-in_default c = refuse_front c.args.word.now _ _ c.cut.ensures.front c.cut.ensures.rest c.in_default.ensures

pub returns-in_default-denominator : goal.returns-in_default-denominator
returns-in_default-denominator c = refuse_rest c.args.word.now _ _ c.cut.ensures.front c.cut.ensures.rest c.in_default-denominator.ensures

pub returns : goal.returns
returns c =
    let a : SFits w128 c.in-Some.num = search rules in
    let b : SFits w128 c.in-Some-denominator.den = search rules in
    let h = simp to_z-of_z at c.lowest_terms.ensures in
    frac_end c.args.word.now _ _ c.in-Some.num c.in-Some-denominator.den c.lowest_terms.result c.cut.ensures.front c.cut.ensures.rest c.in-Some.ensures.0 c.in-Some.ensures.1 c.in-Some-denominator.ensures.0 c.in-Some-denominator.ensures.1
    c.in-Some-denominator.ensures.2 h
