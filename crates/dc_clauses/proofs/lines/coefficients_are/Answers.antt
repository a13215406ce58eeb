use Rattle.std.proofs.Common.{◌≡◌, ◌∙◌, sym, ap, subst, arith, rules, IsFalse, SFits}
use Rattle.std.proofs.lemmas.Int.{to_z-of_z}
use mir.Syntax.{w128}
use Rattle.dc_lp.specs.Problems.{whole_at}
use Rattle.dc_clauses.specs.Hyps.{atoms_of}
use Rattle.dc_clauses.specs.Steps.{is_true}
use Rattle.dc_clauses.specs.Lines.{is, part_sum}
use Rattle.dc_clauses.proofs.Parts.{same}
use Rattle.dc_clauses.proofs.Tests.{Passed, passed_all, passed_stop}
use Rattle.dc_clauses.proofs.lines.coefficients_are.Goals as goal

pub returns-then-not-passes : goal.returns-then-not-passes
returns-then-not-passes c =
    let t = same (atoms_of c.args.hyps.now) c.args.places c.args.v.now (whole_at c.args.coefs.now) in
    let f : IsFalse (is_true c.part_is-test.result) = sym c.passes.ensures ∙ c.if-not-passes.true in
    let g : SFits w128 c.number_at-coef.result = search rules in
    let e = simp to_z-of_z at c.part_is-test.ensures in
    passed_stop t c.args.places c.loop-place.place c.part_is-test.result c.loop-place.invariant c.loop-place-test.true
    (e ∙ ap (is (part_sum (atoms_of c.args.hyps.now) c.args.places c.args.v.now c.loop-place.place)) c.number_at-coef.ensures) f

pub returns : goal.returns
returns c =
    let t = same (atoms_of c.args.hyps.now) c.args.places c.args.v.now (whole_at c.args.coefs.now) in
    let k : c.loop-place.place ≡ c.args.places = omega arith in
    sym (passed_all t c.args.places (subst (Passed t) k c.loop-place.invariant))
