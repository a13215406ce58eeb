use Rattle.std.proofs.Common.{◌≡◌, ◌<◌, ◌∙◌, sym, ap, subst, arith, length, map, Some, IsFalse}
use Rattle.std.specs.List.{range_with_len}
use Rattle.dc_math.specs.Tests.{is_negative}
use Rattle.dc_cert.specs.Vectors.{entry_of}
use Rattle.dc_clauses.specs.Hyps.{atoms_of}
use Rattle.dc_clauses.specs.Steps.{is_true}
use Rattle.dc_clauses.proofs.Parts.{low}
use Rattle.dc_clauses.proofs.Tests.{Passed, passed_all, passed_stop, at_stop, after_passed, all_of-one}
use Rattle.dc_clauses.proofs.lines.is_live.Goals as goal

pub returns-then-not-passes : goal.returns-then-not-passes
returns-then-not-passes c =
    let h = atoms_of c.args.hyps.now in
    let n = c.args.places in
    let y = c.args.y.now in
    let l : c.loop-number.number < length (atoms_of c.args.hyps.now) = subst (λ k. c.loop-number.number < k) c.len-number-end.ensures c.loop-number-test.true in
    let f : IsFalse (is_true c.column_is_low-test.result) = sym c.passes.ensures ∙ c.if-not-passes.true in
    at_stop (map (low h n y) (range_with_len 0 (length h))) _ c.column_is_low-test.result
    (passed_stop (low h n y) (length h) c.loop-number.number c.column_is_low-test.result c.loop-number.invariant l c.column_is_low-test.ensures f) f

pub returns : goal.returns
returns c =
    let h = atoms_of c.args.hyps.now in
    let n = c.args.places in
    let y = c.args.y.now in
    let k : c.loop-number.number ≡ length (atoms_of c.args.hyps.now) = (let e = c.len-number-end.ensures in omega arith) in
    after_passed (map (low h n y) (range_with_len 0 (length h))) _ (Some c.is_negative.result) (passed_all (low h n y) (length h) (subst (Passed (low h n y)) k c.loop-number.invariant))
    (ap Some (c.is_negative.ensures ∙ ap is_negative (c.entry.ensures ∙ ap (λ is. entry_of is c.args.places) c.as_slice.ensures)) ∙ sym (all_of-one _))
