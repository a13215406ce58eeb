use Rattle.std.proofs.Common.{◌≡◌, ◌∙◌, sym, ap, Some, IsFalse, true, false}
use Rattle.std.specs.List.{list_all}
use Rattle.dc_math.specs.Tests.{is_positive}
use Rattle.dc_frac.specs.Value.{value}
use Rattle.dc_lp.specs.Problems.{whole_at}
use Rattle.dc_cert.specs.declared.sparse.Item.{Item}
use Rattle.dc_clauses.specs.Hyps.{atoms_of}
use Rattle.dc_clauses.specs.Steps.{is_true}
use Rattle.dc_clauses.specs.Lines.{is_at_most, part_sum, signs}
use Rattle.dc_clauses.proofs.Parts.{same}
use Rattle.dc_clauses.proofs.Tests.{all_true, some_false, line_sign, line_more, line_numbered, line_last}
use Rattle.dc_clauses.proofs.lines.keep_test.Goals as goal

pub returns-then-not-are_positive : goal.returns-then-not-are_positive
returns-then-not-are_positive c more e =
    let v = c.args.v.now in
    let h = atoms_of c.args.hyps.now in
    let n = c.args.places in
    let p : list_all (λ (i : Item). is_positive (value i.value)) v.items ≡ false = ap (list_all (λ (i : Item). is_positive (value i.value))) (sym c.as_slice.ensures) ∙ sym c.are_positive.ensures ∙ c.if-not-are_positive.true in
    line_sign (signs v) more (same h n v (whole_at c.args.coefs.now)) n (is_at_most (part_sum h n v n) c.args.constant.now) (some_false (λ (i : Item). is_positive (value i.value)) v.items p)

pub returns-then-not-affine : goal.returns-then-not-affine
returns-then-not-affine c more e =
    let v = c.args.v.now in
    let h = atoms_of c.args.hyps.now in
    let n = c.args.places in
    let p : list_all (λ (i : Item). is_positive (value i.value)) v.items ≡ true = ap (list_all (λ (i : Item). is_positive (value i.value))) (sym c.as_slice.ensures) ∙ sym c.are_positive.ensures ∙ c.if-not-are_positive.false in
    line_more (signs v) more (same h n v (whole_at c.args.coefs.now)) n (is_at_most (part_sum h n v n) c.args.constant.now) (all_true (λ (i : Item). is_positive (value i.value)) v.items p) (e ∙ ap Some c.if-not-affine.true)

pub returns-then-not-passes : goal.returns-then-not-passes
returns-then-not-passes c more e =
    let v = c.args.v.now in
    let h = atoms_of c.args.hyps.now in
    let n = c.args.places in
    let p : list_all (λ (i : Item). is_positive (value i.value)) v.items ≡ true = ap (list_all (λ (i : Item). is_positive (value i.value))) (sym c.as_slice.ensures) ∙ sym c.are_positive.ensures ∙ c.if-not-are_positive.false in
    let f : IsFalse (is_true c.coefficients_are-test.result) = sym c.passes.ensures ∙ c.if-not-passes.true in
    line_numbered (signs v) more (same h n v (whole_at c.args.coefs.now)) n (is_at_most (part_sum h n v n) c.args.constant.now) c.coefficients_are-test.result (all_true (λ (i : Item). is_positive (value i.value)) v.items p)
    (e ∙ ap Some c.if-not-affine.false) c.coefficients_are-test.ensures f

pub returns : goal.returns
returns c more e =
    let v = c.args.v.now in
    let h = atoms_of c.args.hyps.now in
    let n = c.args.places in
    let p : list_all (λ (i : Item). is_positive (value i.value)) v.items ≡ true = ap (list_all (λ (i : Item). is_positive (value i.value))) (sym c.as_slice.ensures) ∙ sym c.are_positive.ensures ∙ c.if-not-are_positive.false in
    line_last (signs v) more (same h n v (whole_at c.args.coefs.now)) n (is_at_most (part_sum h n v n) c.args.constant.now) c.coefficients_are-test.result c.part_is_at_most.result (all_true (λ (i : Item). is_positive (value i.value)) v.items p)
    (e ∙ ap Some c.if-not-affine.false) c.coefficients_are-test.ensures (sym c.passes.ensures ∙ c.if-not-passes.false) c.part_is_at_most.ensures
