use Rattle.std.proofs.Common.{◌≡◌, ◌∙◌, sym, ap, [], IsFalse, pos, negsuc, refl, true, false}
use Rattle.std.specs.List.{list_all}
use Rattle.dc_math.specs.Tests.{is_positive}
use Rattle.dc_frac.specs.Value.{value}
use Rattle.dc_cert.specs.declared.sparse.Item.{Item}
use Rattle.dc_clauses.specs.Hyps.{atoms_of}
use Rattle.dc_clauses.specs.Steps.{is_true}
use Rattle.dc_clauses.specs.Lines.{is, part_sum, signs}
use Rattle.dc_clauses.proofs.Parts.{same}
use Rattle.dc_clauses.proofs.Tests.{all_true, some_false, line_sign, line_numbered, line_last}
use Rattle.dc_clauses.proofs.lines.is_dead.Goals as goal

pub returns-then-not-are_positive : goal.returns-then-not-are_positive
returns-then-not-are_positive c =
    let v = c.args.v.now in
    let h = atoms_of c.args.hyps.now in
    let n = c.args.places in
    let p : list_all (λ (i : Item). is_positive (value i.value)) v.items ≡ false = ap (list_all (λ (i : Item). is_positive (value i.value))) (sym c.as_slice.ensures) ∙ sym c.are_positive.ensures ∙ c.if-not-are_positive.true in
    line_sign (signs v) [] (same h n v (λ i. pos 0)) n (is (part_sum h n v n) (negsuc 0)) (some_false (λ (i : Item). is_positive (value i.value)) v.items p)

pub returns-then-not-passes : goal.returns-then-not-passes
returns-then-not-passes c =
    let v = c.args.v.now in
    let h = atoms_of c.args.hyps.now in
    let n = c.args.places in
    let p : list_all (λ (i : Item). is_positive (value i.value)) v.items ≡ true = ap (list_all (λ (i : Item). is_positive (value i.value))) (sym c.as_slice.ensures) ∙ sym c.are_positive.ensures ∙ c.if-not-are_positive.false in
    let f : IsFalse (is_true c.coefficients_are-test.result) = sym c.passes.ensures ∙ c.if-not-passes.true in
    line_numbered (signs v) [] (same h n v (λ i. pos 0)) n (is (part_sum h n v n) (negsuc 0)) c.coefficients_are-test.result (all_true (λ (i : Item). is_positive (value i.value)) v.items p) refl c.coefficients_are-test.ensures f

pub returns : goal.returns
returns c =
    let v = c.args.v.now in
    let h = atoms_of c.args.hyps.now in
    let n = c.args.places in
    let p : list_all (λ (i : Item). is_positive (value i.value)) v.items ≡ true = ap (list_all (λ (i : Item). is_positive (value i.value))) (sym c.as_slice.ensures) ∙ sym c.are_positive.ensures ∙ c.if-not-are_positive.false in
    line_last (signs v) [] (same h n v (λ i. pos 0)) n (is (part_sum h n v n) (negsuc 0)) c.coefficients_are-test.result c.part_is.result (all_true (λ (i : Item). is_positive (value i.value)) v.items p) refl c.coefficients_are-test.ensures (sym c.passes.ensures ∙ c.if-not-passes.false) c.part_is.ensures
