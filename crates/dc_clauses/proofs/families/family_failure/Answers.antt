use Rattle.std.proofs.Common.{◌≡◌, ◌∙◌, sym, ap, None}
use Rattle.dc_clauses.specs.Steps.{counted, first_failure}
use Rattle.dc_clauses.specs.Sides.{case_tests, shape_fits}
use Rattle.dc_clauses.proofs.Shaped.{is_part, is_shaped, entry_shaped}
use Rattle.dc_clauses.proofs.Stages.{first, second, third, fourth, fifth, stops_2, stops_3, stops_4, stops_5, last_6, both_true}
use Rattle.dc_clauses.proofs.families.family_failure.Goals as goal

pub returns-in-Some-case_failure : goal.returns-in-Some-case_failure
returns-in-Some-case_failure c =
    let p : None ≡ first_failure (first c.args.new.now c.args.old.now c.args.cases.now c.args.c.now) = sym c.in_default.is ∙ c.shape_failure.ensures in
    stops_2 c.args.new.now c.args.old.now c.args.cases.now c.args.c.now p c.in-Some-case_failure.step
    (sym c.in-Some-case_failure.is ∙ c.case_failure.ensures ∙ ap (λ ws. first_failure (counted 2 0 (case_tests c.args.new.now.params c.args.cases.now ws))) c.as_slice.ensures)

pub entry_failure-requires-clause-new_fits : goal.entry_failure-requires-clause-new_fits
entry_failure-requires-clause-new_fits c =
    let b = both_true 1 (shape_fits c.args.new.now c.args.cases.now c.args.c.now.when c.args.c.now.new_side) (shape_fits c.args.old.now c.args.cases.now c.args.c.now.when c.args.c.now.old_side) (sym c.in_default.is ∙ c.shape_failure.ensures) in
    entry_shaped c.args.new.now c.args.cases.now c.args.c.now.when c.args.c.now.new_side (is_part c.args.new.now _ c.args.c.now.new_side c.requires.new c.requires.certificate.new_side) b.0

pub entry_failure-requires-clause-old_fits : goal.entry_failure-requires-clause-old_fits
entry_failure-requires-clause-old_fits c =
    let b = both_true 1 (shape_fits c.args.new.now c.args.cases.now c.args.c.now.when c.args.c.now.new_side) (shape_fits c.args.old.now c.args.cases.now c.args.c.now.when c.args.c.now.old_side) (sym c.in_default.is ∙ c.shape_failure.ensures) in
    entry_shaped c.args.old.now c.args.cases.now c.args.c.now.when c.args.c.now.old_side (is_part c.args.old.now _ c.args.c.now.old_side c.requires.old c.requires.certificate.old_side) b.1

pub returns-in-Some-2 : goal.returns-in-Some-2
returns-in-Some-2 c =
    let p : None ≡ first_failure (first c.args.new.now c.args.old.now c.args.cases.now c.args.c.now) = sym c.in_default.is ∙ c.shape_failure.ensures in
    let q : None ≡ first_failure (second c.args.new.now c.args.old.now c.args.cases.now c.args.c.now) =
    sym c.in_default-case_failure.is ∙ c.case_failure.ensures ∙ ap (λ ws. first_failure (counted 2 0 (case_tests c.args.new.now.params c.args.cases.now ws))) c.as_slice.ensures in
    stops_3 c.args.new.now c.args.old.now c.args.cases.now c.args.c.now p q c.in-Some-2.step (sym c.in-Some-2.is ∙ c.in_ok-step.ensures)

pub returns-in-Some-line_failure : goal.returns-in-Some-line_failure
returns-in-Some-line_failure c =
    let p : None ≡ first_failure (first c.args.new.now c.args.old.now c.args.cases.now c.args.c.now) = sym c.in_default.is ∙ c.shape_failure.ensures in
    let q : None ≡ first_failure (second c.args.new.now c.args.old.now c.args.cases.now c.args.c.now) =
    sym c.in_default-case_failure.is ∙ c.case_failure.ensures ∙ ap (λ ws. first_failure (counted 2 0 (case_tests c.args.new.now.params c.args.cases.now ws))) c.as_slice.ensures in
    let s : None ≡ first_failure (third c.args.new.now c.args.old.now c.args.cases.now c.args.c.now) = sym c.in_default-2.is ∙ c.in_ok-step.ensures in
    stops_4 c.args.new.now c.args.old.now c.args.cases.now c.args.c.now p q s c.in-Some-line_failure.step (sym c.in-Some-line_failure.is ∙ c.line_failure.ensures)

pub returns-in-Some-3 : goal.returns-in-Some-3
returns-in-Some-3 c =
    let p : None ≡ first_failure (first c.args.new.now c.args.old.now c.args.cases.now c.args.c.now) = sym c.in_default.is ∙ c.shape_failure.ensures in
    let q : None ≡ first_failure (second c.args.new.now c.args.old.now c.args.cases.now c.args.c.now) =
    sym c.in_default-case_failure.is ∙ c.case_failure.ensures ∙ ap (λ ws. first_failure (counted 2 0 (case_tests c.args.new.now.params c.args.cases.now ws))) c.as_slice.ensures in
    let s : None ≡ first_failure (third c.args.new.now c.args.old.now c.args.cases.now c.args.c.now) = sym c.in_default-2.is ∙ c.in_ok-step.ensures in
    let t : None ≡ first_failure (fourth c.args.new.now c.args.old.now c.args.cases.now c.args.c.now) = sym c.in_default-line_failure.is ∙ c.line_failure.ensures in
    stops_5 c.args.new.now c.args.old.now c.args.cases.now c.args.c.now p q s t c.in-Some-3.step (sym c.in-Some-3.is ∙ c.in_ok-step-2.ensures)

pub returns : goal.returns
returns c =
    let p : None ≡ first_failure (first c.args.new.now c.args.old.now c.args.cases.now c.args.c.now) = sym c.in_default.is ∙ c.shape_failure.ensures in
    let q : None ≡ first_failure (second c.args.new.now c.args.old.now c.args.cases.now c.args.c.now) =
    sym c.in_default-case_failure.is ∙ c.case_failure.ensures ∙ ap (λ ws. first_failure (counted 2 0 (case_tests c.args.new.now.params c.args.cases.now ws))) c.as_slice.ensures in
    let s : None ≡ first_failure (third c.args.new.now c.args.old.now c.args.cases.now c.args.c.now) = sym c.in_default-2.is ∙ c.in_ok-step.ensures in
    let t : None ≡ first_failure (fourth c.args.new.now c.args.old.now c.args.cases.now c.args.c.now) = sym c.in_default-line_failure.is ∙ c.line_failure.ensures in
    let u : None ≡ first_failure (fifth c.args.new.now c.args.old.now c.args.cases.now c.args.c.now) = sym c.in_default-3.is ∙ c.in_ok-step-2.ensures in
    last_6 c.args.new.now c.args.old.now c.args.cases.now c.args.c.now p q s t c.exit_failure.result u c.exit_failure.ensures

pub line_failure-requires-clause-new : goal.line_failure-requires-clause-new
line_failure-requires-clause-new c =
    let b = both_true 1 (shape_fits c.args.new.now c.args.cases.now c.args.c.now.when c.args.c.now.new_side) (shape_fits c.args.old.now c.args.cases.now c.args.c.now.when c.args.c.now.old_side) (sym c.in_default.is ∙ c.shape_failure.ensures) in
    is_shaped c.args.new.now c.args.cases.now c.args.c.now.when c.args.c.now.new_side (is_part c.args.new.now _ c.args.c.now.new_side c.requires.new c.requires.certificate.new_side) b.0

pub line_failure-requires-clause-old : goal.line_failure-requires-clause-old
line_failure-requires-clause-old c =
    let b = both_true 1 (shape_fits c.args.new.now c.args.cases.now c.args.c.now.when c.args.c.now.new_side) (shape_fits c.args.old.now c.args.cases.now c.args.c.now.when c.args.c.now.old_side) (sym c.in_default.is ∙ c.shape_failure.ensures) in
    is_shaped c.args.old.now c.args.cases.now c.args.c.now.when c.args.c.now.old_side (is_part c.args.old.now _ c.args.c.now.old_side c.requires.old c.requires.certificate.old_side) b.1

pub keep_failure-requires-clause-new : goal.keep_failure-requires-clause-new
keep_failure-requires-clause-new c =
    let b = both_true 1 (shape_fits c.args.new.now c.args.cases.now c.args.c.now.when c.args.c.now.new_side) (shape_fits c.args.old.now c.args.cases.now c.args.c.now.when c.args.c.now.old_side) (sym c.in_default.is ∙ c.shape_failure.ensures) in
    is_shaped c.args.new.now c.args.cases.now c.args.c.now.when c.args.c.now.new_side (is_part c.args.new.now _ c.args.c.now.new_side c.requires.new c.requires.certificate.new_side) b.0

pub keep_failure-requires-clause-old : goal.keep_failure-requires-clause-old
keep_failure-requires-clause-old c =
    let b = both_true 1 (shape_fits c.args.new.now c.args.cases.now c.args.c.now.when c.args.c.now.new_side) (shape_fits c.args.old.now c.args.cases.now c.args.c.now.when c.args.c.now.old_side) (sym c.in_default.is ∙ c.shape_failure.ensures) in
    is_shaped c.args.old.now c.args.cases.now c.args.c.now.when c.args.c.now.old_side (is_part c.args.old.now _ c.args.c.now.old_side c.requires.old c.requires.certificate.old_side) b.1

pub exit_failure-requires-clause-new : goal.exit_failure-requires-clause-new
exit_failure-requires-clause-new c =
    let b = both_true 1 (shape_fits c.args.new.now c.args.cases.now c.args.c.now.when c.args.c.now.new_side) (shape_fits c.args.old.now c.args.cases.now c.args.c.now.when c.args.c.now.old_side) (sym c.in_default.is ∙ c.shape_failure.ensures) in
    is_shaped c.args.new.now c.args.cases.now c.args.c.now.when c.args.c.now.new_side (is_part c.args.new.now _ c.args.c.now.new_side c.requires.new c.requires.certificate.new_side) b.0

pub exit_failure-requires-clause-old : goal.exit_failure-requires-clause-old
exit_failure-requires-clause-old c =
    let b = both_true 1 (shape_fits c.args.new.now c.args.cases.now c.args.c.now.when c.args.c.now.new_side) (shape_fits c.args.old.now c.args.cases.now c.args.c.now.when c.args.c.now.old_side) (sym c.in_default.is ∙ c.shape_failure.ensures) in
    is_shaped c.args.old.now c.args.cases.now c.args.c.now.when c.args.c.now.old_side (is_part c.args.old.now _ c.args.c.now.old_side c.requires.old c.requires.certificate.old_side) b.1
