use Rattle.std.proofs.Common.{◌∷◌, [], ◌∙◌, sym, ap, map, Some}
use Rattle.std.specs.List.{range_with_len}
use Rattle.dc_math.specs.Tests.{is_negative}
use Rattle.dc_lp.specs.Problems.{whole_at}
use Rattle.dc_cert.specs.declared.certificate.Body.TheVariants.{Vacuous}
use Rattle.dc_cert.specs.Vectors.{entry_of}
use Rattle.dc_clauses.specs.Steps.{counted, first_failure}
use Rattle.dc_clauses.specs.Mains.{whole_problem, sign_steps, equation_test, equation_tests, ray_tests, fall_tests}
use Rattle.dc_clauses.proofs.Walks.{first_failure-stops}
use Rattle.dc_mainlines.specs.Sums.{signed}
use Rattle.dc_mainlines.proofs.Order.{goes_on, behind_8, behind_9}
use Rattle.dc_mainlines.proofs.body.vacuous_failure.Goals as goal

pub returns-in-Some : goal.returns-in-Some
returns-in-Some c = first_failure-stops (sign_steps (whole_problem c.args.p.now) c.args.unknowns (Vacuous c.args.unknown.now c.args.lambda.now c.args.ray_unknown.now c.args.ray_lambda.now)) (behind_8 (whole_problem c.args.p.now) c.args.unknowns (Vacuous c.args.unknown.now c.args.lambda.now c.args.ray_unknown.now c.args.ray_lambda.now)) c.in-Some.step (first_failure-stops (map signed c.args.lambda.now.items) (map signed c.args.ray_lambda.now.items) c.in-Some.step (sym c.in-Some.is ∙ (c.sign_failure.ensures ∙ ap (λ items. first_failure (map signed items)) c.as_slice.ensures)))

pub returns-in-Some-sign_failure : goal.returns-in-Some-sign_failure
returns-in-Some-sign_failure c =
    first_failure-stops (sign_steps (whole_problem c.args.p.now) c.args.unknowns (Vacuous c.args.unknown.now c.args.lambda.now c.args.ray_unknown.now c.args.ray_lambda.now)) (behind_8 (whole_problem c.args.p.now) c.args.unknowns (Vacuous c.args.unknown.now c.args.lambda.now c.args.ray_unknown.now c.args.ray_lambda.now)) c.in-Some-sign_failure.step
    (goes_on (map signed c.args.lambda.now.items) (map signed c.args.ray_lambda.now.items) _ (sym c.in_default.is ∙ (c.sign_failure.ensures ∙ ap (λ items. first_failure (map signed items)) c.as_slice.ensures)) (sym c.in-Some-sign_failure.is ∙ (c.sign_failure-2.ensures ∙ ap (λ items. first_failure (map signed items)) c.as_slice-2.ensures)))

pub returns-in-Some-2 : goal.returns-in-Some-2
returns-in-Some-2 c =
    goes_on (sign_steps (whole_problem c.args.p.now) c.args.unknowns (Vacuous c.args.unknown.now c.args.lambda.now c.args.ray_unknown.now c.args.ray_lambda.now)) (behind_8 (whole_problem c.args.p.now) c.args.unknowns (Vacuous c.args.unknown.now c.args.lambda.now c.args.ray_unknown.now c.args.ray_lambda.now)) _ (goes_on (map signed c.args.lambda.now.items) (map signed c.args.ray_lambda.now.items) _ (sym c.in_default.is ∙ (c.sign_failure.ensures ∙ ap (λ items. first_failure (map signed items)) c.as_slice.ensures)) (sym c.in_default-sign_failure.is ∙ (c.sign_failure-2.ensures ∙ ap (λ items. first_failure (map signed items)) c.as_slice-2.ensures)))
    (first_failure-stops (counted 9 0 (equation_tests (whole_problem c.args.p.now) c.args.unknowns (Vacuous c.args.unknown.now c.args.lambda.now c.args.ray_unknown.now c.args.ray_lambda.now))) (behind_9 (whole_problem c.args.p.now) c.args.unknowns (Vacuous c.args.unknown.now c.args.lambda.now c.args.ray_unknown.now c.args.ray_lambda.now)) c.in-Some-2.step (sym c.in-Some-2.is ∙ (c.in_ok-step.ensures ∙ ap (λ xs. first_failure (counted 9 0 (map (equation_test (whole_problem c.args.p.now) c.args.unknowns (whole_at xs) c.args.unknown.now c.args.lambda.now) (range_with_len 0 c.args.p.now.rows)))) c.deref.ensures.value)))

pub returns-in-Some-3 : goal.returns-in-Some-3
returns-in-Some-3 c =
    goes_on (sign_steps (whole_problem c.args.p.now) c.args.unknowns (Vacuous c.args.unknown.now c.args.lambda.now c.args.ray_unknown.now c.args.ray_lambda.now)) (behind_8 (whole_problem c.args.p.now) c.args.unknowns (Vacuous c.args.unknown.now c.args.lambda.now c.args.ray_unknown.now c.args.ray_lambda.now)) _ (goes_on (map signed c.args.lambda.now.items) (map signed c.args.ray_lambda.now.items) _ (sym c.in_default.is ∙ (c.sign_failure.ensures ∙ ap (λ items. first_failure (map signed items)) c.as_slice.ensures)) (sym c.in_default-sign_failure.is ∙ (c.sign_failure-2.ensures ∙ ap (λ items. first_failure (map signed items)) c.as_slice-2.ensures)))
    (goes_on (counted 9 0 (equation_tests (whole_problem c.args.p.now) c.args.unknowns (Vacuous c.args.unknown.now c.args.lambda.now c.args.ray_unknown.now c.args.ray_lambda.now))) (behind_9 (whole_problem c.args.p.now) c.args.unknowns (Vacuous c.args.unknown.now c.args.lambda.now c.args.ray_unknown.now c.args.ray_lambda.now)) _ (sym c.in_default-2.is ∙ (c.in_ok-step.ensures ∙ ap (λ xs. first_failure (counted 9 0 (map (equation_test (whole_problem c.args.p.now) c.args.unknowns (whole_at xs) c.args.unknown.now c.args.lambda.now) (range_with_len 0 c.args.p.now.rows)))) c.deref.ensures.value))
    (first_failure-stops (counted 12 0 (ray_tests (whole_problem c.args.p.now) c.args.unknowns (Vacuous c.args.unknown.now c.args.lambda.now c.args.ray_unknown.now c.args.ray_lambda.now))) (counted 13 0 (fall_tests (whole_problem c.args.p.now) c.args.unknowns (Vacuous c.args.unknown.now c.args.lambda.now c.args.ray_unknown.now c.args.ray_lambda.now))) c.in-Some-3.step (sym c.in-Some-3.is ∙ c.in_ok-step-2.ensures)))

pub returns : goal.returns
returns c =
    goes_on (sign_steps (whole_problem c.args.p.now) c.args.unknowns (Vacuous c.args.unknown.now c.args.lambda.now c.args.ray_unknown.now c.args.ray_lambda.now)) (behind_8 (whole_problem c.args.p.now) c.args.unknowns (Vacuous c.args.unknown.now c.args.lambda.now c.args.ray_unknown.now c.args.ray_lambda.now)) _ (goes_on (map signed c.args.lambda.now.items) (map signed c.args.ray_lambda.now.items) _ (sym c.in_default.is ∙ (c.sign_failure.ensures ∙ ap (λ items. first_failure (map signed items)) c.as_slice.ensures)) (sym c.in_default-sign_failure.is ∙ (c.sign_failure-2.ensures ∙ ap (λ items. first_failure (map signed items)) c.as_slice-2.ensures)))
    (goes_on (counted 9 0 (equation_tests (whole_problem c.args.p.now) c.args.unknowns (Vacuous c.args.unknown.now c.args.lambda.now c.args.ray_unknown.now c.args.ray_lambda.now))) (behind_9 (whole_problem c.args.p.now) c.args.unknowns (Vacuous c.args.unknown.now c.args.lambda.now c.args.ray_unknown.now c.args.ray_lambda.now)) _ (sym c.in_default-2.is ∙ (c.in_ok-step.ensures ∙ ap (λ xs. first_failure (counted 9 0 (map (equation_test (whole_problem c.args.p.now) c.args.unknowns (whole_at xs) c.args.unknown.now c.args.lambda.now) (range_with_len 0 c.args.p.now.rows)))) c.deref.ensures.value))
    (goes_on (counted 12 0 (ray_tests (whole_problem c.args.p.now) c.args.unknowns (Vacuous c.args.unknown.now c.args.lambda.now c.args.ray_unknown.now c.args.ray_lambda.now))) (counted 13 0 (fall_tests (whole_problem c.args.p.now) c.args.unknowns (Vacuous c.args.unknown.now c.args.lambda.now c.args.ray_unknown.now c.args.ray_lambda.now))) _ (sym c.in_default-3.is ∙ c.in_ok-step-2.ensures)
    (c.failure.ensures ∙ ap (λ t. first_failure (counted 13 0 (Some t ∷ []))) (c.is_negative.ensures ∙ ap is_negative (c.entry.ensures ∙ ap (λ items. entry_of items 0) c.as_slice-3.ensures)))))
