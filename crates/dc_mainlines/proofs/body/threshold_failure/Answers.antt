use Rattle.std.proofs.Common.{◌+◌, ◌∷◌, [], ◌∙◌, sym, ap, map}
use Rattle.std.specs.List.{range_with_len}
use Rattle.dc_lp.specs.Problems.{whole_at}
use Rattle.dc_cert.specs.declared.certificate.Body.TheVariants.{Threshold}
use Rattle.dc_clauses.specs.Steps.{counted, first_failure}
use Rattle.dc_clauses.specs.Mains.{whole_problem, multipliers, sign_steps, equation_test, equation_tests, price_test, price_tests}
use Rattle.dc_clauses.proofs.Walks.{first_failure-stops}
use Rattle.dc_mainlines.specs.Sums.{signed}
use Rattle.dc_mainlines.proofs.Order.{goes_on, behind_8, behind_9, behind_10}
use Rattle.dc_mainlines.proofs.body.threshold_failure.Goals as goal

pub returns-in-Some : goal.returns-in-Some
returns-in-Some c = first_failure-stops (sign_steps (whole_problem c.args.p.now) c.args.unknowns (Threshold c.args.t.now c.args.unknown.now c.args.lambda.now c.args.dual.now)) (behind_8 (whole_problem c.args.p.now) c.args.unknowns (Threshold c.args.t.now c.args.unknown.now c.args.lambda.now c.args.dual.now)) c.in-Some.step (sym c.in-Some.is ∙ (c.sign_failure.ensures ∙ ap (λ items. first_failure (map signed items)) c.as_slice.ensures))

pub returns-in-Some-2 : goal.returns-in-Some-2
returns-in-Some-2 c =
    goes_on (sign_steps (whole_problem c.args.p.now) c.args.unknowns (Threshold c.args.t.now c.args.unknown.now c.args.lambda.now c.args.dual.now)) (behind_8 (whole_problem c.args.p.now) c.args.unknowns (Threshold c.args.t.now c.args.unknown.now c.args.lambda.now c.args.dual.now)) _ (sym c.in_default.is ∙ (c.sign_failure.ensures ∙ ap (λ items. first_failure (map signed items)) c.as_slice.ensures))
    (first_failure-stops (counted 9 0 (equation_tests (whole_problem c.args.p.now) c.args.unknowns (Threshold c.args.t.now c.args.unknown.now c.args.lambda.now c.args.dual.now))) (behind_9 (whole_problem c.args.p.now) c.args.unknowns (Threshold c.args.t.now c.args.unknown.now c.args.lambda.now c.args.dual.now)) c.in-Some-2.step (sym c.in-Some-2.is ∙ (c.in_ok-step.ensures ∙ ap (λ xs. first_failure (counted 9 0 (map (equation_test (whole_problem c.args.p.now) c.args.unknowns (whole_at xs) c.args.unknown.now c.args.lambda.now) (range_with_len 0 c.args.p.now.rows)))) c.deref.ensures.value)))

pub returns-in-Some-3 : goal.returns-in-Some-3
returns-in-Some-3 c =
    goes_on (sign_steps (whole_problem c.args.p.now) c.args.unknowns (Threshold c.args.t.now c.args.unknown.now c.args.lambda.now c.args.dual.now)) (behind_8 (whole_problem c.args.p.now) c.args.unknowns (Threshold c.args.t.now c.args.unknown.now c.args.lambda.now c.args.dual.now)) _ (sym c.in_default.is ∙ (c.sign_failure.ensures ∙ ap (λ items. first_failure (map signed items)) c.as_slice.ensures))
    (goes_on (counted 9 0 (equation_tests (whole_problem c.args.p.now) c.args.unknowns (Threshold c.args.t.now c.args.unknown.now c.args.lambda.now c.args.dual.now))) (behind_9 (whole_problem c.args.p.now) c.args.unknowns (Threshold c.args.t.now c.args.unknown.now c.args.lambda.now c.args.dual.now)) _ (sym c.in_default-2.is ∙ (c.in_ok-step.ensures ∙ ap (λ xs. first_failure (counted 9 0 (map (equation_test (whole_problem c.args.p.now) c.args.unknowns (whole_at xs) c.args.unknown.now c.args.lambda.now) (range_with_len 0 c.args.p.now.rows)))) c.deref.ensures.value))
    (first_failure-stops (counted 10 0 (price_tests (whole_problem c.args.p.now) c.args.unknowns (Threshold c.args.t.now c.args.unknown.now c.args.lambda.now c.args.dual.now))) (behind_10 (whole_problem c.args.p.now) c.args.unknowns (Threshold c.args.t.now c.args.unknown.now c.args.lambda.now c.args.dual.now)) c.in-Some-3.step (sym c.in-Some-3.is ∙ (c.in_ok-step-2.ensures ∙ ap (λ xs. first_failure (counted 10 0 (map (price_test (whole_problem c.args.p.now) c.args.unknowns (whole_at xs) c.args.dual.now) (range_with_len 0 (c.args.unknowns + multipliers (whole_problem c.args.p.now) c.args.unknowns))))) c.deref-2.ensures.value))))

pub returns : goal.returns
returns c =
    goes_on (sign_steps (whole_problem c.args.p.now) c.args.unknowns (Threshold c.args.t.now c.args.unknown.now c.args.lambda.now c.args.dual.now)) (behind_8 (whole_problem c.args.p.now) c.args.unknowns (Threshold c.args.t.now c.args.unknown.now c.args.lambda.now c.args.dual.now)) _ (sym c.in_default.is ∙ (c.sign_failure.ensures ∙ ap (λ items. first_failure (map signed items)) c.as_slice.ensures))
    (goes_on (counted 9 0 (equation_tests (whole_problem c.args.p.now) c.args.unknowns (Threshold c.args.t.now c.args.unknown.now c.args.lambda.now c.args.dual.now))) (behind_9 (whole_problem c.args.p.now) c.args.unknowns (Threshold c.args.t.now c.args.unknown.now c.args.lambda.now c.args.dual.now)) _ (sym c.in_default-2.is ∙ (c.in_ok-step.ensures ∙ ap (λ xs. first_failure (counted 9 0 (map (equation_test (whole_problem c.args.p.now) c.args.unknowns (whole_at xs) c.args.unknown.now c.args.lambda.now) (range_with_len 0 c.args.p.now.rows)))) c.deref.ensures.value))
    (goes_on (counted 10 0 (price_tests (whole_problem c.args.p.now) c.args.unknowns (Threshold c.args.t.now c.args.unknown.now c.args.lambda.now c.args.dual.now))) (behind_10 (whole_problem c.args.p.now) c.args.unknowns (Threshold c.args.t.now c.args.unknown.now c.args.lambda.now c.args.dual.now)) _ (sym c.in_default-3.is ∙ (c.in_ok-step-2.ensures ∙ ap (λ xs. first_failure (counted 10 0 (map (price_test (whole_problem c.args.p.now) c.args.unknowns (whole_at xs) c.args.dual.now) (range_with_len 0 (c.args.unknowns + multipliers (whole_problem c.args.p.now) c.args.unknowns))))) c.deref-2.ensures.value))
    (c.failure.ensures ∙ ap (λ t. first_failure (counted 11 0 (t ∷ []))) c.threshold_test.ensures)))
