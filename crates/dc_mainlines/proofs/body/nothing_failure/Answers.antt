use Rattle.std.proofs.Common.{◌∷◌, [], ◌∙◌, sym, ap}
use Rattle.dc_cert.specs.declared.certificate.Body.TheVariants.{Nothing}
use Rattle.dc_clauses.specs.Steps.{counted, first_failure}
use Rattle.dc_clauses.specs.Mains.{whole_problem, price_tests}
use Rattle.dc_clauses.proofs.Walks.{first_failure-stops}
use Rattle.dc_mainlines.proofs.Order.{goes_on, behind_10}
use Rattle.dc_mainlines.proofs.body.nothing_failure.Goals as goal

pub returns-in-Some : goal.returns-in-Some
returns-in-Some c = first_failure-stops (counted 10 0 (price_tests (whole_problem c.args.p.now) c.args.unknowns (Nothing c.args.dual.now))) (behind_10 (whole_problem c.args.p.now) c.args.unknowns (Nothing c.args.dual.now)) c.in-Some.step (sym c.in-Some.is ∙ c.in_ok-step.ensures)

pub returns : goal.returns
returns c =
    goes_on (counted 10 0 (price_tests (whole_problem c.args.p.now) c.args.unknowns (Nothing c.args.dual.now))) (behind_10 (whole_problem c.args.p.now) c.args.unknowns (Nothing c.args.dual.now)) _ (sym c.in_default.is ∙ c.in_ok-step.ensures)
    (c.failure.ensures ∙ ap (λ t. first_failure (counted 11 0 (t ∷ []))) c.refutation_test.ensures)
