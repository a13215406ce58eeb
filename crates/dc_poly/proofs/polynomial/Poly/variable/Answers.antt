use Rattle.std.proofs.Common.{◌∙◌, sym, ap, ap₂, subst, ◌++◌, ◌∷◌, [], pos}
use Rattle.dc_poly.specs.Terms.{IsPolynomial, polynomial, value, term}
use Rattle.dc_poly.proofs.Closed.{is_variable}
use Rattle.dc_poly.proofs.Values.{value-variable}
use Rattle.dc_poly.proofs.polynomial.Poly.variable.Goals as goal

pub invariant_of-result : goal.invariant_of-result
invariant_of-result c =
    subst (λ t. IsPolynomial (polynomial c.args.places t)) (sym (c.in_ok-push.ensures.items ∙ ap₂ (λ l m. l ++ term m (pos 1) ∷ []) c.new-terms.ensures.items c.in_ok-mono.ensures.value)) (is_variable c.args.index c.args.places c.requires.few)

pub returns-clause-kind : goal.returns-clause-kind
returns-clause-kind c =
    subst (λ t. IsPolynomial (polynomial c.args.places t)) (sym (c.in_ok-push.ensures.items ∙ ap₂ (λ l m. l ++ term m (pos 1) ∷ []) c.new-terms.ensures.items c.in_ok-mono.ensures.value)) (is_variable c.args.index c.args.places c.requires.few)

pub returns-clause-value : goal.returns-clause-value
returns-clause-value c xs =
    ap (λ t. value t xs) (c.in_ok-push.ensures.items ∙ ap₂ (λ l m. l ++ term m (pos 1) ∷ []) c.new-terms.ensures.items c.in_ok-mono.ensures.value) ∙ value-variable c.args.index c.args.places xs c.requires.inside
