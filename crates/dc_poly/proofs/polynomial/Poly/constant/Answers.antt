use Rattle.std.proofs.Common.{◌∙◌, sym, ap, subst}
use Rattle.std.proofs.lemmas.Int.{to_z-of_z}
use Rattle.std.specs.Int.{w128}
use Rattle.std.proofs.Common.{SFits, rules}
use Rattle.dc_poly.specs.Terms.{IsPolynomial, polynomial, value}
use Rattle.dc_poly.proofs.Closed.{is_constant}
use Rattle.dc_poly.proofs.Values.{value-constant}
use Rattle.dc_poly.proofs.polynomial.Poly.constant.Goals as goal

pub invariant_of-result : goal.invariant_of-result
invariant_of-result c =
    let f : SFits w128 c.args.value = search rules in
    subst (λ t. IsPolynomial (polynomial c.args.places t)) (sym (simp to_z-of_z at c.in_ok-constant.ensures)) (is_constant c.args.value c.args.places c.requires.few c.requires.light)

pub returns-clause-kind : goal.returns-clause-kind
returns-clause-kind c =
    let f : SFits w128 c.args.value = search rules in
    subst (λ t. IsPolynomial (polynomial c.args.places t)) (sym (simp to_z-of_z at c.in_ok-constant.ensures)) (is_constant c.args.value c.args.places c.requires.few c.requires.light)

pub returns-clause-value : goal.returns-clause-value
returns-clause-value c xs =
    let f : SFits w128 c.args.value = search rules in
    ap (λ t. value t xs) (simp to_z-of_z at c.in_ok-constant.ensures) ∙ value-constant c.args.value c.args.places xs
