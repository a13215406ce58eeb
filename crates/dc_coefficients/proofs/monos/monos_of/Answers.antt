use Rattle.std.proofs.Common.{[], ◌∷◌, sym, ◌∙◌, ap, subst}
use Rattle.dc_math.specs.OrderedLists.{Ordered}
use Rattle.dc_poly.specs.Terms.{Before}
use Rattle.dc_coefficients.specs.Monomials.{with_monos, with_all, all_terms}
use Rattle.dc_coefficients.proofs.Insertions.{ordered-with_all, ordered-with_monos, with_all-++}
use Rattle.dc_coefficients.proofs.monos.monos_of.Goals as goal

pub add_terms-requires : goal.add_terms-requires
add_terms-requires c =
    subst (Ordered Before) (sym (c.in_ok-add_forms.ensures ∙ ap (with_all (all_terms c.args.products.now)) c.new-list.ensures.items)) (ordered-with_all (all_terms c.args.products.now) [] tt)

pub add_forms-requires-2 : goal.add_forms-requires-2
add_forms-requires-2 c =
    subst (Ordered Before)
    (sym (c.in_ok-add_terms.ensures
    ∙ ap (λ t. with_monos t c.add_forms.new.list.items) c.terms.ensures.terms
    ∙ ap (with_monos c.args.rest.now.terms) (c.in_ok-add_forms.ensures ∙ ap (with_all (all_terms c.args.products.now)) c.new-list.ensures.items)))
    (ordered-with_monos c.args.rest.now.terms (with_all (all_terms c.args.products.now) []) (ordered-with_all (all_terms c.args.products.now) [] tt))

pub returns : goal.returns
returns c =
    c.in_ok-add_forms-2.ensures
    ∙ ap (with_all (all_terms c.args.parts.now))
    (c.in_ok-add_terms.ensures
    ∙ ap (λ t. with_monos t c.add_forms.new.list.items) c.terms.ensures.terms
    ∙ ap (with_monos c.args.rest.now.terms) (c.in_ok-add_forms.ensures ∙ ap (with_all (all_terms c.args.products.now)) c.new-list.ensures.items))
    ∙ sym (with_all-++ (all_terms c.args.parts.now) (c.args.rest.now.terms ∷ all_terms c.args.products.now) [])
