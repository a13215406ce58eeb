use Rattle.std.proofs.Common.{◌∙◌, ap, ap₂, sym, subst, ◌++◌, ◌∷◌}
use Rattle.std.specs.Prelude.{All}
use Rattle.dc_coefficients.specs.Monomials.{all_terms, monos_in}
use Rattle.dc_poly.specs.Terms.{Polynomial, TermList}
use Rattle.dc_duties.proofs.block.block_of.Goals as goal

pub returns : goal.returns
returns c = record {
  parts = c.in_ok-parts.ensures.terms;
  rest = c.in_ok-rest.ensures.terms;
  products = c.in_ok-products.ensures.list;
  monos = c.in_ok-monos.ensures
      ∙ ap monos_in (ap₂ (λ x y. x ++ y) (ap all_terms c.as_slice.ensures.value ∙ c.in_ok-parts.ensures.terms) (ap₂ (λ (x : TermList) y. x ∷ y) c.in_ok-rest.ensures.terms (ap all_terms (c.as_slice-2.ensures.value ∙ c.in_ok-products.ensures.list))));
  part_kinds = c.in_ok-parts.ensures.kinds;
  rest_kind = c.in_ok-rest.ensures.part;
  product_kinds = c.in_ok-products.ensures.kinds;
}
