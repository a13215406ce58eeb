-- What a duty adds to the main problem.
use Rattle.std.specs.Prelude.{◌≡◌, ℕ, ◌*◌, ◌^◌, ◌≤◌, All, map}
use Rattle.std.specs.List.{AllByRecursion}
use Rattle.dc_poly.specs.Terms.{Polynomial, IsPolynomial, weight}
use Rattle.dc_poly.specs.NormalForm.{normal_weight}
use Rattle.dc_coefficients.specs.declared.block.Block.{Block}
use Rattle.dc_coefficients.specs.Monomials.{all_terms, monos_in}
use Rattle.dc_handelman.specs.Products.{IsProduct}
use Rattle.dc_claims.specs.declared.duty.Duty.{Duty}
use Rattle.dc_claims.specs.Duties.{Pair, places_of}
use Rattle.dc_claims.specs.Parts.{unknowns_of, part_of, rest_of}
use Rattle.dc_claims.specs.Problems.{products_at, polynomials_at}

-- over n places, and no heavier than c monomials of degree 3 at normal forms
pub record IsPart (n c : ℕ) (p : Polynomial) : Type 0 where
  pub places : p.places ≡ n
  pub kind : IsPolynomial p
  pub light : weight p.terms ≤ c * normal_weight ^ 3

-- the part of each unknown, the rest, the products, and the monomials that have a coefficient in any of
-- these
pub record IsBlock (p : Pair) (d k : ℕ) (o : Duty) (b : Block) : Type 0 where
  pub parts : all_terms b.parts.items ≡ map (part_of p d o) (unknowns_of p d)
  pub rest : b.rest.terms ≡ rest_of p o
  pub products : b.products.items ≡ products_at p k o
  pub monos : b.monos.items ≡ monos_in (polynomials_at p d k o)
  pub part_kinds : AllByRecursion (IsPart (places_of p o) 2) b.parts.items
  pub rest_kind : IsPart (places_of p o) 1 b.rest
  pub product_kinds : All (IsProduct (places_of p o) k) b.products.items
