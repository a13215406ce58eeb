use Rattle.std.proofs.Common.{ap₂, sym, subst}
use Rattle.dc_poly.specs.Terms.{polynomial, Places}
use Rattle.dc_poly.proofs.Canon.{canonical_unique}
use Rattle.dc_poly.proofs.Unique.{values_unique}
use Rattle.dc_poly.proofs.laws.equal_values_are_equal_lists.Goals as goal

pub returns-clause-values : goal.returns-clause-values
returns-clause-values c p q h k e g =
    ap₂ polynomial e (values_unique p.places p.terms q.terms h.in_order k.in_order h.padded (subst (λ n. Places n q.terms) (sym e) k.padded) g)

pub returns-clause-coefficients : goal.returns-clause-coefficients
returns-clause-coefficients c p q h k e g = ap₂ polynomial e (canonical_unique p.terms q.terms h.in_order k.in_order g)
