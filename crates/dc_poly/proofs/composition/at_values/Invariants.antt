use Rattle.dc_poly.proofs.Substitution.{Stage}
use Rattle.dc_poly.proofs.composition.at_values.Given as goal

abbrev pub invariant-places : goal.invariant-places
invariant-places l = Stage l.places l.k l.term.coef l.exponents l.values l.product.items

abbrev pub decreases-places : goal.decreases-places
decreases-places l = l.k
