use Rattle.dc_poly.proofs.Substitution.{Round}
use Rattle.dc_poly.proofs.polynomial.Poly.subst.Given as goal

abbrev pub invariant-terms : goal.invariant-terms
invariant-terms l = Round l.places l.k l.list l.values l.terms.items

abbrev pub decreases-terms : goal.decreases-terms
decreases-terms l = l.k
