use Rattle.std.proofs.Common.{◌∙◌, ap, sym, subst, arith, refl, [], ◌∷◌, ◌+◌, ◌≤◌, length}
use Rattle.dc_poly.specs.Terms.{Polynomial, TermList}
use Rattle.dc_claims.specs.Duties.{places_of, system_of, edge_at, atoms_of}
use Rattle.dc_claims.specs.Parts.{bound_part, part_at, rest_of}
use Rattle.dc_duties.specs.Lent.{lent, cost_at}
use Rattle.dc_duties.proofs.Sides.{entry_bound, ok_so, ok_both, wider, part_at_places, part_negated, can_subtract, difference_part, difference_terms, form_part, when_not, when_is}
use Rattle.dc_duties.proofs.parts.bound.Goals as goal

pub returns-in-Along-clause-terms : goal.returns-in-Along-clause-terms
returns-in-Along-clause-terms c = ok_so c.nothing.result (λ p e. e ∙ sym (ap (bound_part (lent c.args.programs.now)) c.in-Along.is)) c.nothing.ensures.terms

pub returns-in-Along-clause-part : goal.returns-in-Along-clause-part
returns-in-Along-clause-part c = ok_so c.nothing.result (λ p h. wider _ p (part_at_places _ _ 1 p c.places-places.ensures.places h)) c.nothing.ensures.part

pub returns-in-AtExit-clause-terms : goal.returns-in-AtExit-clause-terms
returns-in-AtExit-clause-terms c = ok_so c.nothing-in-AtExit.result (λ p e. e ∙ sym (ap (bound_part (lent c.args.programs.now)) c.in-AtExit.is)) c.nothing-in-AtExit.ensures.terms

pub returns-in-AtExit-clause-part : goal.returns-in-AtExit-clause-part
returns-in-AtExit-clause-part c = ok_so c.nothing-in-AtExit.result (λ p h. wider _ p (part_at_places _ _ 1 p c.places-places.ensures.places h)) c.nothing-in-AtExit.ensures.part

pub returns-in-AtEntry-clause-terms : goal.returns-in-AtEntry-clause-terms
returns-in-AtEntry-clause-terms c = ok_so c.one.result (λ p e. e ∙ entry_bound (lent c.args.programs.now) c.args.duty.now _ _ c.places-places.ensures.places c.in-AtEntry.is) c.one.ensures.terms

pub returns-in-AtEntry-clause-part : goal.returns-in-AtEntry-clause-part
returns-in-AtEntry-clause-part c = ok_so c.one.result (λ p h. wider _ p (part_at_places _ _ 1 p c.places-places.ensures.places h)) c.one.ensures.part
