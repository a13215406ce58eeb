use Rattle.std.proofs.Common.{◌∙◌, ap, ap₂, sym, subst, arith, refl, [], ◌∷◌, ◌+◌, ◌≤◌, length}
use Rattle.dc_poly.specs.Terms.{Polynomial, TermList}
use Rattle.dc_claims.specs.Duties.{places_of, system_of, edge_at, atoms_of, IsThere}
use Rattle.dc_claims.specs.Parts.{bound_part, part_at, rest_of}
use Rattle.dc_duties.specs.Lent.{lent, cost_at}
use Rattle.dc_system.specs.declared.edges.System.{System}
use Rattle.dc_system.specs.Shapes.{IsEdge, IsForm}
use Rattle.dc_duties.proofs.Sides.{ok_so, ok_both, wider, part_at_places, foreign_along, foreign_exit, own_along, own_exit, entry_part, well_formed, params_below, cost_is}
use Rattle.dc_duties.proofs.parts.rest.Goals as goal

pub edge-requires-clause-there : goal.edge-requires-clause-there
edge-requires-clause-there c = subst (IsThere (lent c.args.programs.now)) c.in-Along.is c.requires.there

pub cost-requires : goal.cost-requires
cost-requires c = subst (λ n. IsForm n c.edge.result.now.cost) (sym (c.places-places.ensures.places ∙ ap (places_of (lent c.args.programs.now)) c.in-Along.is)) c.edge.ensures.kind.cost

pub returns-in-Along-clause-terms : goal.returns-in-Along-clause-terms
returns-in-Along-clause-terms c = ok_so c.cost.result (λ p e. e ∙ cost_is (lent c.args.programs.now) c.args.duty.now c.in-Along.side c.in-Along.number c.edge.result.now c.in-Along.is c.edge.ensures.edge) c.cost.ensures.terms

pub returns-in-Along-clause-part : goal.returns-in-Along-clause-part
returns-in-Along-clause-part c = ok_so c.cost.result (λ p h. part_at_places _ _ 1 p c.places-places.ensures.places h) c.cost.ensures.part

pub returns-in-AtExit-clause-terms : goal.returns-in-AtExit-clause-terms
returns-in-AtExit-clause-terms c = ok_so c.nothing.result (λ p e. e ∙ sym (ap (rest_of (lent c.args.programs.now)) c.in-AtExit.is)) c.nothing.ensures.terms

pub returns-in-AtExit-clause-part : goal.returns-in-AtExit-clause-part
returns-in-AtExit-clause-part c = ok_so c.nothing.result (λ p h. part_at_places _ _ 1 p c.places-places.ensures.places h) c.nothing.ensures.part

pub returns-in-AtEntry-clause-terms : goal.returns-in-AtEntry-clause-terms
returns-in-AtEntry-clause-terms c = ok_so c.nothing-in-AtEntry.result (λ p e. e ∙ sym (ap (rest_of (lent c.args.programs.now)) c.in-AtEntry.is)) c.nothing-in-AtEntry.ensures.terms

pub returns-in-AtEntry-clause-part : goal.returns-in-AtEntry-clause-part
returns-in-AtEntry-clause-part c = ok_so c.nothing-in-AtEntry.result (λ p h. part_at_places _ _ 1 p c.places-places.ensures.places h) c.nothing-in-AtEntry.ensures.part
