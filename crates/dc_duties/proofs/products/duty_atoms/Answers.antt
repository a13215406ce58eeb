use Rattle.std.proofs.Common.{◌∙◌, ap, ap₂, sym, subst, arith, refl, [], ◌∷◌, ◌+◌, ◌≤◌, length}
use Rattle.dc_poly.specs.Terms.{Polynomial, TermList}
use Rattle.dc_claims.specs.Duties.{places_of, system_of, edge_at, atoms_of, IsThere}
use Rattle.dc_claims.specs.Parts.{bound_part, part_at, rest_of}
use Rattle.dc_duties.specs.Lent.{lent, cost_at}
use Rattle.dc_system.specs.declared.edges.System.{System}
use Rattle.dc_system.specs.Shapes.{IsEdge, IsForm}
use Rattle.std.proofs.Common.{◌++◌, ◌-◌}
use Rattle.dc_claims.specs.Duties.{edge_atoms, atoms_at}
use Rattle.dc_system.specs.declared.edges.Edge.{Edge}
use Rattle.dc_duties.proofs.Sides.{ok_so}
use Rattle.dc_duties.proofs.products.duty_atoms.Goals as goal

pub atoms-requires-clause-there : goal.atoms-requires-clause-there
atoms-requires-clause-there c = c.edge-edge.ensures.ends.from

pub atoms-requires-in-AtExit-clause-there : goal.atoms-requires-in-AtExit-clause-there
atoms-requires-in-AtExit-clause-there c = (let e = ap (λ (s : System). s.locs) c.system.ensures.system in let h = c.system.ensures.formed.some_location in omega arith)

pub case-requires-clause-there : goal.case-requires-clause-there
case-requires-clause-there c = subst (IsThere (lent c.args.programs.now)) c.in-AtEntry.is c.requires.there

pub returns-in-Along : goal.returns-in-Along
returns-in-Along c = ok_so c.join.result (λ v e. e ∙ ap₂ ◌++◌ c.atoms.ensures.atoms c.as_slice.ensures ∙ ap (edge_atoms (lent c.args.programs.now) c.in-Along.side) c.edge-edge.ensures.edge ∙ sym (ap (atoms_of (lent c.args.programs.now)) c.in-Along.is)) c.join.ensures

pub returns-in-AtExit : goal.returns-in-AtExit
returns-in-AtExit c = ok_so c.copies.result (λ v e. e ∙ c.atoms-in-AtExit.ensures.atoms ∙ ap (λ (s : System). atoms_at (lent c.args.programs.now) c.in-AtExit.side (s.locs - 1)) c.system.ensures.system ∙ sym (ap (atoms_of (lent c.args.programs.now)) c.in-AtExit.is)) c.copies.ensures

pub returns-in-AtEntry : goal.returns-in-AtEntry
returns-in-AtEntry c = ok_so c.copies-in-AtEntry.result (λ v e. e ∙ c.case.ensures.atoms ∙ sym (ap (atoms_of (lent c.args.programs.now)) c.in-AtEntry.is)) c.copies-in-AtEntry.ensures
