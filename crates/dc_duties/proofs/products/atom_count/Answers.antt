use Rattle.std.proofs.Common.{◌∙◌, ap, ap₂, sym, subst, arith, refl, [], ◌∷◌, ◌+◌, ◌≤◌, length}
use Rattle.dc_poly.specs.Terms.{Polynomial, TermList}
use Rattle.dc_claims.specs.Duties.{places_of, system_of, edge_at, atoms_of, IsThere}
use Rattle.dc_claims.specs.Parts.{bound_part, part_at, rest_of}
use Rattle.dc_duties.specs.Lent.{lent, cost_at}
use Rattle.dc_system.specs.declared.edges.System.{System}
use Rattle.dc_system.specs.Shapes.{IsEdge, IsForm}
use Rattle.std.proofs.Common.{◌++◌, ◌-◌}
use Rattle.dc_claims.specs.Duties.{edge_atoms, atoms_at}
use Rattle.dc_system.specs.declared.edges.Edge.{Edge}
use Rattle.dc_duties.proofs.Sides.{ok_so}
use Rattle.std.proofs.Common.{length-append}
use Rattle.dc_duties.proofs.products.atom_count.Goals as goal

pub atoms-requires-clause-there : goal.atoms-requires-clause-there
atoms-requires-clause-there c = c.edge-edge.ensures.ends.from

pub atoms-requires-in-AtExit-clause-there : goal.atoms-requires-in-AtExit-clause-there
atoms-requires-in-AtExit-clause-there c = (let e = ap (λ (s : System). s.locs) c.system.ensures.system in let h = c.system.ensures.formed.some_location in omega arith)

pub case-requires-clause-there : goal.case-requires-clause-there
case-requires-clause-there c = subst (IsThere (lent c.args.programs.now)) c.in-AtEntry.is c.requires.there

pub returns-in-Along-clause-count : goal.returns-in-Along-clause-count
returns-in-Along-clause-count c = ap₂ (λ x y. length x + y) c.atoms.ensures.atoms c.len.ensures ∙ sym (length-append (atoms_at (lent c.args.programs.now) c.in-Along.side c.edge-edge.result.now.from) c.edge-edge.result.now.guard) ∙ ap length (ap (edge_atoms (lent c.args.programs.now) c.in-Along.side) c.edge-edge.ensures.edge ∙ sym (ap (atoms_of (lent c.args.programs.now)) c.in-Along.is))

pub returns-in-AtExit-clause-count : goal.returns-in-AtExit-clause-count
returns-in-AtExit-clause-count c = ap length (c.atoms-in-AtExit.ensures.atoms ∙ ap (λ (s : System). atoms_at (lent c.args.programs.now) c.in-AtExit.side (s.locs - 1)) c.system.ensures.system ∙ sym (ap (atoms_of (lent c.args.programs.now)) c.in-AtExit.is))

pub returns-in-AtEntry-clause-count : goal.returns-in-AtEntry-clause-count
returns-in-AtEntry-clause-count c = ap length (c.case.ensures.atoms ∙ sym (ap (atoms_of (lent c.args.programs.now)) c.in-AtEntry.is))

pub returns-in-Along-clause-few : goal.returns-in-Along-clause-few
returns-in-Along-clause-few c = (let a = c.atoms.ensures.few in let b = c.edge-edge.ensures.kind.few_atoms in let e = c.len.ensures in omega arith)

pub returns-in-AtExit-clause-few : goal.returns-in-AtExit-clause-few
returns-in-AtExit-clause-few c = (let a = c.atoms-in-AtExit.ensures.few in omega arith)

pub returns-in-AtEntry-clause-few : goal.returns-in-AtEntry-clause-few
returns-in-AtEntry-clause-few c = (let a = c.case.ensures.few in omega arith)
