use Rattle.std.proofs.Common.{◌∙◌, ap, ap₂, sym, subst, arith, refl, [], ◌∷◌, ◌+◌, ◌≤◌, length}
use Rattle.dc_poly.specs.Terms.{Polynomial, TermList}
use Rattle.dc_claims.specs.Duties.{places_of, system_of, edge_at, atoms_of, IsThere}
use Rattle.dc_claims.specs.Parts.{bound_part, part_at, rest_of}
use Rattle.dc_duties.specs.Lent.{lent, cost_at}
use Rattle.dc_system.specs.declared.edges.System.{System}
use Rattle.dc_system.specs.Shapes.{IsEdge, IsForm}
use Rattle.dc_claims.specs.Claims.{monomials_at}
use Rattle.dc_claims.specs.Parts.{part_of}
use Rattle.dc_duties.specs.Tasks.{IsUnknown}
use Rattle.dc_duties.specs.Sizes.{IsCoefficientOf}
use Rattle.std.proofs.Common.{◌<◌}
use Rattle.dc_duties.proofs.Sides.{ok_so, indexed}
use Rattle.dc_duties.proofs.Unknowing.{coefficient_of}
use Rattle.dc_duties.proofs.parts.part.Goals as goal

pub monomials-requires : goal.monomials-requires
monomials-requires c = c.requires.task

pub bounds-monomials-number : goal.bounds-monomials-number
bounds-monomials-number c = subst (λ ms. c.in-Coefficient.number < length ms) (sym c.monomials.ensures) (subst (IsUnknown c.args.task.now) c.in-Coefficient.is c.requires.unknown)

pub coefficient-requires-clause-mono : goal.coefficient-requires-clause-mono
coefficient-requires-clause-mono c = subst (IsCoefficientOf (lent c.args.task.now.programs.now) c.in-Coefficient.side) (sym (indexed c.monomials.result.now (monomials_at (lent c.args.task.now.programs.now) c.args.task.now.degree c.in-Coefficient.side) c.in-Coefficient.number c.index-monomials-number.result [] c.monomials.ensures (subst (IsUnknown c.args.task.now) c.in-Coefficient.is c.requires.unknown) c.index-monomials-number.is)) (coefficient_of (lent c.args.task.now.programs.now) c.args.task.now.degree c.in-Coefficient.side c.in-Coefficient.number c.requires.task.low (subst (IsUnknown c.args.task.now) c.in-Coefficient.is c.requires.unknown))

pub returns-in-Bound-clause-terms : goal.returns-in-Bound-clause-terms
returns-in-Bound-clause-terms c = ok_so c.bound.result (λ p e. e ∙ sym (ap (part_of (lent c.args.task.now.programs.now) c.args.task.now.degree c.args.duty.now) c.in-Bound.is)) c.bound.ensures.terms

pub returns-in-Bound-clause-part : goal.returns-in-Bound-clause-part
returns-in-Bound-clause-part c = c.bound.ensures.part

pub returns-in-Coefficient-clause-terms : goal.returns-in-Coefficient-clause-terms
returns-in-Coefficient-clause-terms c = ok_so c.coefficient.result (λ p e. e ∙ ap (part_at (lent c.args.task.now.programs.now) c.args.duty.now c.in-Coefficient.side c.in-Coefficient.location) (indexed c.monomials.result.now (monomials_at (lent c.args.task.now.programs.now) c.args.task.now.degree c.in-Coefficient.side) c.in-Coefficient.number c.index-monomials-number.result [] c.monomials.ensures (subst (IsUnknown c.args.task.now) c.in-Coefficient.is c.requires.unknown) c.index-monomials-number.is) ∙ sym (ap (part_of (lent c.args.task.now.programs.now) c.args.task.now.degree c.args.duty.now) c.in-Coefficient.is)) c.coefficient.ensures.terms

pub returns-in-Coefficient-clause-part : goal.returns-in-Coefficient-clause-part
returns-in-Coefficient-clause-part c = c.coefficient.ensures.part
