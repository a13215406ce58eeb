use Rattle.std.proofs.Common.{◌∙◌, ap, ap₂, sym, subst, arith, refl, [], ◌∷◌, ◌+◌, ◌≤◌, length}
use Rattle.dc_poly.specs.Terms.{Polynomial, TermList}
use Rattle.dc_claims.specs.Duties.{places_of, system_of, edge_at, atoms_of, IsThere}
use Rattle.dc_claims.specs.Parts.{bound_part, part_at, rest_of}
use Rattle.dc_duties.specs.Lent.{lent, cost_at}
use Rattle.dc_system.specs.declared.edges.System.{System}
use Rattle.dc_system.specs.Shapes.{IsEdge, IsForm}
use Rattle.dc_duties.proofs.Sides.{ok_so, ok_both, wider, part_at_places, foreign_along, foreign_exit, own_along, own_exit, entry_part, well_formed, params_below, cost_is}
use Rattle.dc_duties.proofs.parts.coefficient.Goals as goal

pub returns-then-is_other-clause-terms : goal.returns-then-is_other-clause-terms
returns-then-is_other-clause-terms c = ok_so c.nothing.result (λ p e. e ∙ foreign_along (lent c.args.programs.now) c.args.duty.now c.in-Along.own c.args.side c.args.location c.args.mono.now c.in-Along.number c.in-Along.is c.if-is_other.ensures) c.nothing.ensures.terms

pub returns-then-is_other-clause-part : goal.returns-then-is_other-clause-part
returns-then-is_other-clause-part c = ok_so c.nothing.result (λ p h. wider _ p (part_at_places _ _ 1 p c.places-places.ensures.places h)) c.nothing.ensures.part

pub along-requires-clause-few : goal.along-requires-clause-few
along-requires-clause-few c = (let a = (ap length c.exponents.ensures.value ∙ c.requires.mono.long) in let h = (well_formed c.args.programs.now c.requires.pair c.args.side).few_vars in omega arith)

pub along-requires-clause-edge : goal.along-requires-clause-edge
along-requires-clause-edge c = subst (λ n. IsEdge n c.edge-edge.result.now) (ap (λ w. (system_of (lent c.args.programs.now) w).vars) c.if-is_other.ensures ∙ sym (ap length c.exponents.ensures.value ∙ c.requires.mono.long)) c.edge-edge.ensures.kind

pub along-requires-clause-low : goal.along-requires-clause-low
along-requires-clause-low c = c.requires.mono.low

pub along-requires-clause-long : goal.along-requires-clause-long
along-requires-clause-long c = sym (ap length c.exponents.ensures.value)

pub returns-then-is_other-2-clause-terms : goal.returns-then-is_other-2-clause-terms
returns-then-is_other-2-clause-terms c = ok_so c.nothing-then-is_other-2.result (λ p e. e ∙ foreign_exit (lent c.args.programs.now) c.args.duty.now c.in-AtExit.own c.args.side c.args.location c.args.mono.now c.in-AtExit.is c.if-is_other-2.ensures) c.nothing-then-is_other-2.ensures.terms

pub returns-then-is_other-2-clause-part : goal.returns-then-is_other-2-clause-part
returns-then-is_other-2-clause-part c = ok_so c.nothing-then-is_other-2.result (λ p h. wider _ p (part_at_places _ _ 1 p c.places-places.ensures.places h)) c.nothing-then-is_other-2.ensures.part

pub at_exit-requires-clause-few : goal.at_exit-requires-clause-few
at_exit-requires-clause-few c = c.system.ensures.formed.few_vars

pub at_exit-requires-clause-some : goal.at_exit-requires-clause-some
at_exit-requires-clause-some c = c.system.ensures.formed.some_location

pub at_exit-requires-clause-low : goal.at_exit-requires-clause-low
at_exit-requires-clause-low c = c.requires.mono.low

pub at_exit-requires-clause-long : goal.at_exit-requires-clause-long
at_exit-requires-clause-long c = c.requires.mono.long ∙ ap (λ w. (system_of (lent c.args.programs.now) w).vars) (sym c.if-is_other-2.ensures) ∙ sym (ap (λ (s : System). s.vars) c.system.ensures.system)

pub at_entry-requires-clause-few : goal.at_entry-requires-clause-few
at_entry-requires-clause-few c = (let a = c.requires.mono.long in let h = (well_formed c.args.programs.now c.requires.pair c.args.side).few_vars in omega arith)

pub at_entry-requires-clause-params : goal.at_entry-requires-clause-params
at_entry-requires-clause-params c = (let a = c.requires.mono.long in let h = params_below c.args.programs.now c.requires.pair c.args.side in let e = c.places-places.ensures.places ∙ ap (places_of (lent c.args.programs.now)) c.in-AtEntry.is in omega arith)

pub at_entry-requires-clause-low : goal.at_entry-requires-clause-low
at_entry-requires-clause-low c = c.requires.mono.low

pub returns-else-is_other-clause-terms : goal.returns-else-is_other-clause-terms
returns-else-is_other-clause-terms c = ok_so c.along.result (λ p e. e ∙ own_along (lent c.args.programs.now) c.args.duty.now c.in-Along.own c.args.side c.args.location c.args.mono.now c.in-Along.number (length c.exponents.result.now) c.edge-edge.result.now c.in-Along.is c.if-is_other.ensures (ap length c.exponents.ensures.value ∙ c.requires.mono.long) c.edge-edge.ensures.edge) c.along.ensures.terms

pub returns-else-is_other-clause-part : goal.returns-else-is_other-clause-part
returns-else-is_other-clause-part c = ok_so c.along.result (λ p h. part_at_places _ _ 2 p (ap (λ n. n + 1) ((ap length c.exponents.ensures.value ∙ c.requires.mono.long) ∙ ap (λ w. (system_of (lent c.args.programs.now) w).vars) (sym c.if-is_other.ensures)) ∙ sym (ap (places_of (lent c.args.programs.now)) c.in-Along.is)) h) c.along.ensures.part

pub returns-else-is_other-2-clause-terms : goal.returns-else-is_other-2-clause-terms
returns-else-is_other-2-clause-terms c = ok_so c.at_exit.result (λ p e. e ∙ own_exit (lent c.args.programs.now) c.args.duty.now c.in-AtExit.own c.args.side c.args.location c.args.mono.now c.system.result.now c.in-AtExit.is c.if-is_other-2.ensures c.system.ensures.system) c.at_exit.ensures.terms

pub returns-else-is_other-2-clause-part : goal.returns-else-is_other-2-clause-part
returns-else-is_other-2-clause-part c = ok_so c.at_exit.result (λ p h. wider _ p (part_at_places _ _ 1 p (ap (λ (s : System). s.vars) c.system.ensures.system ∙ sym (ap (places_of (lent c.args.programs.now)) c.in-AtExit.is)) h)) c.at_exit.ensures.part

pub returns-in-AtEntry-clause-terms : goal.returns-in-AtEntry-clause-terms
returns-in-AtEntry-clause-terms c = ok_so c.at_entry.result (λ p e. e ∙ entry_part (lent c.args.programs.now) c.args.duty.now c.args.side c.args.location c.places-places.result _ c.args.mono.now c.in-AtEntry.is c.places-places.ensures.places) c.at_entry.ensures.terms

pub returns-in-AtEntry-clause-part : goal.returns-in-AtEntry-clause-part
returns-in-AtEntry-clause-part c = ok_so c.at_entry.result (λ p h. wider _ p (part_at_places _ _ 1 p c.places-places.ensures.places h)) c.at_entry.ensures.part
