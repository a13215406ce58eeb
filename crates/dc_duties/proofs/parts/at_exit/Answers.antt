use Rattle.std.proofs.Common.{◌∙◌, ap, sym, length}
use Rattle.dc_poly.specs.Sums.{values, negated}
use Rattle.dc_poly.specs.Terms.{mono_value, Polynomial}
use Rattle.dc_duties.proofs.AtStates.{length-variables, is_itself, normal_variables, places_variables}
use Rattle.dc_duties.proofs.Sides.{exit_not, ok_so, ok_both, when_is, part_negated}
use Rattle.dc_claims.specs.Parts.{itself, part_at_exit}
use Rattle.dc_claims.specs.Duties.{exit_of}
use Rattle.dc_duties.proofs.parts.at_exit.Goals as goal

pub returns-then-location-system-clause-terms : goal.returns-then-location-system-clause-terms
returns-then-location-system-clause-terms c = ok_so c.nothing.result (λ p e. e ∙ exit_not c.args.side (exit_of c.args.system.now) c.args.location c.args.mono.now c.if-location-system.true) c.nothing.ensures.terms

pub at_state-requires-clause-one_each : goal.at_state-requires-clause-one_each
at_state-requires-clause-one_each c = ap length (c.as_slice.ensures.value ∙ c.in_ok-state.ensures) ∙ length-variables c.args.system.now.vars c.args.system.now.vars ∙ sym c.requires.long

pub at_state-requires-clause-normal : goal.at_state-requires-clause-normal
at_state-requires-clause-normal c = normal_variables c.args.system.now.vars c.args.system.now.vars c.as_slice.result.now (c.as_slice.ensures.value ∙ c.in_ok-state.ensures)

pub at_state-requires-clause-same_places : goal.at_state-requires-clause-same_places
at_state-requires-clause-same_places c = places_variables c.args.system.now.vars c.args.system.now.vars c.as_slice.result.now (c.as_slice.ensures.value ∙ c.in_ok-state.ensures)

pub returns-in-New-clause-terms : goal.returns-in-New-clause-terms
returns-in-New-clause-terms c = (is_itself 1 c.in_ok-own.own c.args.mono.now c.args.system.now.vars c.requires.long c.in_ok-own.ensures.part (λ xs. c.in_ok-own.ensures.value xs ∙ ap (λ s. mono_value c.args.mono.now (values s xs)) (c.as_slice.ensures.value ∙ c.in_ok-state.ensures)) ∙ when_is c.args.location (exit_of c.args.system.now) (itself c.args.mono.now) c.if-location-system.false) ∙ sym (ap (λ s. part_at_exit s (exit_of c.args.system.now) c.args.location c.args.mono.now) c.in-New.is)

pub returns-in-New-clause-part : goal.returns-in-New-clause-part
returns-in-New-clause-part c = c.in_ok-own.ensures.part

pub returns-clause-terms : goal.returns-clause-terms
returns-clause-terms c = ok_so c.neg.result (λ p e. ap (λ (q : Polynomial). q.terms) e ∙ ap negated (is_itself 1 c.in_ok-own.own c.args.mono.now c.args.system.now.vars c.requires.long c.in_ok-own.ensures.part (λ xs. c.in_ok-own.ensures.value xs ∙ ap (λ s. mono_value c.args.mono.now (values s xs)) (c.as_slice.ensures.value ∙ c.in_ok-state.ensures)) ∙ when_is c.args.location (exit_of c.args.system.now) (itself c.args.mono.now) c.if-location-system.false) ∙ sym (ap (λ s. part_at_exit s (exit_of c.args.system.now) c.args.location c.args.mono.now) c.in-Old.is)) c.neg.ensures.negation

pub returns-clause-part : goal.returns-clause-part
returns-clause-part c = ok_both c.neg.result (λ p e k. part_negated c.args.system.now.vars 1 c.in_ok-own.own p c.in_ok-own.ensures.part e k) c.neg.ensures.negation c.neg.ensures.kind
