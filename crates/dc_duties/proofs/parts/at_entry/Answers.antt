use Rattle.std.proofs.Common.{◌∙◌, ap, sym, arith, length}
use Rattle.dc_poly.specs.Sums.{values, negated}
use Rattle.dc_poly.specs.Terms.{mono_value, Polynomial}
use Rattle.std.proofs.Common.{◌-◌}
use Rattle.dc_duties.proofs.AtStates.{is_at_inputs, length-starting, normal_starting, places_starting}
use Rattle.dc_duties.proofs.Sides.{entry_not, ok_so, ok_both, when_is, part_negated}
use Rattle.dc_claims.specs.Parts.{at_inputs, part_at_entry}
use Rattle.dc_duties.proofs.parts.at_entry.Goals as goal

pub returns-then-location-ne0-clause-terms : goal.returns-then-location-ne0-clause-terms
returns-then-location-ne0-clause-terms c = ok_so c.nothing.result (λ p e. e ∙ entry_not c.args.side c.args.params c.args.location c.args.mono.now c.if-location-ne0.true) c.nothing.ensures.terms

pub at_state-requires-clause-one_each : goal.at_state-requires-clause-one_each
at_state-requires-clause-one_each c = ap length (c.as_slice.ensures.value ∙ c.in_ok-state.ensures) ∙ length-starting c.args.params (length c.exponents.result.now - c.args.params) ∙ (let e = ap length c.exponents.ensures.value in let h = c.requires.params in omega arith)

pub at_state-requires-clause-normal : goal.at_state-requires-clause-normal
at_state-requires-clause-normal c = normal_starting c.args.params (length c.exponents.result.now - c.args.params) c.as_slice.result.now (c.as_slice.ensures.value ∙ c.in_ok-state.ensures)

pub at_state-requires-clause-same_places : goal.at_state-requires-clause-same_places
at_state-requires-clause-same_places c = places_starting c.args.params (length c.exponents.result.now - c.args.params) c.as_slice.result.now (c.as_slice.ensures.value ∙ c.in_ok-state.ensures)

pub returns-in-New-clause-terms : goal.returns-in-New-clause-terms
returns-in-New-clause-terms c = ok_so c.neg.result (λ p e. ap (λ (q : Polynomial). q.terms) e ∙ ap negated (is_at_inputs 1 c.in_ok-own.own c.args.mono.now c.args.params (length c.exponents.result.now - c.args.params) c.requires.params c.in_ok-own.ensures.part (λ xs. c.in_ok-own.ensures.value xs ∙ ap (λ s. mono_value c.args.mono.now (values s xs)) (c.as_slice.ensures.value ∙ c.in_ok-state.ensures)) ∙ when_is c.args.location 0 (at_inputs c.args.params c.args.mono.now) c.if-location-ne0.false) ∙ sym (ap (λ s. part_at_entry s c.args.params c.args.location c.args.mono.now) c.in-New.is)) c.neg.ensures.negation

pub returns-in-New-clause-part : goal.returns-in-New-clause-part
returns-in-New-clause-part c = ok_both c.neg.result (λ p e k. part_negated c.args.params 1 c.in_ok-own.own p c.in_ok-own.ensures.part e k) c.neg.ensures.negation c.neg.ensures.kind

pub returns-clause-terms : goal.returns-clause-terms
returns-clause-terms c = (is_at_inputs 1 c.in_ok-own.own c.args.mono.now c.args.params (length c.exponents.result.now - c.args.params) c.requires.params c.in_ok-own.ensures.part (λ xs. c.in_ok-own.ensures.value xs ∙ ap (λ s. mono_value c.args.mono.now (values s xs)) (c.as_slice.ensures.value ∙ c.in_ok-state.ensures)) ∙ when_is c.args.location 0 (at_inputs c.args.params c.args.mono.now) c.if-location-ne0.false) ∙ sym (ap (λ s. part_at_entry s c.args.params c.args.location c.args.mono.now) c.in-Old.is)

pub returns-clause-part : goal.returns-clause-part
returns-clause-part c = c.in_ok-own.ensures.part
