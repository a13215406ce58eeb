use Rattle.std.proofs.Common.{◌∙◌, ap, sym, length, ◌+◌}
use Rattle.dc_poly.specs.Sums.{values}
use Rattle.dc_poly.specs.Terms.{mono_value}
use Rattle.dc_duties.proofs.AtStates.{length-variables, is_before, normal_variables, places_variables}
use Rattle.dc_duties.proofs.Sides.{ok_so, ok_both, when_not, when_is}
use Rattle.dc_claims.specs.Parts.{before}
use Rattle.dc_duties.proofs.parts.before.Goals as goal

pub returns-then-location-edge-clause-terms : goal.returns-then-location-edge-clause-terms
returns-then-location-edge-clause-terms c = ok_so c.nothing.result (λ p e. e ∙ when_not c.args.location c.args.edge.now.from (before c.args.mono.now) c.if-location-edge.true) c.nothing.ensures.terms

pub at_state-requires-clause-one_each : goal.at_state-requires-clause-one_each
at_state-requires-clause-one_each c = ap length (c.as_slice.ensures.value ∙ c.in_ok-state.ensures) ∙ length-variables c.args.vars (c.args.vars + 1) ∙ sym c.requires.long

pub at_state-requires-clause-normal : goal.at_state-requires-clause-normal
at_state-requires-clause-normal c = normal_variables c.args.vars (c.args.vars + 1) c.as_slice.result.now (c.as_slice.ensures.value ∙ c.in_ok-state.ensures)

pub at_state-requires-clause-same_places : goal.at_state-requires-clause-same_places
at_state-requires-clause-same_places c = places_variables c.args.vars (c.args.vars + 1) c.as_slice.result.now (c.as_slice.ensures.value ∙ c.in_ok-state.ensures)

pub returns-clause-terms : goal.returns-clause-terms
returns-clause-terms c = ok_both c.at_state.result (λ p h v. is_before 1 p c.args.mono.now c.args.vars c.requires.long h (λ xs. v xs ∙ ap (λ s. mono_value c.args.mono.now (values s xs)) (c.as_slice.ensures.value ∙ c.in_ok-state.ensures)) ∙ when_is c.args.location c.args.edge.now.from (before c.args.mono.now) c.if-location-edge.false) c.at_state.ensures.part c.at_state.ensures.value
