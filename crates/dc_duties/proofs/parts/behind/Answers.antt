use Rattle.std.proofs.Common.{◌∙◌, ap, sym, subst, length, ◌+◌}
use Rattle.dc_poly.specs.Sums.{values}
use Rattle.dc_poly.specs.Terms.{mono_value, Polynomial}
use Rattle.std.specs.Prelude.{All}
use Rattle.dc_poly.specs.NormalForm.{IsNormalForm}
use Rattle.dc_poly.specs.Conditions.{HavePlaces}
use Rattle.dc_duties.proofs.AtStates.{is_behind}
use Rattle.dc_duties.proofs.Sides.{ok_so, ok_both, when_not, when_is, all_normal}
use Rattle.dc_claims.specs.Parts.{behind}
use Rattle.dc_duties.proofs.parts.behind.Goals as goal
use Rattle.dc_system.proofs.FormSteps.{have_places}

pub returns-then-location-edge-clause-terms : goal.returns-then-location-edge-clause-terms
returns-then-location-edge-clause-terms c = ok_so c.nothing.result (λ p e. e ∙ when_not c.args.location c.args.edge.now.to (behind c.args.vars c.args.edge.now c.args.mono.now) c.if-location-edge.true) c.nothing.ensures.terms

pub at_state-requires-clause-one_each : goal.at_state-requires-clause-one_each
at_state-requires-clause-one_each c = ap length c.as_slice.ensures ∙ c.requires.edge.one_each ∙ sym c.requires.long

pub at_state-requires-clause-normal : goal.at_state-requires-clause-normal
at_state-requires-clause-normal c = subst (All (λ (u : Polynomial). IsNormalForm u.terms)) (sym c.as_slice.ensures) (all_normal (c.args.vars + 1) c.args.edge.now.update c.requires.edge.updates)

pub at_state-requires-clause-same_places : goal.at_state-requires-clause-same_places
at_state-requires-clause-same_places c = subst (HavePlaces (c.args.vars + 1)) (sym c.as_slice.ensures) (have_places (c.args.vars + 1) c.args.edge.now.update c.requires.edge.updates)

pub returns-clause-terms : goal.returns-clause-terms
returns-clause-terms c = ok_both c.at_state.result (λ p h v. is_behind 1 p c.args.vars c.args.edge.now c.args.mono.now c.requires.edge h (λ xs. v xs ∙ ap (λ s. mono_value c.args.mono.now (values s xs)) c.as_slice.ensures) ∙ when_is c.args.location c.args.edge.now.to (behind c.args.vars c.args.edge.now c.args.mono.now) c.if-location-edge.false) c.at_state.ensures.part c.at_state.ensures.value
