use Rattle.std.proofs.Common.{◌∙◌, ap, length}
use Rattle.std.specs.Bool.{◌==◌}
use Rattle.std.proofs.lemmas.Bool.{false≢true}
use Rattle.dc_duties.proofs.AtStates.{part_made}
use Rattle.dc_duties.proofs.states.at_state.Goals as goal

pub returns-clause-part : goal.returns-clause-part
returns-clause-part c = part_made c.args.places c.args.mono.now c.args.state.now c.template_column.result c.requires.low (λ e. false≢true (c.if-is_empty.ensures ∙ ap (λ s. length s == 0) e)) c.requires.same_places c.template_column.ensures.places c.template_column.ensures.kind c.template_column.ensures.weight
