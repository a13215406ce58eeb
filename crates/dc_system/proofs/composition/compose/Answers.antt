use Rattle.dc_system.proofs.Composing.{compose_crosses}
use Rattle.dc_system.proofs.composition.compose.Goals as goal

pub returns-clause-crosses : goal.returns-clause-crosses
returns-clause-crosses c = compose_crosses c.args.vars c.args.first.now c.args.second.now c.in_ok-composed.composed c.requires.first c.requires.second c.in_ok-composed.ensures
