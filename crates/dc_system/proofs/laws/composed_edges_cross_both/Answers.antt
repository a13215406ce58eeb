use Rattle.dc_system.proofs.Crossings.{composed_crosses}
use Rattle.dc_system.proofs.Composite.{compose_edge}
use Rattle.dc_system.proofs.laws.composed_edges_cross_both.Goals as goal

pub returns-clause-crosses : goal.returns-clause-crosses
returns-clause-crosses c = composed_crosses

pub returns-clause-edge : goal.returns-clause-edge
returns-clause-edge c = compose_edge
