use Rattle.dc_graph.proofs.Inside.{edges_inside}
use Rattle.dc_graph.proofs.laws.edges_stay_inside.Goals as goal

pub returns : goal.returns
returns c = edges_inside
