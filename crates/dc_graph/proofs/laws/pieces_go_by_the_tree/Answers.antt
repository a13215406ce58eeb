use Rattle.dc_graph.proofs.Parts.{piece_roll}
use Rattle.dc_graph.proofs.laws.pieces_go_by_the_tree.Goals as goal

pub returns : goal.returns
returns c = piece_roll
