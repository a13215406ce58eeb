-- The piece of a statement by its layer.
use Rattle.std.specs.Prelude.{◌≡◌}
use Rattle.dc_syntax.specs.declared.tree.Stmt.{Stmt, Stmt-F, out-Stmt, roll-Stmt, fold-roll-Stmt, fold_out-Stmt}
use Rattle.dc_graph.specs.Pieces.{Piece, layer, piece, piece_in}

pub piece_out : (S : Stmt) → piece S ≡ piece_in (out-Stmt S)
piece_out S = fold_out-Stmt Piece layer S

pub piece_roll : (L : Stmt-F Stmt) → piece (roll-Stmt L) ≡ piece_in L
piece_roll L = fold-roll-Stmt Piece layer L
