-- The laws of the graph, each as the contract of a function of `laws` states it.
use Rattle.std.specs.Prelude.{◌≡◌, ◌↔◌, ◌≤◌, ◌<◌, List, ℤ}
use Rattle.dc_math.specs.Members.{Among}
use Rattle.dc_syntax.specs.declared.tree.Stmt.{Stmt, Stmt-F, roll-Stmt}
use Rattle.dc_syntax.specs.Value.{State}
use Rattle.dc_syntax.specs.Run.{Run}
use Rattle.dc_graph.specs.Labels.{Arrow}
use Rattle.dc_graph.specs.Pieces.{piece, piece_in, exit_of, arrows_of}
use Rattle.dc_graph.specs.Walks.{Walks}

-- the numbers and the edges of a statement, by its layer
abbrev pub PiecesByParts : Type 0
PiecesByParts = (L : Stmt-F Stmt) → piece (roll-Stmt L) ≡ piece_in L

-- the walks from 0 to the exit are the finished runs
abbrev pub RunsAreWalks : Type 0
RunsAreWalks =
    (A : List Stmt) (s : State) (c : ℤ) (t : State) → Walks (arrows_of A) 0 s c (exit_of A) t
    ↔ Run A s c t

-- edges leave statements, and go to statements or to the exit
abbrev pub EndsInside : Type 0
EndsInside =
    (A : List Stmt) (e : Arrow) → Among e (arrows_of A) → (e.from < exit_of A) × (e.to ≤ exit_of A)
