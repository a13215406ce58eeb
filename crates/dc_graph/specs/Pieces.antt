-- The graph of a list of statements. Statements are numbered in preorder from 0; a number stands
-- before its statement, and the exit is the number of statements. Edges stand in the order of the
-- statements that they leave.
use Rattle.std.specs.Prelude.{ℕ, ◌+◌, List, [], ◌∷◌, ◌++◌, map, true, false}
use Rattle.dc_syntax.specs.declared.tree.Stmt.{Stmt, Stmt-F, fold-Stmt, map-Stmt}
use Rattle.dc_syntax.specs.declared.tree.Stmt.TheOpen.{Skip, Assign, AnyOf, Between, Tick, Assume, If, IfAny, While, WhileAny}
use Rattle.dc_affine.specs.Table.{facts_of}
use Rattle.dc_graph.specs.Labels.{Arrow, arrow, branch, idle, sets, picks, picks_in, pays}

-- a statement: how many numbers it takes, and its edges where it stands at a number and the program
-- goes on at another
pub record Piece : Type 0 where
  pub size : ℕ
  pub arrows : ℕ → ℕ → List Arrow

abbrev pub sizes : List Piece → ℕ
sizes [] = 0
sizes (p ∷ ps) = p.size + sizes ps

-- the first number of a block that stands at k and goes on at l: l where it is empty
abbrev pub first : List Piece → ℕ → ℕ → ℕ
first [] k l = l
first (p ∷ ps) k l = k

-- the edges of a block that stands at k and goes on at l: each statement goes on at the next one,
-- the last at l
abbrev pub all_arrows : List Piece → ℕ → ℕ → List Arrow
all_arrows [] k l = []
all_arrows (p ∷ ps) k l = p.arrows k (first ps (k + p.size) l) ++ all_arrows ps (k + p.size) l

-- the table of the language: a statement at k that goes on at l
abbrev pub layer : Stmt-F Piece → Piece
layer Skip = record { size = 1; arrows = λ k l. arrow k l idle ∷ [] }
layer (Assign x e) = record { size = 1; arrows = λ k l. arrow k l (sets x e) ∷ [] }
layer (AnyOf x) = record { size = 1; arrows = λ k l. arrow k l (picks x) ∷ [] }
layer (Between x a b) = record { size = 1; arrows = λ k l. arrow k l (picks_in x a b) ∷ [] }
layer (Tick e) = record { size = 1; arrows = λ k l. arrow k l (pays e) ∷ [] }
layer (Assume c) = record { size = 1; arrows = λ k l. branch k l (facts_of c false) }
layer (If c A B) = record {
  size = 1 + (sizes A + sizes B);
  arrows =
      λ k l. (branch k (first A (k + 1) l) (facts_of c false)
      ++ branch k (first B (k + 1 + sizes A) l) (facts_of c true))
      ++ (all_arrows A (k + 1) l ++ all_arrows B (k + 1 + sizes A) l);
}
layer (IfAny A B) = record {
  size = 1 + (sizes A + sizes B);
  arrows =
      λ k l. (arrow k (first A (k + 1) l) idle ∷ arrow k (first B (k + 1 + sizes A) l) idle ∷ [])
      ++ (all_arrows A (k + 1) l ++ all_arrows B (k + 1 + sizes A) l);
}
layer (While c A) = record {
  size = 1 + sizes A;
  arrows =
      λ k l. (branch k (first A (k + 1) k) (facts_of c false) ++ branch k l (facts_of c true))
      ++ all_arrows A (k + 1) k;
}
layer (WhileAny A) = record {
  size = 1 + sizes A;
  arrows = λ k l. (arrow k (first A (k + 1) k) idle ∷ arrow k l idle ∷ []) ++ all_arrows A (k + 1) k;
}

abbrev pub piece : Stmt → Piece
piece S = fold-Stmt Piece layer S

abbrev pub pieces : List Stmt → List Piece
pieces A = map piece A

-- a piece by its layer
abbrev pub piece_in : Stmt-F Stmt → Piece
piece_in L = layer (map-Stmt Stmt Piece piece L)

-- the number of statements of a body, which is its exit, and its edges
abbrev pub exit_of : List Stmt → ℕ
exit_of A = sizes (pieces A)

abbrev pub arrows_of : List Stmt → List Arrow
arrows_of A = all_arrows (pieces A) 0 (exit_of A)
