-- The pieces of the statements, as a reader writes them.
use Rattle.std.specs.Prelude.{◌≡◌, ℕ, List}
use Rattle.std.proofs.Common.{◌∙◌, ap}
use Rattle.dc_syntax.specs.declared.tree.Stmt.{Stmt}
use Rattle.dc_syntax.specs.declared.tree.Stmt.TheVariants as v
use Rattle.dc_syntax.specs.declared.tree.Stmt.TheOpen.{Skip, Assign, AnyOf, Between, Tick, Assume, If, IfAny, While, WhileAny}
use Rattle.dc_syntax.specs.declared.tree.Cond.{Cond}
use Rattle.dc_syntax.specs.declared.tree.Expr.{Expr}
use Rattle.dc_graph.specs.Pieces.{piece, piece_in}
use Rattle.dc_graph.proofs.Parts.{piece_out}

pub piece-Skip : piece v.Skip ≡ piece_in Skip
piece-Skip = piece_out v.Skip ∙ ap piece_in v.outs-Skip

pub piece-Assign : (x : ℕ) (e : Expr) → piece (v.Assign x e) ≡ piece_in (Assign x e)
piece-Assign x e = piece_out (v.Assign x e) ∙ ap piece_in (v.outs-Assign x e)

pub piece-AnyOf : (x : ℕ) → piece (v.AnyOf x) ≡ piece_in (AnyOf x)
piece-AnyOf x = piece_out (v.AnyOf x) ∙ ap piece_in (v.outs-AnyOf x)

pub piece-Between : (x : ℕ) (a b : Expr) → piece (v.Between x a b) ≡ piece_in (Between x a b)
piece-Between x a b = piece_out (v.Between x a b) ∙ ap piece_in (v.outs-Between x a b)

pub piece-Tick : (e : Expr) → piece (v.Tick e) ≡ piece_in (Tick e)
piece-Tick e = piece_out (v.Tick e) ∙ ap piece_in (v.outs-Tick e)

pub piece-Assume : (c : Cond) → piece (v.Assume c) ≡ piece_in (Assume c)
piece-Assume c = piece_out (v.Assume c) ∙ ap piece_in (v.outs-Assume c)

pub piece-If : (c : Cond) (A B : List Stmt) → piece (v.If c A B) ≡ piece_in (If c A B)
piece-If c A B = piece_out (v.If c A B) ∙ ap piece_in (v.outs-If c A B)

pub piece-IfAny : (A B : List Stmt) → piece (v.IfAny A B) ≡ piece_in (IfAny A B)
piece-IfAny A B = piece_out (v.IfAny A B) ∙ ap piece_in (v.outs-IfAny A B)

pub piece-While : (c : Cond) (A : List Stmt) → piece (v.While c A) ≡ piece_in (While c A)
piece-While c A = piece_out (v.While c A) ∙ ap piece_in (v.outs-While c A)

pub piece-WhileAny : (A : List Stmt) → piece (v.WhileAny A) ≡ piece_in (WhileAny A)
piece-WhileAny A = piece_out (v.WhileAny A) ∙ ap piece_in (v.outs-WhileAny A)

pub ruleset pieces_read = (piece-Skip, piece-Assign, piece-AnyOf, piece-Between, piece-Tick, piece-Assume, piece-If, piece-IfAny, piece-While, piece-WhileAny)
