-- The sizes of statements by their parts, and of what is left of a body.
use Rattle.std.specs.Prelude.{◌≡◌, ℕ, ◌+◌, ◌<◌, ◌≤◌, List, length}
use Rattle.std.proofs.Common.{◌∙◌, ap, drop, get_or, add-one}
use Rattle.std.proofs.Math.Seq.{drop-cons}
use Rattle.std.proofs.lemmas.List.{drop_all}
use Rattle.dc_syntax.specs.declared.tree.Stmt.{Stmt}
use Rattle.dc_syntax.specs.declared.tree.Stmt.TheVariants as v
use Rattle.dc_syntax.specs.declared.tree.Cond.{Cond}
use Rattle.dc_graph.specs.Pieces.{Piece, sizes, pieces, piece}
use Rattle.dc_system.proofs.Pieces.{piece-If, piece-IfAny, piece-While, piece-WhileAny}

size_of : {S : Stmt} {p : Piece} (T : Stmt) → S ≡ T → piece T ≡ p → (piece S).size ≡ p.size
size_of T e f = ap (λ S. (piece S).size) e ∙ ap (λ (p : Piece). p.size) f

pub size-If : {S : Stmt} (c : Cond) (A B : List Stmt) → S ≡ v.If c A B → (piece S).size ≡ 1 + (sizes (pieces A) + sizes (pieces B))
size-If c A B e = size_of (v.If c A B) e (piece-If c A B)

pub size-IfAny : {S : Stmt} (A B : List Stmt) → S ≡ v.IfAny A B → (piece S).size ≡ 1 + (sizes (pieces A) + sizes (pieces B))
size-IfAny A B e = size_of (v.IfAny A B) e (piece-IfAny A B)

pub size-While : {S : Stmt} (c : Cond) (A : List Stmt) → S ≡ v.While c A → (piece S).size ≡ 1 + sizes (pieces A)
size-While c A e = size_of (v.While c A) e (piece-While c A)

pub size-WhileAny : {S : Stmt} (A : List Stmt) → S ≡ v.WhileAny A → (piece S).size ≡ 1 + sizes (pieces A)
size-WhileAny A e = size_of (v.WhileAny A) e (piece-WhileAny A)

pub sizes_step : (i : ℕ) (body : List Stmt) (d : Stmt) → i < length body → sizes (pieces (drop i body)) ≡ (piece (get_or body i d)).size + sizes (pieces (drop (i + 1) body))
sizes_step i body d h = rw add-one (ap (λ l. sizes (pieces l)) (drop-cons body i d h))

pub sizes_done : (i : ℕ) (body : List Stmt) → length body ≤ i → sizes (pieces (drop i body)) ≡ 0
sizes_done i body h = ap (λ l. sizes (pieces l)) (drop_all i body h)
