-- The one edge of a simple statement.
use Rattle.std.specs.Prelude.{◌≡◌, ℕ, ◌+◌, List, [], ◌∷◌, map, true, false}
use Rattle.std.proofs.Common.{sym, ◌∙◌, ap, ap₂}
use Rattle.dc_syntax.specs.declared.tree.Expr.{Expr}
use Rattle.dc_syntax.specs.declared.tree.Expr.TheVariants.{Var}
use Rattle.dc_syntax.specs.declared.tree.Stmt.{Stmt}
use Rattle.dc_syntax.specs.declared.tree.Stmt.TheVariants as v
use Rattle.dc_poly.specs.Terms.{Polynomial}
use Rattle.dc_affine.specs.declared.atom.Atom.{Atom}
use Rattle.dc_affine.specs.Forms.{form_of}
use Rattle.dc_affine.specs.Table.{fact}
use Rattle.dc_affine.specs.Atoms.{atom_of}
use Rattle.dc_graph.specs.Pieces.{Piece, piece}
use Rattle.dc_system.specs.declared.edges.Edge.{Edge}
use Rattle.dc_system.specs.Edges.{edge_of, chosen, test_edge, set_edge, cost_edge}
use Rattle.dc_system.proofs.Pieces.{piece-Skip, piece-Assign, piece-AnyOf, piece-Between, piece-Tick}

laid_as : (n k l : ℕ) (S T : Stmt) (p : Piece) → S ≡ T → piece T ≡ p → map (edge_of n) ((piece S).arrows k l) ≡ map (edge_of n) (p.arrows k l)
laid_as n k l S T p e f = ap (λ (q : Piece). map (edge_of n) (q.arrows k l)) (ap piece e ∙ f)

pub simple-Skip : (n k l : ℕ) (S : Stmt) (e : Edge) (g : List Atom) → S ≡ v.Skip → g ≡ [] → e ≡ test_edge n k l g → e ∷ [] ≡ map (edge_of n) ((piece S).arrows k l)
simple-Skip n k l S e g q r h = ap (λ x. x ∷ []) (h ∙ ap (test_edge n k l) r) ∙ sym (laid_as n k l S v.Skip _ q piece-Skip)

pub simple-Assign : (n k l : ℕ) (S : Stmt) (x : ℕ) (a : Expr) (e : Edge) (g : List Atom) (p : Polynomial) → S ≡ v.Assign x a → g ≡ [] → p ≡ form_of (n + 1) a → e ≡ set_edge n k l g x p false → e ∷ [] ≡ map (edge_of n) ((piece S).arrows k l)
simple-Assign n k l S x a e g p q r f h = ap (λ y. y ∷ []) (h ∙ ap₂ (λ y z. set_edge n k l y x z false) r f) ∙ sym (laid_as n k l S (v.Assign x a) _ q (piece-Assign x a))

pub simple-AnyOf : (n k l : ℕ) (S : Stmt) (x : ℕ) (e : Edge) (g : List Atom) (p : Polynomial) → S ≡ v.AnyOf x → g ≡ [] → p ≡ chosen n → e ≡ set_edge n k l g x p true → e ∷ [] ≡ map (edge_of n) ((piece S).arrows k l)
simple-AnyOf n k l S x e g p q r f h = ap (λ y. y ∷ []) (h ∙ ap₂ (λ y z. set_edge n k l y x z true) r f) ∙ sym (laid_as n k l S (v.AnyOf x) _ q (piece-AnyOf x))

pub simple-Between : (n k l : ℕ) (S : Stmt) (x : ℕ) (a b : Expr) (e : Edge) (g : List Atom) (p : Polynomial) → S ≡ v.Between x a b → g ≡ atom_of (n + 1) (fact (Var n) a 0) ∷ atom_of (n + 1) (fact b (Var n) 0) ∷ [] → p ≡ chosen n → e ≡ set_edge n k l g x p true → e ∷ [] ≡ map (edge_of n) ((piece S).arrows k l)
simple-Between n k l S x a b e g p q r f h = ap (λ y. y ∷ []) (h ∙ ap₂ (λ y z. set_edge n k l y x z true) r f) ∙ sym (laid_as n k l S (v.Between x a b) _ q (piece-Between x a b))

pub simple-Tick : (n k l : ℕ) (S : Stmt) (a : Expr) (e : Edge) (p : Polynomial) → S ≡ v.Tick a → p ≡ form_of (n + 1) a → e ≡ cost_edge n k l p → e ∷ [] ≡ map (edge_of n) ((piece S).arrows k l)
simple-Tick n k l S a e p q f h = ap (λ y. y ∷ []) (h ∙ ap (cost_edge n k l) f) ∙ sym (laid_as n k l S (v.Tick a) _ q (piece-Tick a))

pub ruleset simples = (simple-Skip, simple-Assign, simple-AnyOf, simple-Between, simple-Tick)
