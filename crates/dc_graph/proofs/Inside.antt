-- The edges of a piece go to its own numbers, to the number at which the program goes on, or, where an arm is empty, there too.
use Rattle.std.specs.Prelude.{◌≡◌, ◌⊎◌, ℕ, ◌+◌, ◌≤◌, ◌<◌, List, [], ◌∷◌, ◌++◌, true, false, refl}
use Rattle.std.specs.List.{AllByRecursion}
use Rattle.std.proofs.Common.{sym, ap, subst, arith, inl, inr}
use Rattle.dc_math.specs.Members.{Among, among-one, among-two, among-++}
use Rattle.dc_syntax.specs.declared.tree.Stmt.{Stmt, Stmt-F, out-Stmt, fold-roll-Stmt}
use Rattle.dc_syntax.specs.declared.tree.Stmt.TheOpen.{Skip, Assign, AnyOf, Between, Tick, Assume, If, IfAny, While, WhileAny}
use Rattle.dc_syntax.specs.Trees.{EachStmt}
use Rattle.dc_syntax.proofs.Inductions.{Stmt-induction}
use Rattle.dc_affine.specs.Table.{Fact, facts_of}
use Rattle.dc_graph.specs.Labels.{Label, Arrow, arrow, branch, idle}
use Rattle.dc_graph.specs.Pieces.{Piece, sizes, first, all_arrows, layer, piece, pieces, piece_in, exit_of, arrows_of}
use Rattle.dc_graph.proofs.Back.{among-branch, ranged, positive}
use Rattle.dc_graph.proofs.Parts.{piece_out}

-- a number is one of those from k on below h, or l
abbrev Inside : ℕ → ℕ → ℕ → ℕ → Type 0
Inside k h l j = ((k ≤ j) × (j < h)) ⊎ (j ≡ l)

abbrev Aimed : Piece → Type 0
Aimed p = (k l : ℕ) (e : Arrow) → Among e (p.arrows k l) → Inside k (k + p.size) l e.to

wider : (k h i g l j : ℕ) → i ≤ k → h ≤ g → Inside k h l j → Inside i g l j
wider k h i g l j a b (inl t) = inl (let u = t.0 in omega arith, let u = t.1 in omega arith)
wider k h i g l j a b (inr t) = inr t

-- what ends at l, where l itself is inside
through : (k h i g l m j : ℕ) → i ≤ k → h ≤ g → Inside i g m l → Inside k h l j → Inside i g m j
through k h i g l m j a b n (inl t) = inl (let u = t.0 in omega arith, let u = t.1 in omega arith)
through k h i g l m j a b (inl n) (inr t) = inl (let u = n.0 in omega arith, let u = n.1 in omega arith)
through k h i g l m j a b (inr n) (inr t) = inr (omega arith)

piece_positive : (S : Stmt) → 0 < (piece S).size
piece_positive S = subst (λ (p : Piece). 0 < p.size) (sym (piece_out S)) (positive (out-Stmt S))

-- the first number of a block
begun : (A : List Stmt) (k l : ℕ) → Inside k (k + sizes (pieces A)) l (first (pieces A) k l)
begun [] k l = inr refl
begun (S ∷ R) k l = let u = piece_positive S in inl (omega arith, omega arith)

laid_aimed : (A : List Stmt) → AllByRecursion (λ S. Aimed (piece S)) A → (k l : ℕ) (e : Arrow) → Among e (all_arrows (pieces A) k l) → Inside k (k + sizes (pieces A)) l e.to
laid_aimed [] h k l e i = elim i [ ]
laid_aimed (S ∷ R) h k l e i =
    elim (among-++ ((piece S).arrows k (first (pieces R) (k + (piece S).size) l)) i) [
      | inl j ↦ through k (k + (piece S).size) k (k + ((piece S).size + sizes (pieces R))) (first (pieces R) (k + (piece S).size) l) l e.to (omega arith) (omega arith)
          (wider (k + (piece S).size) (k + (piece S).size + sizes (pieces R)) k (k + ((piece S).size + sizes (pieces R))) l _ (omega arith) (omega arith) (begun R (k + (piece S).size) l))
          (h.0 k (first (pieces R) (k + (piece S).size) l) e j)
      | inr j ↦ wider (k + (piece S).size) (k + (piece S).size + sizes (pieces R)) k (k + ((piece S).size + sizes (pieces R))) l e.to (omega arith) (omega arith) (laid_aimed R h.1 (k + (piece S).size) l e j)
    ]

to_branch : (k j : ℕ) (fs : List (List Fact)) (e : Arrow) → Among e (branch k j fs) → e.to ≡ j
to_branch k j fs e i = ap (λ (x : Arrow). x.to) (among-branch k j fs i).is

to_one : (k j : ℕ) (a : Label) (e : Arrow) → Among e (arrow k j a ∷ []) → e.to ≡ j
to_one k j a e i = ap (λ (x : Arrow). x.to) (among-one i)

-- two edges or lists of edges to numbers that are inside
moved : (k h l j i : ℕ) → i ≡ j → Inside k h l j → Inside k h l i
moved k h l j i q n = subst (Inside k h l) (sym q) n

left_begun : (A B : List Stmt) (k l : ℕ) → Inside k (k + (1 + (sizes (pieces A) + sizes (pieces B)))) l (first (pieces A) (k + 1) l)
left_begun A B k l = wider (k + 1) (k + 1 + sizes (pieces A)) k (k + (1 + (sizes (pieces A) + sizes (pieces B)))) l (first (pieces A) (k + 1) l) (omega arith) (omega arith) (begun A (k + 1) l)

right_begun : (A B : List Stmt) (k l : ℕ) → Inside k (k + (1 + (sizes (pieces A) + sizes (pieces B)))) l (first (pieces B) (k + 1 + sizes (pieces A)) l)
right_begun A B k l = wider (k + 1 + sizes (pieces A)) (k + 1 + sizes (pieces A) + sizes (pieces B)) k (k + (1 + (sizes (pieces A) + sizes (pieces B)))) l (first (pieces B) (k + 1 + sizes (pieces A)) l) (omega arith) (omega arith) (begun B (k + 1 + sizes (pieces A)) l)

turn_begun : (A : List Stmt) (k l : ℕ) → Inside k (k + (1 + sizes (pieces A))) l (first (pieces A) (k + 1) k)
turn_begun A k l = through (k + 1) (k + 1 + sizes (pieces A)) k (k + (1 + sizes (pieces A))) k l (first (pieces A) (k + 1) k) (omega arith) (omega arith) (inl (omega arith, omega arith)) (begun A (k + 1) k)

arms : (A B : List Stmt) → AllByRecursion (λ S. Aimed (piece S)) A × AllByRecursion (λ S. Aimed (piece S)) B → (k l : ℕ) (e : Arrow) → Among e (all_arrows (pieces A) (k + 1) l ++ all_arrows (pieces B) (k + 1 + sizes (pieces A)) l) → Inside k (k + (1 + (sizes (pieces A) + sizes (pieces B)))) l e.to
arms A B h k l e i =
    elim (among-++ (all_arrows (pieces A) (k + 1) l) i) [
      | inl j ↦ wider (k + 1) (k + 1 + sizes (pieces A)) k (k + (1 + (sizes (pieces A) + sizes (pieces B)))) l e.to (omega arith) (omega arith) (laid_aimed A h.0 (k + 1) l e j)
      | inr j ↦ wider (k + 1 + sizes (pieces A)) (k + 1 + sizes (pieces A) + sizes (pieces B)) k (k + (1 + (sizes (pieces A) + sizes (pieces B)))) l e.to (omega arith) (omega arith) (laid_aimed B h.1 (k + 1 + sizes (pieces A)) l e j)
    ]

turn : (A : List Stmt) → AllByRecursion (λ S. Aimed (piece S)) A → (k l : ℕ) (e : Arrow) → Among e (all_arrows (pieces A) (k + 1) k) → Inside k (k + (1 + sizes (pieces A))) l e.to
turn A h k l e i = through (k + 1) (k + 1 + sizes (pieces A)) k (k + (1 + sizes (pieces A))) k l e.to (omega arith) (omega arith) (inl (omega arith, omega arith)) (laid_aimed A h (k + 1) k e i)

layer_aimed : (L : Stmt-F Stmt) → EachStmt (λ S. Aimed (piece S)) L → Aimed (piece_in L)
layer_aimed Skip h k l e i = inr (to_one k l _ e i)
layer_aimed (Assign x a) h k l e i = inr (to_one k l _ e i)
layer_aimed (AnyOf x) h k l e i = inr (to_one k l _ e i)
layer_aimed (Between x a b) h k l e i = inr (to_one k l _ e i)
layer_aimed (Tick a) h k l e i = inr (to_one k l _ e i)
layer_aimed (Assume c) h k l e i = inr (to_branch k l _ e i)
layer_aimed (If c A B) h k l e i =
    elim (among-++ (branch k (first (pieces A) (k + 1) l) (facts_of c false) ++ branch k (first (pieces B) (k + 1 + sizes (pieces A)) l) (facts_of c true)) i) [
      | inl j ↦ elim (among-++ (branch k (first (pieces A) (k + 1) l) (facts_of c false)) j) [
        | inl m ↦ moved k (k + (1 + (sizes (pieces A) + sizes (pieces B)))) l (first (pieces A) (k + 1) l) e.to (to_branch k _ _ e m) (left_begun A B k l)
        | inr m ↦ moved k (k + (1 + (sizes (pieces A) + sizes (pieces B)))) l (first (pieces B) (k + 1 + sizes (pieces A)) l) e.to (to_branch k _ _ e m) (right_begun A B k l)
      ]
      | inr j ↦ arms A B h k l e j
    ]
layer_aimed (IfAny A B) h k l e i =
    elim (among-++ (arrow k (first (pieces A) (k + 1) l) idle ∷ arrow k (first (pieces B) (k + 1 + sizes (pieces A)) l) idle ∷ []) i) [
      | inl j ↦ elim (among-two j) [
        | inl m ↦ moved k (k + (1 + (sizes (pieces A) + sizes (pieces B)))) l (first (pieces A) (k + 1) l) e.to (ap (λ (x : Arrow). x.to) m) (left_begun A B k l)
        | inr m ↦ moved k (k + (1 + (sizes (pieces A) + sizes (pieces B)))) l (first (pieces B) (k + 1 + sizes (pieces A)) l) e.to (ap (λ (x : Arrow). x.to) m) (right_begun A B k l)
      ]
      | inr j ↦ arms A B h k l e j
    ]
layer_aimed (While c A) h k l e i =
    elim (among-++ (branch k (first (pieces A) (k + 1) k) (facts_of c false) ++ branch k l (facts_of c true)) i) [
      | inl j ↦ elim (among-++ (branch k (first (pieces A) (k + 1) k) (facts_of c false)) j) [
        | inl m ↦ moved k (k + (1 + sizes (pieces A))) l (first (pieces A) (k + 1) k) e.to (to_branch k _ _ e m) (turn_begun A k l)
        | inr m ↦ inr (to_branch k l _ e m)
      ]
      | inr j ↦ turn A h k l e j
    ]
layer_aimed (WhileAny A) h k l e i =
    elim (among-++ (arrow k (first (pieces A) (k + 1) k) idle ∷ arrow k l idle ∷ []) i) [
      | inl j ↦ elim (among-two j) [
        | inl m ↦ moved k (k + (1 + sizes (pieces A))) l (first (pieces A) (k + 1) k) e.to (ap (λ (x : Arrow). x.to) m) (turn_begun A k l)
        | inr m ↦ inr (ap (λ (x : Arrow). x.to) m)
      ]
      | inr j ↦ turn A h k l e j
    ]

piece_aimed : (S : Stmt) → Aimed (piece S)
piece_aimed S = Stmt-induction (λ T. Aimed (piece T)) (λ L h. subst Aimed (sym (fold-roll-Stmt Piece layer L)) (layer_aimed L h)) S

block_aimed : (A : List Stmt) → AllByRecursion (λ S. Aimed (piece S)) A
block_aimed [] = tt
block_aimed (S ∷ R) = (piece_aimed S, block_aimed R)

pub edges_inside : (A : List Stmt) (e : Arrow) → Among e (arrows_of A) → (e.from < exit_of A) × (e.to ≤ exit_of A)
edges_inside A e i =
    let r = ranged A 0 (exit_of A) e i in
    (let u = r.1 in omega arith, by (laid_aimed A (block_aimed A) 0 (exit_of A) e i))
  where
    by : Inside 0 (0 + exit_of A) (exit_of A) e.to → e.to ≤ exit_of A
    by (inl t) = (let u = t.1 in omega arith)
    by (inr t) = omega arith
