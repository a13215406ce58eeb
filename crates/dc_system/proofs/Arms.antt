-- The edges of statements with others inside, as the code pushes them.
use Rattle.std.specs.Prelude.{◌≡◌, ℕ, ◌+◌, ◌<◌, ◌≤◌, List, [], ◌∷◌, ◌++◌, map, length, true, false, refl}
use Rattle.std.proofs.Common.{sym, ◌∙◌, ap, ap₂, drop, get_or}
use Rattle.std.proofs.lemmas.List.{append_assoc, append-nil, drop_more, drop_all}
use Rattle.dc_syntax.specs.declared.tree.Stmt.{Stmt}
use Rattle.dc_syntax.specs.declared.tree.Stmt.TheVariants as v
use Rattle.dc_syntax.specs.declared.tree.Cond.{Cond}
use Rattle.dc_affine.specs.declared.atom.Atom.{Atom}
use Rattle.dc_affine.specs.Table.{Fact, facts_of}
use Rattle.dc_affine.specs.Atoms.{atom_of, conjunctions_of}
use Rattle.dc_graph.specs.Labels.{Arrow, arrow, branch, idle}
use Rattle.dc_graph.specs.Pieces.{Piece, piece, pieces, sizes, first, all_arrows}
use Rattle.dc_system.specs.declared.edges.Edge.{Edge}
use Rattle.dc_system.specs.Edges.{edge_of, test_edge, test_edges}
use Rattle.dc_system.proofs.Pieces.{piece-Assume, piece-If, piece-IfAny, piece-While, piece-WhileAny}

abbrev pub es : ℕ → List Arrow → List Edge
es n xs = map (edge_of n) xs

es-++ : (n : ℕ) (a b : List Arrow) → es n (a ++ b) ≡ es n a ++ es n b
es-++ n [] b = refl
es-++ n (x ∷ a) b = ap (λ z. edge_of n x ∷ z) (es-++ n a b)

es-branch : (n k l : ℕ) (fs : List (List Fact)) → es n (branch k l fs) ≡ test_edges n k l (map (map (atom_of (n + 1))) fs)
es-branch n k l [] = refl
es-branch n k l (f ∷ fs) = ap (λ z. test_edge n k l (map (atom_of (n + 1)) f) ∷ z) (es-branch n k l fs)

laid_as : (n k l : ℕ) (S T : Stmt) (p : Piece) → S ≡ T → piece T ≡ p → es n ((piece S).arrows k l) ≡ es n (p.arrows k l)
laid_as n k l S T p e f = ap (λ (q : Piece). es n (q.arrows k l)) (ap piece e ∙ f)

-- one append after another
join2 : {X : Type 0} {o1 o2 : List X} (o0 a b : List X) → o1 ≡ o0 ++ a → o2 ≡ o1 ++ b → o2 ≡ o0 ++ (a ++ b)
join2 o0 a b e f = f ∙ ap (λ z. z ++ b) e ∙ append_assoc o0 a b

join3 : {X : Type 0} {o1 o2 o3 : List X} (o0 a b c : List X) → o1 ≡ o0 ++ a → o2 ≡ o1 ++ b → o3 ≡ o2 ++ c → o3 ≡ o0 ++ ((a ++ b) ++ c)
join3 o0 a b c e f g = join2 o0 (a ++ b) c (join2 o0 a b e f) g

join4 : {X : Type 0} {o1 o2 o3 o4 : List X} (o0 a b c d : List X) → o1 ≡ o0 ++ a → o2 ≡ o1 ++ b → o3 ≡ o2 ++ c → o4 ≡ o3 ++ d → o4 ≡ o0 ++ ((a ++ b) ++ (c ++ d))
join4 {o2 = o2} o0 a b c d e f g h = join2 o0 (a ++ b) (c ++ d) (join2 o0 a b e f) (join2 o2 c d g h)

pub Assume_is : {o1 : List Edge} (n : ℕ) (o0 : List Edge) (S : Stmt) (c : Cond) (k l : ℕ) (w : List (List Atom)) → S ≡ v.Assume c → w ≡ conjunctions_of (n + 1) c false → o1 ≡ o0 ++ test_edges n k l w → o1 ≡ o0 ++ es n ((piece S).arrows k l)
Assume_is n o0 S c k l w e p h =
    h ∙ ap (λ z. o0 ++ z) (ap (test_edges n k l) p ∙ sym (es-branch n k l (facts_of c false)) ∙ sym (laid_as n k l S (v.Assume c) _ e (piece-Assume c)))

pub If_is : {o1 o2 o3 o4 : List Edge} (n : ℕ) (o0 : List Edge) (S : Stmt) (c : Cond) (A B a0 a1 a2 b1 b2 : List Stmt) (k l : ℕ) (w1 w2 : List (List Atom)) (m second f1 f2 : ℕ) → S ≡ v.If c A B
    → w1 ≡ conjunctions_of (n + 1) c false → w2 ≡ conjunctions_of (n + 1) c true → a0 ≡ A → a1 ≡ A → a2 ≡ A → b1 ≡ B → b2 ≡ B → m ≡ sizes (pieces a0) → second ≡ k + 1 + m
    → f1 ≡ first (pieces a1) (k + 1) l → f2 ≡ first (pieces b1) second l
    → o1 ≡ o0 ++ test_edges n k f1 w1 → o2 ≡ o1 ++ test_edges n k f2 w2 → o3 ≡ o2 ++ es n (all_arrows (pieces a2) (k + 1) l) → o4 ≡ o3 ++ es n (all_arrows (pieces b2) second l)
    → o4 ≡ o0 ++ es n ((piece S).arrows k l)
If_is {o1} {o2} {o3} {o4} n o0 S c A B a0 a1 a2 b1 b2 k l w1 w2 m second f1 f2 e p q r0 r1 r2 s1 s2 t d g1 g2 h i j y =
    let second' : second ≡ k + 1 + sizes (pieces A) = d ∙ ap (λ x. k + 1 + x) (t ∙ ap (λ b. sizes (pieces b)) r0) in
    let f1' : f1 ≡ first (pieces A) (k + 1) l = g1 ∙ ap (λ b. first (pieces b) (k + 1) l) r1 in
    let f2' : f2 ≡ first (pieces B) (k + 1 + sizes (pieces A)) l = g2 ∙ ap₂ (λ b x. first (pieces b) x l) s1 second' in
    join4 o0 _ _ _ _
    (h ∙ ap₂ (λ w x. o0 ++ test_edges n k x w) p f1' ∙ ap (λ z. o0 ++ z) (sym (es-branch n k (first (pieces A) (k + 1) l) (facts_of c false))))
    (i ∙ ap₂ (λ w x. o1 ++ test_edges n k x w) q f2' ∙ ap (λ z. o1 ++ z) (sym (es-branch n k (first (pieces B) (k + 1 + sizes (pieces A)) l) (facts_of c true))))
    (j ∙ ap (λ b. o2 ++ es n (all_arrows (pieces b) (k + 1) l)) r2)
    (y ∙ ap₂ (λ b x. o3 ++ es n (all_arrows (pieces b) x l)) s2 second')
    ∙ ap (λ z. o0 ++ z) (
    ap₂ ◌++◌ (sym (es-++ n (branch k (first (pieces A) (k + 1) l) (facts_of c false)) (branch k (first (pieces B) (k + 1 + sizes (pieces A)) l) (facts_of c true)))) (sym (es-++ n (all_arrows (pieces A) (k + 1) l) (all_arrows (pieces B) (k + 1 + sizes (pieces A)) l)))
    ∙ sym (es-++ n (branch k (first (pieces A) (k + 1) l) (facts_of c false) ++ branch k (first (pieces B) (k + 1 + sizes (pieces A)) l) (facts_of c true)) (all_arrows (pieces A) (k + 1) l ++ all_arrows (pieces B) (k + 1 + sizes (pieces A)) l))
    ∙ sym (laid_as n k l S (v.If c A B) _ e (piece-If c A B)))

idle_edge : (n k l : ℕ) (e : Edge) (g : List Atom) → g ≡ [] → e ≡ test_edge n k l g → e ∷ [] ≡ es n (arrow k l idle ∷ [])
idle_edge n k l e g p q = ap (λ x. x ∷ []) (q ∙ ap (test_edge n k l) p)

pub IfAny_is : {o1 o2 o3 o4 : List Edge} (n : ℕ) (o0 : List Edge) (S : Stmt) (A B a0 a1 a2 b1 b2 : List Stmt) (k l : ℕ) (d1 d2 : Edge) (h1 h2 : List Atom) (m second f1 f2 : ℕ) → S ≡ v.IfAny A B
    → h1 ≡ [] → h2 ≡ [] → d1 ≡ test_edge n k f1 h1 → d2 ≡ test_edge n k f2 h2 → a0 ≡ A → a1 ≡ A → a2 ≡ A → b1 ≡ B → b2 ≡ B → m ≡ sizes (pieces a0) → second ≡ k + 1 + m
    → f1 ≡ first (pieces a1) (k + 1) l → f2 ≡ first (pieces b1) second l
    → o1 ≡ o0 ++ d1 ∷ [] → o2 ≡ o1 ++ d2 ∷ [] → o3 ≡ o2 ++ es n (all_arrows (pieces a2) (k + 1) l) → o4 ≡ o3 ++ es n (all_arrows (pieces b2) second l)
    → o4 ≡ o0 ++ es n ((piece S).arrows k l)
IfAny_is {o1} {o2} {o3} {o4} n o0 S A B a0 a1 a2 b1 b2 k l d1 d2 h1 h2 m second f1 f2 e z1 z2 p q r0 r1 r2 s1 s2 t d g1 g2 h i j y =
    let second' : second ≡ k + 1 + sizes (pieces A) = d ∙ ap (λ x. k + 1 + x) (t ∙ ap (λ b. sizes (pieces b)) r0) in
    let f1' : f1 ≡ first (pieces A) (k + 1) l = g1 ∙ ap (λ b. first (pieces b) (k + 1) l) r1 in
    let f2' : f2 ≡ first (pieces B) (k + 1 + sizes (pieces A)) l = g2 ∙ ap₂ (λ b x. first (pieces b) x l) s1 second' in
    join4 o0 _ _ _ _
    (h ∙ ap (λ z. o0 ++ z) (idle_edge n k f1 d1 h1 z1 p ∙ ap (λ x. es n (arrow k x idle ∷ [])) f1'))
    (i ∙ ap (λ z. o1 ++ z) (idle_edge n k f2 d2 h2 z2 q ∙ ap (λ x. es n (arrow k x idle ∷ [])) f2'))
    (j ∙ ap (λ b. o2 ++ es n (all_arrows (pieces b) (k + 1) l)) r2)
    (y ∙ ap₂ (λ b x. o3 ++ es n (all_arrows (pieces b) x l)) s2 second')
    ∙ ap (λ z. o0 ++ z) (
    ap (λ z. (edge_of n (arrow k (first (pieces A) (k + 1) l) idle) ∷ edge_of n (arrow k (first (pieces B) (k + 1 + sizes (pieces A)) l) idle) ∷ []) ++ z) (sym (es-++ n (all_arrows (pieces A) (k + 1) l) (all_arrows (pieces B) (k + 1 + sizes (pieces A)) l)))
    ∙ sym (laid_as n k l S (v.IfAny A B) _ e (piece-IfAny A B)))

pub While_is : {o1 o2 o3 : List Edge} (n : ℕ) (o0 : List Edge) (S : Stmt) (c : Cond) (A b1 b2 : List Stmt) (k l : ℕ) (w1 w2 : List (List Atom)) (f : ℕ) → S ≡ v.While c A
    → w1 ≡ conjunctions_of (n + 1) c false → w2 ≡ conjunctions_of (n + 1) c true → b1 ≡ A → b2 ≡ A → f ≡ first (pieces b1) (k + 1) k
    → o1 ≡ o0 ++ test_edges n k f w1 → o2 ≡ o1 ++ test_edges n k l w2 → o3 ≡ o2 ++ es n (all_arrows (pieces b2) (k + 1) k)
    → o3 ≡ o0 ++ es n ((piece S).arrows k l)
While_is {o1} {o2} {o3} n o0 S c A b1 b2 k l w1 w2 f e p q r s g h i j =
    let f' : f ≡ first (pieces A) (k + 1) k = g ∙ ap (λ b. first (pieces b) (k + 1) k) r in
    join3 o0 _ _ _
    (h ∙ ap₂ (λ w x. o0 ++ test_edges n k x w) p f' ∙ ap (λ z. o0 ++ z) (sym (es-branch n k (first (pieces A) (k + 1) k) (facts_of c false))))
    (i ∙ ap (λ w. o1 ++ test_edges n k l w) q ∙ ap (λ z. o1 ++ z) (sym (es-branch n k l (facts_of c true))))
    (j ∙ ap (λ b. o2 ++ es n (all_arrows (pieces b) (k + 1) k)) s)
    ∙ ap (λ z. o0 ++ z) (
    ap (λ z. z ++ es n (all_arrows (pieces A) (k + 1) k)) (sym (es-++ n (branch k (first (pieces A) (k + 1) k) (facts_of c false)) (branch k l (facts_of c true))))
    ∙ sym (es-++ n (branch k (first (pieces A) (k + 1) k) (facts_of c false) ++ branch k l (facts_of c true)) (all_arrows (pieces A) (k + 1) k))
    ∙ sym (laid_as n k l S (v.While c A) _ e (piece-While c A)))

pub WhileAny_is : {o1 o2 o3 : List Edge} (n : ℕ) (o0 : List Edge) (S : Stmt) (A b1 b2 : List Stmt) (k l : ℕ) (d1 d2 : Edge) (h1 h2 : List Atom) (f : ℕ) → S ≡ v.WhileAny A
    → h1 ≡ [] → h2 ≡ [] → d1 ≡ test_edge n k f h1 → d2 ≡ test_edge n k l h2 → b1 ≡ A → b2 ≡ A → f ≡ first (pieces b1) (k + 1) k
    → o1 ≡ o0 ++ d1 ∷ [] → o2 ≡ o1 ++ d2 ∷ [] → o3 ≡ o2 ++ es n (all_arrows (pieces b2) (k + 1) k)
    → o3 ≡ o0 ++ es n ((piece S).arrows k l)
WhileAny_is {o1} {o2} {o3} n o0 S A b1 b2 k l d1 d2 h1 h2 f e z1 z2 p q r s g h i j =
    let f' : f ≡ first (pieces A) (k + 1) k = g ∙ ap (λ b. first (pieces b) (k + 1) k) r in
    join3 o0 _ _ _
    (h ∙ ap (λ z. o0 ++ z) (idle_edge n k f d1 h1 z1 p ∙ ap (λ x. es n (arrow k x idle ∷ [])) f'))
    (i ∙ ap (λ z. o1 ++ z) (idle_edge n k l d2 h2 z2 q))
    (j ∙ ap (λ b. o2 ++ es n (all_arrows (pieces b) (k + 1) k)) s)
    ∙ ap (λ z. o0 ++ z) (sym (laid_as n k l S (v.WhileAny A) _ e (piece-WhileAny A)))

-- ---- the loop over a block
laid_step : (n i : ℕ) (body : List Stmt) (d : Stmt) (k l : ℕ) → i < length body
    → es n (all_arrows (pieces (drop i body)) k l) ≡ es n ((piece (get_or body i d)).arrows k (first (pieces (drop (i + 1) body)) (k + (piece (get_or body i d)).size) l)) ++ es n (all_arrows (pieces (drop (i + 1) body)) (k + (piece (get_or body i d)).size) l)
laid_step n i body d k l h =
    ap (λ b. es n (all_arrows (pieces b) k l)) (drop_more body i d h) ∙ es-++ n ((piece (get_or body i d)).arrows k (first (pieces (drop (i + 1) body)) (k + (piece (get_or body i d)).size) l)) (all_arrows (pieces (drop (i + 1) body)) (k + (piece (get_or body i d)).size) l)

pub laid_done : (n i : ℕ) (body : List Stmt) (o fin : List Edge) (k l : ℕ) → length body ≤ i → o ++ es n (all_arrows (pieces (drop i body)) k l) ≡ fin → o ≡ fin
laid_done n i body o fin k l h e = sym (append-nil o) ∙ ap (λ b. o ++ es n (all_arrows (pieces b) k l)) (sym (drop_all i body h)) ∙ e

pub first_more : (i : ℕ) (body : List Stmt) (d : Stmt) (k l : ℕ) → i < length body → first (pieces (drop i body)) k l ≡ k
first_more i body d k l h = ap (λ b. first (pieces b) k l) (drop_more body i d h)

pub first_last : (i : ℕ) (body : List Stmt) (k l : ℕ) → length body ≤ i → first (pieces (drop i body)) k l ≡ l
first_last i body k l h = ap (λ b. first (pieces b) k l) (drop_all i body h)

pub loop_step : {o2 : List Edge} (n : ℕ) (o1 fin : List Edge) (i : ℕ) (body : List Stmt) (d : Stmt) (k l m target : ℕ) → i < length body → d ≡ get_or body i d → m ≡ (piece d).size
    → target ≡ first (pieces (drop (i + 1) body)) (k + m) l → o2 ≡ o1 ++ es n ((piece d).arrows k target)
    → o1 ++ es n (all_arrows (pieces (drop i body)) k l) ≡ fin → o2 ++ es n (all_arrows (pieces (drop (i + 1) body)) (k + m) l) ≡ fin
loop_step {o2} n o1 fin i body d k l m target h e g u w x =
    let s : es n (all_arrows (pieces (drop i body)) k l) ≡ es n ((piece d).arrows k (first (pieces (drop (i + 1) body)) (k + (piece d).size) l)) ++ es n (all_arrows (pieces (drop (i + 1) body)) (k + (piece d).size) l) =
    laid_step n i body d k l h ∙ ap (λ y. es n ((piece y).arrows k (first (pieces (drop (i + 1) body)) (k + (piece y).size) l)) ++ es n (all_arrows (pieces (drop (i + 1) body)) (k + (piece y).size) l)) (sym e) in
    let u' : target ≡ first (pieces (drop (i + 1) body)) (k + (piece d).size) l = u ∙ ap (λ y. first (pieces (drop (i + 1) body)) (k + y) l) g in
    ap₂ ◌++◌ (w ∙ ap (λ y. o1 ++ es n ((piece d).arrows k y)) u') (ap (λ y. es n (all_arrows (pieces (drop (i + 1) body)) (k + y) l)) g)
    ∙ append_assoc o1 _ _ ∙ ap (λ z. o1 ++ z) (sym s) ∙ x
