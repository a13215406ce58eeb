-- Every label of an accepted body passes.
use Rattle.std.specs.Prelude.{◌≡◌, ℕ, ◌+◌, ◌≤◌, Bool, true, false, ◌&&◌, leb, ltb, List, [], ◌∷◌, ◌++◌, map, None}
use Rattle.std.specs.List.{AllByRecursion}
use Rattle.std.proofs.Common.{sym, ◌∙◌, subst, inl, inr}
use Rattle.std.proofs.lemmas.Bool.{leb-true, and_parts}
use Rattle.dc_math.specs.Members.{Among, among-one, among-++}
use Rattle.dc_syntax.specs.declared.tree.Cond.{Cond}
use Rattle.dc_syntax.specs.declared.tree.Stmt.{Stmt, Stmt-F, roll-Stmt, map-Stmt, fold-roll-Stmt}
use Rattle.dc_syntax.specs.declared.tree.Stmt.TheOpen.{Skip, Assign, AnyOf, Between, Tick, Assume, If, IfAny, While, WhileAny}
use Rattle.dc_syntax.specs.Trees.{EachStmt}
use Rattle.dc_syntax.proofs.Inductions.{Stmt-induction}
use Rattle.dc_affine.specs.Forms.{is_below, affine_fault}
use Rattle.dc_affine.specs.Table.{Fact, facts_of}
use Rattle.dc_affine.specs.Atoms.{cond_is_below, dnf_fault}
use Rattle.dc_affine.specs.Whole.{each, pass_step, statement_passes, all_pass}
use Rattle.dc_affine.proofs.FormLaws.{none_parts}
use Rattle.dc_graph.specs.Labels.{Label, Arrow, arrow, branch, idle, tests}
use Rattle.dc_graph.specs.Pieces.{Piece, sizes, first, all_arrows, layer, piece, pieces, piece_in, exit_of, arrows_of}
use Rattle.dc_program.specs.Limits.{cond_literals_fit, cond_operators, cond_is_limited, limits_step, stmt_is_limited, all_limited}
use Rattle.dc_system.proofs.Passes.{Parts, parts, each_all}
use Rattle.dc_system.proofs.Points.{IsCase, LabelPasses}
use Rattle.dc_system.proofs.Cases.{cases_pass}

abbrev pub Labelled : ℕ → List Arrow → Type 0
Labelled n es = (e : Arrow) → Among e es → LabelPasses n e.label

labelled-++ : (n : ℕ) (a b : List Arrow) → Labelled n a → Labelled n b → Labelled n (a ++ b)
labelled-++ n a b h k e i = elim (among-++ a i) [ inl j ↦ h e j | inr j ↦ k e j ]

labelled_one : (n k l : ℕ) (a : Label) → LabelPasses n a → Labelled n (arrow k l a ∷ [])
labelled_one n k l a h e i = subst (λ (x : Arrow). LabelPasses n x.label) (sym (among-one i)) h

labelled_two : (n k j l : ℕ) → Labelled n (arrow k j idle ∷ arrow k l idle ∷ [])
labelled_two n k j l = labelled-++ n (arrow k j idle ∷ []) (arrow k l idle ∷ []) (labelled_one n k j idle tt) (labelled_one n k l idle tt)

labelled_branch : (n k l : ℕ) (fs : List (List Fact)) → AllByRecursion (IsCase n) fs → Labelled n (branch k l fs)
labelled_branch n k l [] h e i = elim i [ ]
labelled_branch n k l (f ∷ fs) h e i = elim (among-++ (arrow k l (tests f) ∷ []) i) [ inl j ↦ labelled_one n k l (tests f) h.0 e j | inr j ↦ labelled_branch n k l fs h.1 e j ]

-- two branches of a condition
choice : (n k j l : ℕ) (c : Cond) → cond_is_below n c ≡ true → dnf_fault n c false ≡ None → dnf_fault n c true ≡ None → cond_operators c ≤ 64 → Labelled n (branch k j (facts_of c false) ++ branch k l (facts_of c true))
choice n k j l c b p q o = labelled-++ n (branch k j (facts_of c false)) (branch k l (facts_of c true)) (labelled_branch n k j (facts_of c false) (cases_pass n c false b p o)) (labelled_branch n k l (facts_of c true) (cases_pass n c true b q o))

few_operators : (c : Cond) → cond_is_limited c ≡ true → cond_operators c ≤ 64
few_operators c h = leb-true (cond_operators c) 64 (and_parts (cond_literals_fit c) (leb (cond_operators c) 64) h).1

abbrev Kept : ℕ → Stmt → Type 0
Kept n S = statement_passes n S ≡ true → stmt_is_limited S ≡ true → (k l : ℕ) → Labelled n ((piece S).arrows k l)

labelled_block : (n : ℕ) (A : List Stmt) → AllByRecursion (Kept n) A → all_pass n A ≡ true → all_limited A ≡ true → (k l : ℕ) → Labelled n (all_arrows (pieces A) k l)
labelled_block n [] h b o k l = λ e i. elim i [ ]
labelled_block n (S ∷ R) h b o k l =
    let p = and_parts (statement_passes n S) (all_pass n R) b in
    let q = and_parts (stmt_is_limited S) (all_limited R) o in
    labelled-++ n ((piece S).arrows k (first (pieces R) (k + (piece S).size) l)) (all_arrows (pieces R) (k + (piece S).size) l)
    (h.0 p.0 q.0 k (first (pieces R) (k + (piece S).size) l))
    (labelled_block n R h.1 p.1 q.1 (k + (piece S).size) l)

inner_block : (n : ℕ) (A : List Stmt) → AllByRecursion (Kept n) A → each (map (statement_passes n) A) ≡ true → all_limited A ≡ true → (k l : ℕ) → Labelled n (all_arrows (pieces A) k l)
inner_block n A h b o k l = labelled_block n A h (sym (each_all n A) ∙ b) o k l

two_blocks : (n : ℕ) (A B : List Stmt) → AllByRecursion (Kept n) A × AllByRecursion (Kept n) B → (each (map (statement_passes n) A) && each (map (statement_passes n) B)) ≡ true → (all_limited A && all_limited B) ≡ true → (k l : ℕ)
    → Labelled n (all_arrows (pieces A) (k + 1) l ++ all_arrows (pieces B) (k + 1 + sizes (pieces A)) l)
two_blocks n A B h b o k l =
    let p = and_parts (each (map (statement_passes n) A)) (each (map (statement_passes n) B)) b in
    let q = and_parts (all_limited A) (all_limited B) o in
    labelled-++ n (all_arrows (pieces A) (k + 1) l) (all_arrows (pieces B) (k + 1 + sizes (pieces A)) l)
    (inner_block n A h.0 p.0 q.0 (k + 1) l)
    (inner_block n B h.1 p.1 q.1 (k + 1 + sizes (pieces A)) l)

at_layer : (n : ℕ) (L : Stmt-F Stmt) → EachStmt (Kept n) L → Parts n (map-Stmt Stmt Bool (statement_passes n) L) → limits_step (map-Stmt Stmt Bool stmt_is_limited L) ≡ true → (k l : ℕ) → Labelled n ((piece_in L).arrows k l)
at_layer n Skip h p o k l = labelled_one n k l _ tt
at_layer n (Assign x e) h p o k l = labelled_one n k l _ (record { below = (and_parts (ltb x n) (is_below n e) p.below).1; faultless = p.faultless })
at_layer n (AnyOf x) h p o k l = labelled_one n k l _ tt
at_layer n (Between x a b) h p o k l =
    let i = and_parts (ltb x n && is_below n a) (is_below n b) p.below in
    let j = and_parts (ltb x n) (is_below n a) i.0 in
    let f = none_parts (affine_fault n a) (affine_fault n b) p.faultless in
    labelled_one n k l _ (record { below = j.1; faultless = f.0 }, record { below = i.1; faultless = f.1 })
at_layer n (Tick e) h p o k l = labelled_one n k l _ (record { below = p.below; faultless = p.faultless })
at_layer n (Assume c) h p o k l = labelled_branch n k l (facts_of c false) (cases_pass n c false p.below p.faultless (few_operators c (and_parts (cond_is_limited c) true o).0))
at_layer n (If c A B) h p o k l =
    let q = and_parts (cond_is_limited c) (all_limited A && all_limited B) o in
    let f = none_parts (dnf_fault n c false) (dnf_fault n c true) p.faultless in
    labelled-++ n (branch k (first (pieces A) (k + 1) l) (facts_of c false) ++ branch k (first (pieces B) (k + 1 + sizes (pieces A)) l) (facts_of c true)) (all_arrows (pieces A) (k + 1) l ++ all_arrows (pieces B) (k + 1 + sizes (pieces A)) l)
    (choice n k (first (pieces A) (k + 1) l) (first (pieces B) (k + 1 + sizes (pieces A)) l) c p.below f.0 f.1 (few_operators c q.0)) (two_blocks n A B h p.inside q.1 k l)
at_layer n (IfAny A B) h p o k l =
    labelled-++ n (arrow k (first (pieces A) (k + 1) l) idle ∷ arrow k (first (pieces B) (k + 1 + sizes (pieces A)) l) idle ∷ []) (all_arrows (pieces A) (k + 1) l ++ all_arrows (pieces B) (k + 1 + sizes (pieces A)) l)
    (labelled_two n k (first (pieces A) (k + 1) l) (first (pieces B) (k + 1 + sizes (pieces A)) l)) (two_blocks n A B h p.inside o k l)
at_layer n (While c A) h p o k l =
    let q = and_parts (cond_is_limited c) (all_limited A) o in
    let f = none_parts (dnf_fault n c false) (dnf_fault n c true) p.faultless in
    labelled-++ n (branch k (first (pieces A) (k + 1) k) (facts_of c false) ++ branch k l (facts_of c true)) (all_arrows (pieces A) (k + 1) k)
    (choice n k (first (pieces A) (k + 1) k) l c p.below f.0 f.1 (few_operators c q.0)) (inner_block n A h p.inside q.1 (k + 1) k)
at_layer n (WhileAny A) h p o k l =
    labelled-++ n (arrow k (first (pieces A) (k + 1) k) idle ∷ arrow k l idle ∷ []) (all_arrows (pieces A) (k + 1) k)
    (labelled_two n k (first (pieces A) (k + 1) k) l) (inner_block n A h p.inside o (k + 1) k)

kept : (n : ℕ) (S : Stmt) → Kept n S
kept n S = Stmt-induction (Kept n) (λ L h b o k l.
    let e : piece (roll-Stmt L) ≡ piece_in L = fold-roll-Stmt Piece layer L in
    let t : statement_passes n (roll-Stmt L) ≡ pass_step n (map-Stmt Stmt Bool (statement_passes n) L) = fold-roll-Stmt Bool (pass_step n) L in
    let u : stmt_is_limited (roll-Stmt L) ≡ limits_step (map-Stmt Stmt Bool stmt_is_limited L) = fold-roll-Stmt Bool limits_step L in
    subst (λ (p : Piece). Labelled n (p.arrows k l)) (sym e) (at_layer n L h (parts n (map-Stmt Stmt Bool (statement_passes n) L) (sym t ∙ b)) (sym u ∙ o) k l)) S

all_kept : (n : ℕ) (A : List Stmt) → AllByRecursion (Kept n) A
all_kept n [] = tt
all_kept n (S ∷ R) = (kept n S, all_kept n R)

pub labels_pass : (n : ℕ) (A : List Stmt) → all_pass n A ≡ true → all_limited A ≡ true → Labelled n (arrows_of A)
labels_pass n A b o = labelled_block n A (all_kept n A) b o 0 (exit_of A)
