-- The faults of a statement and its variables, by its outermost layer.
use Rattle.std.proofs.Common.{◌≡◌, ℕ, zero, suc, ◌+◌, ◌<◌, ◌≤◌, Bool, true, List, [], ◌∷◌, ◌++◌, map, length, get_or, refl, sym, ap, ap₂, ◌∙◌, arith, length-append}
use Rattle.std.specs.declared.option.Option.{Option}
use Rattle.std.proofs.lemmas.Bool.{and_parts}
use Rattle.dc_syntax.specs.declared.tree.Cond.{Cond}
use Rattle.dc_syntax.specs.declared.tree.Stmt.{Stmt, Stmt-F, out-Stmt, map-Stmt, fold_out-Stmt}
use Rattle.dc_syntax.specs.declared.tree.Stmt.TheVariants as v
use Rattle.dc_syntax.specs.declared.tree.Stmt.TheOpen.{Skip, Assign, AnyOf, Between, Tick, Assume, If, IfAny, While, WhileAny}
use Rattle.dc_affine.specs.declared.form.FormFault.{FormFault}
use Rattle.dc_affine.specs.Whole.{statement_fault, statement_below, each}
use Rattle.dc_parse.specs.Forms.{joined, faults_step, faults_in, all_faults, below_step, stmt_below, all_below}

-- ---- faults

pub joined_map : (n : ℕ) (A : List Stmt) → joined (map (faults_in n) A) ≡ all_faults n A
joined_map n [] = refl
joined_map n (S ∷ R) = ap (λ z. faults_in n S ++ z) (joined_map n R)

-- of the statements inside
abbrev pub inside : ℕ → Stmt-F Stmt → List (Option FormFault)
inside n (If c A B) = all_faults n A ++ all_faults n B
inside n (IfAny A B) = all_faults n A ++ all_faults n B
inside n (While c A) = all_faults n A
inside n (WhileAny A) = all_faults n A
inside n Skip = []
inside n (Assign k e) = []
inside n (AnyOf k) = []
inside n (Between k a b) = []
inside n (Tick e) = []
inside n (Assume c) = []

pub faults_layer : (n : ℕ) (L : Stmt-F Stmt) → faults_step n (map-Stmt Stmt (List (Option FormFault)) (faults_in n) L) ≡ (statement_fault n L ∷ []) ++ inside n L
faults_layer n (If c A B) = ap (λ z. statement_fault {A = Stmt} n (If c A B) ∷ z) (ap₂ ◌++◌ (joined_map n A) (joined_map n B))
faults_layer n (IfAny A B) = ap (λ z. statement_fault {A = Stmt} n (IfAny A B) ∷ z) (ap₂ ◌++◌ (joined_map n A) (joined_map n B))
faults_layer n (While c A) = ap (λ z. statement_fault {A = Stmt} n (While c A) ∷ z) (joined_map n A)
faults_layer n (WhileAny A) = ap (λ z. statement_fault {A = Stmt} n (WhileAny A) ∷ z) (joined_map n A)
faults_layer n Skip = refl
faults_layer n (Assign k e) = refl
faults_layer n (AnyOf k) = refl
faults_layer n (Between k a b) = refl
faults_layer n (Tick e) = refl
faults_layer n (Assume c) = refl

pub faults_of : (n : ℕ) (S : Stmt) → faults_in n S ≡ (statement_fault n (out-Stmt S) ∷ []) ++ inside n (out-Stmt S)
faults_of n S = fold_out-Stmt (List (Option FormFault)) (faults_step n) S ∙ faults_layer n (out-Stmt S)

pub faults_at : (n : ℕ) (S : Stmt) (L : Stmt-F Stmt) → out-Stmt S ≡ L → faults_in n S ≡ (statement_fault n (out-Stmt S) ∷ []) ++ inside n L
faults_at n S L e = faults_of n S ∙ ap (λ z. (statement_fault n (out-Stmt S) ∷ []) ++ inside n z) e

-- ---- layers of a known statement

pub out_If : {S : Stmt} (c : Cond) (A B X Y : List Stmt) → S ≡ v.If c A B → A ≡ X → B ≡ Y → out-Stmt S ≡ If c X Y
out_If c A B X Y e p q = ap out-Stmt e ∙ (v.outs-If c A B ∙ (ap (λ z. If c z B) p ∙ ap (λ z. If c X z) q))

pub out_IfAny : {S : Stmt} (A B X Y : List Stmt) → S ≡ v.IfAny A B → A ≡ X → B ≡ Y → out-Stmt S ≡ IfAny X Y
out_IfAny A B X Y e p q = ap out-Stmt e ∙ (v.outs-IfAny A B ∙ (ap (λ z. IfAny z B) p ∙ ap (λ z. IfAny X z) q))

pub out_While : {S : Stmt} (c : Cond) (A X : List Stmt) → S ≡ v.While c A → A ≡ X → out-Stmt S ≡ While c X
out_While c A X e p = ap out-Stmt e ∙ (v.outs-While c A ∙ ap (λ z. While c z) p)

pub out_WhileAny : {S : Stmt} (A X : List Stmt) → S ≡ v.WhileAny A → A ≡ X → out-Stmt S ≡ WhileAny X
out_WhileAny A X e p = ap out-Stmt e ∙ (v.outs-WhileAny A ∙ ap WhileAny p)

-- ---- variables

pub below_out : (n : ℕ) (S : Stmt) (L : Stmt-F Stmt) → out-Stmt S ≡ L → stmt_below n S ≡ true → below_step n (map-Stmt Stmt Bool (stmt_below n) L) ≡ true
below_out n S L e h = sym (fold_out-Stmt Bool (below_step n) S ∙ ap (λ z. below_step n (map-Stmt Stmt Bool (stmt_below n) z)) e) ∙ h

same_below : (n : ℕ) (L : Stmt-F Stmt) → statement_below n (map-Stmt Stmt Bool (stmt_below n) L) ≡ statement_below n L
same_below n (If c A B) = refl
same_below n (IfAny A B) = refl
same_below n (While c A) = refl
same_below n (WhileAny A) = refl
same_below n Skip = refl
same_below n (Assign k e) = refl
same_below n (AnyOf k) = refl
same_below n (Between k a b) = refl
same_below n (Tick e) = refl
same_below n (Assume c) = refl

pub own_below : (n : ℕ) (S : Stmt) → stmt_below n S ≡ true → statement_below n (out-Stmt S) ≡ true
own_below n S h = sym (same_below n (out-Stmt S)) ∙ (and_parts (statement_below n (map-Stmt Stmt Bool (stmt_below n) (out-Stmt S))) _ (below_out n S (out-Stmt S) refl h)).0

pub below_If : (n : ℕ) (S : Stmt) (c : Cond) (A B : List Stmt) → out-Stmt S ≡ If c A B → stmt_below n S ≡ true → (all_below n A ≡ true) × (all_below n B ≡ true)
below_If n S c A B e h =
    let p : _ = and_parts (statement_below {A = Bool} n (If c (map (stmt_below n) A) (map (stmt_below n) B))) _ (below_out n S (If c A B) e h) in
    let q : _ = and_parts (each (map (stmt_below n) A)) (each (map (stmt_below n) B)) p.1 in
    (q.0, q.1)

pub below_IfAny : (n : ℕ) (S : Stmt) (A B : List Stmt) → out-Stmt S ≡ IfAny A B → stmt_below n S ≡ true → (all_below n A ≡ true) × (all_below n B ≡ true)
below_IfAny n S A B e h =
    let q : _ = and_parts (each (map (stmt_below n) A)) (each (map (stmt_below n) B)) (below_out n S (IfAny A B) e h) in
    (q.0, q.1)

pub below_While : (n : ℕ) (S : Stmt) (c : Cond) (A : List Stmt) → out-Stmt S ≡ While c A → stmt_below n S ≡ true → all_below n A ≡ true
below_While n S c A e h =
    let p : _ = and_parts (statement_below {A = Bool} n (While c (map (stmt_below n) A))) _ (below_out n S (While c A) e h) in
    p.1

pub below_WhileAny : (n : ℕ) (S : Stmt) (A : List Stmt) → out-Stmt S ≡ WhileAny A → stmt_below n S ≡ true → all_below n A ≡ true
below_WhileAny n S A e h = below_out n S (WhileAny A) e h

pub below_at : (n : ℕ) (A : List Stmt) (i : ℕ) (S : Stmt) → i < length A → S ≡ get_or A i S → all_below n A ≡ true → stmt_below n S ≡ true
below_at n [] i S l e h = absurd (omega arith)
below_at n (X ∷ R) zero S l e h = ap (stmt_below n) e ∙ (and_parts (stmt_below n X) (all_below n R) h).0
below_at n (X ∷ R) (suc i) S l e h = below_at n R i S (omega arith) e (and_parts (stmt_below n X) (all_below n R) h).1

-- ---- numbers of statements

pub counted : (f : Option FormFault) (gs : List (Option FormFault)) (hs : List (Option FormFault)) → hs ≡ (f ∷ []) ++ gs → length hs ≡ 1 + length gs
counted f gs hs e = ap length e ∙ omega arith

pub count_If : (n : ℕ) (S : Stmt) (c : Cond) (A B : List Stmt) → out-Stmt S ≡ If c A B → length (faults_in n S) ≡ 1 + (length (all_faults n A) + length (all_faults n B))
count_If n S c A B e = counted (statement_fault n (out-Stmt S)) (all_faults n A ++ all_faults n B) (faults_in n S) (faults_at n S (If c A B) e) ∙ ap (λ z. 1 + z) (length-append (all_faults n A) (all_faults n B))

pub count_IfAny : (n : ℕ) (S : Stmt) (A B : List Stmt) → out-Stmt S ≡ IfAny A B → length (faults_in n S) ≡ 1 + (length (all_faults n A) + length (all_faults n B))
count_IfAny n S A B e = counted (statement_fault n (out-Stmt S)) (all_faults n A ++ all_faults n B) (faults_in n S) (faults_at n S (IfAny A B) e) ∙ ap (λ z. 1 + z) (length-append (all_faults n A) (all_faults n B))

pub count_While : (n : ℕ) (S : Stmt) (c : Cond) (A : List Stmt) → out-Stmt S ≡ While c A → length (faults_in n S) ≡ 1 + length (all_faults n A)
count_While n S c A e = counted (statement_fault n (out-Stmt S)) (all_faults n A) (faults_in n S) (faults_at n S (While c A) e)

pub count_WhileAny : (n : ℕ) (S : Stmt) (A : List Stmt) → out-Stmt S ≡ WhileAny A → length (faults_in n S) ≡ 1 + length (all_faults n A)
count_WhileAny n S A e = counted (statement_fault n (out-Stmt S)) (all_faults n A) (faults_in n S) (faults_at n S (WhileAny A) e)

pub count_at : (n : ℕ) (A : List Stmt) (i : ℕ) (S : Stmt) → i < length A → S ≡ get_or A i S → length (faults_in n S) ≤ length (all_faults n A)
count_at n [] i S l e = absurd (omega arith)
count_at n (X ∷ R) zero S l e = omega (arith, ap (λ z. length (faults_in n z)) e, length-append (faults_in n X) (all_faults n R))
count_at n (X ∷ R) (suc i) S l e = omega (arith, count_at n R i S (omega arith) e, length-append (faults_in n X) (all_faults n R))
