-- Numbers put in their places, one after another.
use Rattle.std.specs.Prelude.{◌≡◌, ℕ, ◌+◌, ◌<◌, ◌≤◌, List, [], ◌∷◌, ◌++◌, length, get_or, take, drop, insert, refl}
use Rattle.std.proofs.Common.{sym, ◌∙◌, ap, arith, take_all, take-append-drop}
use Rattle.std.proofs.lemmas.Bool.{lt-ltb, le-ltb, eq-eqb, ne_eqb}
use Rattle.std.proofs.lemmas.List.{append_assoc, drop_more, drop_all, take_more}
use Rattle.dc_syntax.specs.declared.tree.Stmt.{Stmt}
use Rattle.dc_system.specs.Literals.{with_number, with_numbers, stmt_numbers, numbers_of}

pub with-++ : (out a b : List ℕ) → with_numbers out (a ++ b) ≡ with_numbers (with_numbers out a) b
with-++ out [] b = refl
with-++ out (k ∷ a) b = with-++ (with_number k out) a b

with_larger : (v x : ℕ) (xs : List ℕ) → v < x → with_number v (x ∷ xs) ≡ v ∷ x ∷ xs
with_larger v x xs h = rw (lt-ltb v x h) refl

with_same : (v x : ℕ) (xs : List ℕ) → x ≡ v → with_number v (x ∷ xs) ≡ x ∷ xs
with_same v x xs h = rw (le-ltb v x (omega arith), eq-eqb v x (sym h)) refl

with_smaller : (v x : ℕ) (xs : List ℕ) → x < v → with_number v (x ∷ xs) ≡ x ∷ with_number v xs
with_smaller v x xs h = rw (le-ltb v x (omega arith), ne_eqb v x (λ e. omega arith)) refl

-- ---- the search for the index
pub passes_smaller : (v i x : ℕ) (xs : List ℕ) → i < length xs → x ≡ get_or xs i 0 → x < v → with_number v xs ≡ take i xs ++ with_number v (drop i xs) → with_number v xs ≡ take (i + 1) xs ++ with_number v (drop (i + 1) xs)
passes_smaller v i x xs h e l k =
    let d : drop i xs ≡ get_or xs i 0 ∷ drop (i + 1) xs = drop_more xs i 0 h in
    let t : take (i + 1) xs ≡ take i xs ++ get_or xs i 0 ∷ [] = take_more xs i 0 h in
    k ∙ ap (λ y. take i xs ++ with_number v y) d ∙ ap (λ y. take i xs ++ y) (with_smaller v (get_or xs i 0) (drop (i + 1) xs) (omega arith))
    ∙ sym (append_assoc (take i xs) (get_or xs i 0 ∷ []) (with_number v (drop (i + 1) xs))) ∙ ap (λ y. y ++ with_number v (drop (i + 1) xs)) (sym t)

pub finds_same : (v i x : ℕ) (xs : List ℕ) → i < length xs → x ≡ get_or xs i 0 → x ≡ v → with_number v xs ≡ take i xs ++ with_number v (drop i xs) → xs ≡ with_number v xs
finds_same v i x xs h e l k =
    let d : drop i xs ≡ get_or xs i 0 ∷ drop (i + 1) xs = drop_more xs i 0 h in
    sym (k ∙ ap (λ y. take i xs ++ with_number v y) d ∙ ap (λ y. take i xs ++ y) (with_same v (get_or xs i 0) (drop (i + 1) xs) (sym e ∙ l)) ∙ ap (λ y. take i xs ++ y) (sym d) ∙ take-append-drop i xs)

pub finds_larger : (v i x : ℕ) (xs ys : List ℕ) → i < length xs → x ≡ get_or xs i 0 → v < x → with_number v xs ≡ take i xs ++ with_number v (drop i xs) → ys ≡ insert xs i v → ys ≡ with_number v xs
finds_larger v i x xs ys h e l k g =
    let d : drop i xs ≡ get_or xs i 0 ∷ drop (i + 1) xs = drop_more xs i 0 h in
    g ∙ sym (k ∙ ap (λ y. take i xs ++ with_number v y) d ∙ ap (λ y. take i xs ++ y) (with_larger v (get_or xs i 0) (drop (i + 1) xs) (omega arith)) ∙ ap (λ y. take i xs ++ v ∷ y) (sym d))

pub all_smaller : (v i : ℕ) (xs ys : List ℕ) → length xs ≤ i → with_number v xs ≡ take i xs ++ with_number v (drop i xs) → ys ≡ xs ++ v ∷ [] → ys ≡ with_number v xs
all_smaller v i xs ys h k g =
    let d : drop i xs ≡ [] = drop_all i xs h in
    g ∙ ap (λ y. y ++ v ∷ []) (sym (take_all i xs h)) ∙ sym (k ∙ ap (λ y. take i xs ++ with_number v y) d)

pub ruleset placing = (passes_smaller, finds_same, finds_larger, all_smaller)

-- ---- the loop over a body
pub numbers_step : (i : ℕ) (body : List Stmt) (d : Stmt) (o p f : List ℕ) → i < length body → d ≡ get_or body i d → p ≡ with_numbers o (stmt_numbers d) → with_numbers o (numbers_of (drop i body)) ≡ f → with_numbers p (numbers_of (drop (i + 1) body)) ≡ f
numbers_step i body d o p f h e g k =
    ap (λ y. with_numbers y (numbers_of (drop (i + 1) body))) (g ∙ ap (λ y. with_numbers o (stmt_numbers y)) e)
    ∙ sym (with-++ o (stmt_numbers (get_or body i d)) (numbers_of (drop (i + 1) body)))
    ∙ ap (λ y. with_numbers o (numbers_of y)) (sym (drop_more body i d h)) ∙ k

pub numbers_done : (i : ℕ) (body : List Stmt) (o f : List ℕ) → length body ≤ i → with_numbers o (numbers_of (drop i body)) ≡ f → o ≡ f
numbers_done i body o f h k = ap (λ y. with_numbers o (numbers_of y)) (sym (drop_all i body h)) ∙ k

pub ruleset gathering = (with-++, numbers_step, numbers_done)
