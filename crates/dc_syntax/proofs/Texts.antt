-- Texts put one after another, and the later part of a list.
use Rattle.std.proofs.Common.{◌≡◌, ap, sym, ◌∙◌, ℕ, ◌++◌, ◌-◌, List, map, length, take, drop, codes, Result, Ok, Err, OnOk}
use Rattle.dc_syntax.specs.declared.tree.Stmt.{Stmt, WhileAny, roll-Stmt, fold-roll-Stmt}
use Rattle.dc_syntax.specs.declared.tree.Stmt.TheOpen as G
use Rattle.dc_syntax.specs.Text.{stmt_text, stmt_step, stmts_text}
use Rattle.std.proofs.lemmas.List.{append_assoc, drop-map, take_rest}

pub regroup : (a b c : List ℕ) → a ++ b ++ c ≡ a ++ (b ++ c)
regroup a b c = append_assoc a b c

pub later : {X Y : Type 0} (f : X → Y) (n : ℕ) (xs : List X) (ys : List Y) → map f xs ≡ ys → map f (take (length xs - n) (drop n xs)) ≡ drop n ys
later f n xs ys h = ap (map f) (take_rest xs n) ∙ sym (drop-map f n xs) ∙ ap (drop n) h

-- the text of a loop by choice
pub text-WhileAny : (names : List (List ℕ)) (A : List Stmt) → stmt_text names (WhileAny A) ≡ codes "while (*) {\n" ++ (stmts_text names A ++ codes "}\n")
unfolding roll-Stmt denote.Hole.Carrier.roll
text-WhileAny names A = fold-roll-Stmt (List ℕ) (stmt_step names) (G.WhileAny A)

pub loop_text : (names : List (List ℕ)) (S : Stmt) (A : List Stmt) (o p q : List ℕ) → S ≡ WhileAny A
    → p ≡ o ++ codes "while (*) {\n" → q ≡ p ++ (stmts_text names A ++ codes "}\n") → q ≡ o ++ stmt_text names S
loop_text names S A o p q e h i = rw (e, text-WhileAny names A, i, h) (regroup o (codes "while (*) {\n") (stmts_text names A ++ codes "}\n"))

pub onward : {T E : Type 0} (r : Result T E) {P Q : Type 0} → (P → Q) → OnOk r P → OnOk r Q
onward (Ok x) f h = f h
onward (Err e) f h = h
