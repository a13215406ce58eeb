-- Places, and turns by the outermost layer.
use Rattle.std.specs.Prelude.{◌≡◌, suc, List, [], ◌∷◌, ◌++◌, length, ℤ, Result, refl}
use Rattle.std.proofs.Common.{sym, ◌∙◌, ap, subst, arith, append_assoc}
use Rattle.std.proofs.lemmas.List.{append-nil}
use Rattle.std.specs.Borrow.{Bor}
use Rattle.dc_syntax.specs.declared.tree.Stmt.{Stmt, Stmt-F, out-Stmt}
use Rattle.dc_syntax.specs.Value.{State}
use Rattle.dc_trace.specs.declared.walk.Halt.{Halt}
use Rattle.dc_trace.specs.Replay.{Config, is_small, turn_of}
use Rattle.dc_trace.specs.Tails.{todo_at, IsTurn}

pub todo-more : (xs : List (Bor (List Stmt))) (a : Bor (List Stmt)) → todo_at (xs ++ a ∷ []) ≡ a.now ++ todo_at xs
todo-more [] a = sym (append-nil a.now)
todo-more (x ∷ xs) a = ap (λ l. l ++ x.now) (todo-more xs a) ∙ append_assoc a.now (todo_at xs) x.now

pub todo-pushed : (xs ys : List (Bor (List Stmt))) (a : Bor (List Stmt)) → ys ≡ xs ++ a ∷ [] → todo_at ys ≡ a.now ++ todo_at xs
todo-pushed xs ys a e = ap todo_at e ∙ todo-more xs a

-- a list without statements is done
pub todo-done : (xs ys : List (Bor (List Stmt))) (a : Bor (List Stmt)) (A : List Stmt) → ys ≡ xs ++ a ∷ [] → a.now ≡ [] → todo_at ys ≡ A → todo_at xs ≡ A
todo-done xs ys a A e h k = ap (λ l. l ++ todo_at xs) (sym h) ∙ sym (todo-pushed xs ys a e) ∙ k

pub todo-taken : (xs ys : List (Bor (List Stmt))) (a : Bor (List Stmt)) (A : List Stmt) (S : Stmt) (R : List Stmt) → ys ≡ xs ++ a ∷ [] → a.now ≡ S ∷ R → todo_at ys ≡ A → A ≡ S ∷ (R ++ todo_at xs)
todo-taken xs ys a A S R e h k = sym k ∙ todo-pushed xs ys a e ∙ ap (λ l. l ++ todo_at xs) h

pub todo-none : (xs : List (Bor (List Stmt))) (A : List Stmt) → length xs ≡ 0 → todo_at xs ≡ A → A ≡ []
todo-none [] A h k = sym k
todo-none (x ∷ xs) A h k = absurd (let e : length (x ∷ xs) ≡ suc (length xs) = refl in omega arith)

pub turn_by : (S : Stmt) (L : Stmt-F Stmt) (R : List Stmt) (s : State) (c : ℤ) (zs : List ℤ) (r : Result (Unit {0}) Halt) (y : Config) → out-Stmt S ≡ L → IsTurn (turn_of is_small S L R s c zs) r y
    → IsTurn (turn_of is_small S (out-Stmt S) R s c zs) r y
turn_by S L R s c zs r y o h = subst (λ l. IsTurn (turn_of is_small S l R s c zs) r y) (sym o) h
