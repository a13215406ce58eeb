-- The numbers of trees by their parts.
use Rattle.std.specs.Prelude.{◌≡◌, ℕ, List, [], ◌∷◌, ◌++◌, map, refl}
use Rattle.std.proofs.Common.{sym, ◌∙◌, ap, ap₂}
use Rattle.dc_syntax.specs.declared.tree.Expr.{Expr, Expr-F, out-Expr, map-Expr, fold_out-Expr}
use Rattle.dc_syntax.specs.declared.tree.Expr.TheOpen as F
use Rattle.dc_syntax.specs.declared.tree.Expr.TheVariants as w
use Rattle.dc_syntax.specs.declared.tree.Rel.{Rel}
use Rattle.dc_syntax.specs.declared.tree.Cond.{Cond, Cond-F, out-Cond, map-Cond, fold_out-Cond}
use Rattle.dc_syntax.specs.declared.tree.Cond.TheOpen as G
use Rattle.dc_syntax.specs.declared.tree.Cond.TheVariants as u
use Rattle.dc_syntax.specs.declared.tree.Stmt.{Stmt, Stmt-F, out-Stmt, map-Stmt, fold_out-Stmt}
use Rattle.dc_syntax.specs.declared.tree.Stmt.TheOpen.{Between, If, IfAny, While, WhileAny}
use Rattle.dc_syntax.specs.declared.tree.Stmt.TheVariants as v
use Rattle.dc_system.specs.Literals.{expr_numbers_step, expr_numbers, cond_numbers_step, cond_numbers, joined, stmt_numbers_step, stmt_numbers, numbers_of, with_numbers}
use Rattle.dc_system.proofs.Rising.{with-++}

-- ---- one list after another
pub two : (o p q n x y x' y' : List ℕ) → n ≡ x ++ y → x' ≡ x → y' ≡ y → p ≡ with_numbers o x' → q ≡ with_numbers p y' → q ≡ with_numbers o n
two o p q n x y x' y' e f g h k = k ∙ ap₂ with_numbers (h ∙ ap (with_numbers o) f) g ∙ sym (with-++ o x y) ∙ ap (with_numbers o) (sym e)

pub three : (o p q r n x y z x' y' z' : List ℕ) → n ≡ x ++ (y ++ z) → x' ≡ x → y' ≡ y → z' ≡ z → p ≡ with_numbers o x' → q ≡ with_numbers p y' → r ≡ with_numbers q z' → r ≡ with_numbers o n
three o p q r n x y z x' y' z' e f g i h k l = two o p r n x (y ++ z) x' (y ++ z) e f refl h (two p q r (y ++ z) y z y' z' refl g i k l)

-- ---- by the parts
expr_in : (e : Expr) (l : Expr-F Expr) → out-Expr e ≡ l → expr_numbers e ≡ expr_numbers_step (map-Expr Expr (List ℕ) expr_numbers l)
expr_in e l o = fold_out-Expr (List ℕ) expr_numbers_step e ∙ ap (λ x. expr_numbers_step (map-Expr Expr (List ℕ) expr_numbers x)) o

pub numbers-Add : (e a b : Expr) → e ≡ w.Add a b → expr_numbers e ≡ expr_numbers a ++ expr_numbers b
numbers-Add e a b q = expr_in e (F.Add a b) (ap out-Expr q ∙ w.outs-Add a b)

pub numbers-Sub : (e a b : Expr) → e ≡ w.Sub a b → expr_numbers e ≡ expr_numbers a ++ expr_numbers b
numbers-Sub e a b q = expr_in e (F.Sub a b) (ap out-Expr q ∙ w.outs-Sub a b)

pub numbers-Mul : (e a b : Expr) → e ≡ w.Mul a b → expr_numbers e ≡ expr_numbers a ++ expr_numbers b
numbers-Mul e a b q = expr_in e (F.Mul a b) (ap out-Expr q ∙ w.outs-Mul a b)

cond_in : (c : Cond) (l : Cond-F Cond) → out-Cond c ≡ l → cond_numbers c ≡ cond_numbers_step (map-Cond Cond (List ℕ) cond_numbers l)
cond_in c l o = fold_out-Cond (List ℕ) cond_numbers_step c ∙ ap (λ x. cond_numbers_step (map-Cond Cond (List ℕ) cond_numbers x)) o

pub numbers-Cmp : (c : Cond) (a : Expr) (r : Rel) (b : Expr) → c ≡ u.Cmp a r b → cond_numbers c ≡ expr_numbers a ++ expr_numbers b
numbers-Cmp c a r b q = cond_in c (G.Cmp a r b) (ap out-Cond q ∙ u.outs-Cmp a r b)

pub numbers-And : (c d e : Cond) → c ≡ u.And d e → cond_numbers c ≡ cond_numbers d ++ cond_numbers e
numbers-And c d e q = cond_in c (G.And d e) (ap out-Cond q ∙ u.outs-And d e)

pub numbers-Or : (c d e : Cond) → c ≡ u.Or d e → cond_numbers c ≡ cond_numbers d ++ cond_numbers e
numbers-Or c d e q = cond_in c (G.Or d e) (ap out-Cond q ∙ u.outs-Or d e)

joined_map : (A : List Stmt) → joined (map stmt_numbers A) ≡ numbers_of A
joined_map [] = refl
joined_map (S ∷ R) = ap (λ x. stmt_numbers S ++ x) (joined_map R)

stmt_in : (S : Stmt) (l : Stmt-F Stmt) → out-Stmt S ≡ l → stmt_numbers S ≡ stmt_numbers_step (map-Stmt Stmt (List ℕ) stmt_numbers l)
stmt_in S l o = fold_out-Stmt (List ℕ) stmt_numbers_step S ∙ ap (λ x. stmt_numbers_step (map-Stmt Stmt (List ℕ) stmt_numbers x)) o

pub numbers-Between : (S : Stmt) (x : ℕ) (a b : Expr) → S ≡ v.Between x a b → stmt_numbers S ≡ expr_numbers a ++ expr_numbers b
numbers-Between S x a b q = stmt_in S (Between x a b) (ap out-Stmt q ∙ v.outs-Between x a b)

pub numbers-If : (S : Stmt) (c : Cond) (A B : List Stmt) → S ≡ v.If c A B → stmt_numbers S ≡ cond_numbers c ++ (numbers_of A ++ numbers_of B)
numbers-If S c A B q = stmt_in S (If c A B) (ap out-Stmt q ∙ v.outs-If c A B) ∙ ap₂ (λ x y. cond_numbers c ++ (x ++ y)) (joined_map A) (joined_map B)

pub numbers-IfAny : (S : Stmt) (A B : List Stmt) → S ≡ v.IfAny A B → stmt_numbers S ≡ numbers_of A ++ numbers_of B
numbers-IfAny S A B q = stmt_in S (IfAny A B) (ap out-Stmt q ∙ v.outs-IfAny A B) ∙ ap₂ (λ x y. x ++ y) (joined_map A) (joined_map B)

pub numbers-While : (S : Stmt) (c : Cond) (A : List Stmt) → S ≡ v.While c A → stmt_numbers S ≡ cond_numbers c ++ numbers_of A
numbers-While S c A q = stmt_in S (While c A) (ap out-Stmt q ∙ v.outs-While c A) ∙ ap (λ x. cond_numbers c ++ x) (joined_map A)

pub numbers-WhileAny : (S : Stmt) (A : List Stmt) → S ≡ v.WhileAny A → stmt_numbers S ≡ numbers_of A
numbers-WhileAny S A q = stmt_in S (WhileAny A) (ap out-Stmt q ∙ v.outs-WhileAny A) ∙ joined_map A

pub one_body : (o q n x x' : List ℕ) → n ≡ x → x' ≡ x → q ≡ with_numbers o x' → q ≡ with_numbers o n
one_body o q n x x' e f h = h ∙ ap (with_numbers o) (f ∙ sym e)
