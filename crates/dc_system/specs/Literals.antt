-- The numbers and the operators that a program's text has.
use Rattle.std.specs.Prelude.{ℕ, ltb, eqb, if◌then◌else◌, List, [], ◌∷◌, ◌++◌}
use Rattle.dc_syntax.specs.declared.tree.Expr.{Expr, Expr-F, fold-Expr}
use Rattle.dc_syntax.specs.declared.tree.Expr.TheOpen as F
use Rattle.dc_syntax.specs.declared.tree.Cond.{Cond, Cond-F, fold-Cond}
use Rattle.dc_syntax.specs.declared.tree.Cond.TheOpen as G
use Rattle.dc_syntax.specs.declared.tree.Stmt.{Stmt, Stmt-F, fold-Stmt}
use Rattle.dc_syntax.specs.declared.tree.Stmt.TheOpen.{Skip, Assign, AnyOf, Between, Tick, Assume, If, IfAny, While, WhileAny}

-- ---- numbers, from left to right
abbrev pub expr_numbers_step : Expr-F (List ℕ) → List ℕ
expr_numbers_step (F.Num k) = k ∷ []
expr_numbers_step (F.Var k) = []
expr_numbers_step (F.Neg a) = a
expr_numbers_step (F.Add a b) = a ++ b
expr_numbers_step (F.Sub a b) = a ++ b
expr_numbers_step (F.Mul a b) = a ++ b

abbrev pub expr_numbers : Expr → List ℕ
expr_numbers e = fold-Expr (List ℕ) expr_numbers_step e

abbrev pub cond_numbers_step : Cond-F (List ℕ) → List ℕ
cond_numbers_step G.True = []
cond_numbers_step G.False = []
cond_numbers_step (G.Cmp a r b) = expr_numbers a ++ expr_numbers b
cond_numbers_step (G.Not c) = c
cond_numbers_step (G.And c d) = c ++ d
cond_numbers_step (G.Or c d) = c ++ d

abbrev pub cond_numbers : Cond → List ℕ
cond_numbers c = fold-Cond (List ℕ) cond_numbers_step c

abbrev pub joined : List (List ℕ) → List ℕ
joined [] = []
joined (x ∷ xs) = x ++ joined xs

abbrev pub stmt_numbers_step : Stmt-F (List ℕ) → List ℕ
stmt_numbers_step Skip = []
stmt_numbers_step (Assign x e) = expr_numbers e
stmt_numbers_step (AnyOf x) = []
stmt_numbers_step (Between x a b) = expr_numbers a ++ expr_numbers b
stmt_numbers_step (Tick e) = expr_numbers e
stmt_numbers_step (Assume c) = cond_numbers c
stmt_numbers_step (If c A B) = cond_numbers c ++ (joined A ++ joined B)
stmt_numbers_step (IfAny A B) = joined A ++ joined B
stmt_numbers_step (While c A) = cond_numbers c ++ joined A
stmt_numbers_step (WhileAny A) = joined A

abbrev pub stmt_numbers : Stmt → List ℕ
stmt_numbers S = fold-Stmt (List ℕ) stmt_numbers_step S

abbrev pub numbers_of : List Stmt → List ℕ
numbers_of [] = []
numbers_of (S ∷ R) = stmt_numbers S ++ numbers_of R

-- ---- rising, each once
abbrev pub with_number : ℕ → List ℕ → List ℕ
with_number k [] = k ∷ []
with_number k (x ∷ xs) =
    if ltb k x then k ∷ x ∷ xs else (if eqb k x then x ∷ xs else x ∷ with_number k xs)

-- one after another, into those that are there
abbrev pub with_numbers : List ℕ → List ℕ → List ℕ
with_numbers out [] = out
with_numbers out (k ∷ ks) = with_numbers (with_number k out) ks

abbrev pub literals_of : List Stmt → List ℕ
literals_of A = with_numbers [] (numbers_of A)
