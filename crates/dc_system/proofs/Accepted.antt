-- What the proofs of this crate use of a program.
use Rattle.std.proofs.Common.{◌≡◌, ℕ, ◌≤◌, Bool, true, false, ◌&&◌, leb, List, [], ◌∷◌, ◌++◌, map, length, refl, sym, subst, ◌∙◌, arith}
use Rattle.std.specs.List.{AllByRecursion}
use Rattle.std.proofs.lemmas.Bool.Decides.{nat_tests}
use Rattle.dc_syntax.specs.declared.tree.Expr.{Expr, Expr-F, roll-Expr, fold-roll-Expr}
use Rattle.dc_syntax.specs.declared.tree.Expr.TheOpen as F
use Rattle.dc_syntax.specs.declared.tree.Cond.{Cond, Cond-F, roll-Cond, fold-roll-Cond}
use Rattle.dc_syntax.specs.declared.tree.Cond.TheOpen as G
use Rattle.dc_syntax.specs.declared.tree.Stmt.{Stmt, Stmt-F, roll-Stmt, fold-roll-Stmt}
use Rattle.dc_syntax.specs.declared.tree.Stmt.TheOpen as H
use Rattle.dc_syntax.specs.declared.tree.Proc.{Proc}
use Rattle.dc_syntax.specs.Trees.{EachExpr, EachCond, EachStmt}
use Rattle.dc_syntax.proofs.Inductions.{Expr-induction, Cond-induction, Stmt-induction}
use Rattle.dc_affine.specs.Whole as whole
use Rattle.dc_affine.specs.Whole.{FormsPass}
use Rattle.dc_program.specs.Limits.{literals_step, literals_fit, cond_literals_step, cond_literals_fit, is_limited, cond_is_limited, statement_limited, limits_step, stmt_is_limited, all_limited}
use Rattle.dc_program.specs.Programs.{IsProgram}
use Rattle.dc_system.specs.Literals.{expr_numbers_step, expr_numbers, cond_numbers_step, cond_numbers, joined, stmt_numbers_step, stmt_numbers, numbers_of}

pub record IsAccepted (p : Proc) : Type 0 where
  pub few_names : length p.names ≤ 10
  pub params_first : p.params ≤ length p.names
  pub small_literals : AllByRecursion (λ k. k ≤ 2147483647) (numbers_of p.body)
  pub limited : all_limited p.body ≡ true
  pub passes : FormsPass p

abbrev Small : List ℕ → Type 0
Small ks = AllByRecursion (λ k. k ≤ 2147483647) ks

both_small : (xs ys : List ℕ) → Small xs → Small ys → Small (xs ++ ys)
both_small [] ys h g = g
both_small (x ∷ xs) ys h g = (h.0, both_small xs ys h.1 g)

and_left : (a b : Bool) → (a && b) ≡ true → a ≡ true
and_left true b h = refl
and_left false b h = absurd cc

and_right : (a b : Bool) → (a && b) ≡ true → b ≡ true
and_right true b h = h
and_right false b h = absurd cc

small_leb : (n : ℕ) → leb n 2147483647 ≡ true → n ≤ 2147483647
small_leb n h = grind (arith, nat_tests)

subst_small : {xs ys : List ℕ} → xs ≡ ys → Small ys → Small xs
subst_small e h = subst Small (sym e) h

-- ---- expressions

abbrev ExprOf : Expr → Type 0
ExprOf e = literals_fit e ≡ true → Small (expr_numbers e)

expr_layer : (L : Expr-F Expr) → EachExpr ExprOf L → ExprOf (roll-Expr L)
unfolding roll-Expr denote.Hole.Carrier.roll
expr_layer (F.Num n) h l = subst_small (fold-roll-Expr (List ℕ) expr_numbers_step (F.Num n)) (small_leb n (sym (fold-roll-Expr Bool literals_step (F.Num n)) ∙ l), tt)
expr_layer (F.Var i) h l = subst_small (fold-roll-Expr (List ℕ) expr_numbers_step (F.Var i)) tt
expr_layer (F.Neg a) h l = subst_small (fold-roll-Expr (List ℕ) expr_numbers_step (F.Neg a)) (h (sym (fold-roll-Expr Bool literals_step (F.Neg a)) ∙ l))
expr_layer (F.Add a b) h l =
    let z : (literals_fit a && literals_fit b) ≡ true = sym (fold-roll-Expr Bool literals_step (F.Add a b)) ∙ l in
    subst_small (fold-roll-Expr (List ℕ) expr_numbers_step (F.Add a b)) (both_small (expr_numbers a) (expr_numbers b) (h.0 (and_left _ _ z)) (h.1 (and_right _ _ z)))
expr_layer (F.Sub a b) h l =
    let z : (literals_fit a && literals_fit b) ≡ true = sym (fold-roll-Expr Bool literals_step (F.Sub a b)) ∙ l in
    subst_small (fold-roll-Expr (List ℕ) expr_numbers_step (F.Sub a b)) (both_small (expr_numbers a) (expr_numbers b) (h.0 (and_left _ _ z)) (h.1 (and_right _ _ z)))
expr_layer (F.Mul a b) h l =
    let z : (literals_fit a && literals_fit b) ≡ true = sym (fold-roll-Expr Bool literals_step (F.Mul a b)) ∙ l in
    subst_small (fold-roll-Expr (List ℕ) expr_numbers_step (F.Mul a b)) (both_small (expr_numbers a) (expr_numbers b) (h.0 (and_left _ _ z)) (h.1 (and_right _ _ z)))

expr_of : (e : Expr) → ExprOf e
expr_of e = Expr-induction ExprOf expr_layer e

small_expr : (e : Expr) → is_limited e ≡ true → Small (expr_numbers e)
small_expr e l = expr_of e (and_left _ _ l)

-- ---- conditions

abbrev CondOf : Cond → Type 0
CondOf c = cond_literals_fit c ≡ true → Small (cond_numbers c)

cond_layer : (L : Cond-F Cond) → EachCond CondOf L → CondOf (roll-Cond L)
unfolding roll-Cond denote.Hole.Carrier.roll
cond_layer G.True h l = subst_small (fold-roll-Cond (List ℕ) cond_numbers_step G.True) tt
cond_layer G.False h l = subst_small (fold-roll-Cond (List ℕ) cond_numbers_step G.False) tt
cond_layer (G.Cmp a r b) h l =
    let z : (literals_fit a && literals_fit b) ≡ true = sym (fold-roll-Cond Bool cond_literals_step (G.Cmp a r b)) ∙ l in
    subst_small (fold-roll-Cond (List ℕ) cond_numbers_step (G.Cmp a r b)) (both_small (expr_numbers a) (expr_numbers b) (expr_of a (and_left _ _ z)) (expr_of b (and_right _ _ z)))
cond_layer (G.Not a) h l = subst_small (fold-roll-Cond (List ℕ) cond_numbers_step (G.Not a)) (h (sym (fold-roll-Cond Bool cond_literals_step (G.Not a)) ∙ l))
cond_layer (G.And a b) h l =
    let z : (cond_literals_fit a && cond_literals_fit b) ≡ true = sym (fold-roll-Cond Bool cond_literals_step (G.And a b)) ∙ l in
    subst_small (fold-roll-Cond (List ℕ) cond_numbers_step (G.And a b)) (both_small (cond_numbers a) (cond_numbers b) (h.0 (and_left _ _ z)) (h.1 (and_right _ _ z)))
cond_layer (G.Or a b) h l =
    let z : (cond_literals_fit a && cond_literals_fit b) ≡ true = sym (fold-roll-Cond Bool cond_literals_step (G.Or a b)) ∙ l in
    subst_small (fold-roll-Cond (List ℕ) cond_numbers_step (G.Or a b)) (both_small (cond_numbers a) (cond_numbers b) (h.0 (and_left _ _ z)) (h.1 (and_right _ _ z)))

cond_of : (c : Cond) → CondOf c
cond_of c = Cond-induction CondOf cond_layer c

small_cond : (c : Cond) → cond_is_limited c ≡ true → Small (cond_numbers c)
small_cond c l = cond_of c (and_left _ _ l)

-- ---- statements

abbrev StmtOf : Stmt → Type 0
StmtOf S = stmt_is_limited S ≡ true → Small (stmt_numbers S)

inside : (L : Stmt-F Bool) → limits_step L ≡ true → whole.inner L ≡ true
inside L h = and_right (statement_limited L) (whole.inner L) h

own : (L : Stmt-F Bool) → limits_step L ≡ true → statement_limited L ≡ true
own L h = and_left (statement_limited L) (whole.inner L) h

all_of : (A : List Stmt) → AllByRecursion StmtOf A → whole.each (map stmt_is_limited A) ≡ true → Small (joined (map stmt_numbers A))
all_of [] h l = tt
all_of (S ∷ A) h l = both_small (stmt_numbers S) _ (h.0 (and_left _ _ l)) (all_of A h.1 (and_right _ _ l))

stmt_layer : (L : Stmt-F Stmt) → EachStmt StmtOf L → StmtOf (roll-Stmt L)
unfolding roll-Stmt denote.Hole.Carrier.roll
stmt_layer H.Skip h l = subst_small (fold-roll-Stmt (List ℕ) stmt_numbers_step H.Skip) tt
stmt_layer (H.AnyOf i) h l = subst_small (fold-roll-Stmt (List ℕ) stmt_numbers_step (H.AnyOf i)) tt
stmt_layer (H.Assign i e) h l =
    let z = (own (H.Assign i e) (sym (fold-roll-Stmt Bool limits_step (H.Assign i e)) ∙ l)) in
    subst_small (fold-roll-Stmt (List ℕ) stmt_numbers_step (H.Assign i e)) (small_expr e z)
stmt_layer (H.Tick e) h l =
    let z = (own (H.Tick e) (sym (fold-roll-Stmt Bool limits_step (H.Tick e)) ∙ l)) in
    subst_small (fold-roll-Stmt (List ℕ) stmt_numbers_step (H.Tick e)) (small_expr e z)
stmt_layer (H.Assume c) h l =
    let z = (own (H.Assume c) (sym (fold-roll-Stmt Bool limits_step (H.Assume c)) ∙ l)) in
    subst_small (fold-roll-Stmt (List ℕ) stmt_numbers_step (H.Assume c)) (small_cond c z)
stmt_layer (H.Between i a b) h l =
    let z = (own (H.Between i a b) (sym (fold-roll-Stmt Bool limits_step (H.Between i a b)) ∙ l)) in
    subst_small (fold-roll-Stmt (List ℕ) stmt_numbers_step (H.Between i a b)) (both_small (expr_numbers a) (expr_numbers b) (small_expr a (and_left _ _ z)) (small_expr b (and_right _ _ z)))
stmt_layer (H.If c A B) h l =
    let z = (own (H.If c (map stmt_is_limited A) (map stmt_is_limited B)) (sym (fold-roll-Stmt Bool limits_step (H.If c A B)) ∙ l)) in
    let i = (inside (H.If c (map stmt_is_limited A) (map stmt_is_limited B)) (sym (fold-roll-Stmt Bool limits_step (H.If c A B)) ∙ l)) in
    let f = all_of A h.0 (and_left _ _ i) in
    let g = all_of B h.1 (and_right _ _ i) in
    subst_small (fold-roll-Stmt (List ℕ) stmt_numbers_step (H.If c A B)) (both_small (cond_numbers c) _ (small_cond c z) (both_small _ _ f g))
stmt_layer (H.IfAny A B) h l =
    let i = (inside (H.IfAny (map stmt_is_limited A) (map stmt_is_limited B)) (sym (fold-roll-Stmt Bool limits_step (H.IfAny A B)) ∙ l)) in
    let f = all_of A h.0 (and_left _ _ i) in
    let g = all_of B h.1 (and_right _ _ i) in
    subst_small (fold-roll-Stmt (List ℕ) stmt_numbers_step (H.IfAny A B)) (both_small _ _ f g)
stmt_layer (H.While c A) h l =
    let z = (own (H.While c (map stmt_is_limited A)) (sym (fold-roll-Stmt Bool limits_step (H.While c A)) ∙ l)) in
    let f = all_of A h (inside (H.While c (map stmt_is_limited A)) (sym (fold-roll-Stmt Bool limits_step (H.While c A)) ∙ l)) in
    subst_small (fold-roll-Stmt (List ℕ) stmt_numbers_step (H.While c A)) (both_small (cond_numbers c) _ (small_cond c z) f)
stmt_layer (H.WhileAny A) h l =
    subst_small (fold-roll-Stmt (List ℕ) stmt_numbers_step (H.WhileAny A)) (all_of A h (inside (H.WhileAny (map stmt_is_limited A)) (sym (fold-roll-Stmt Bool limits_step (H.WhileAny A)) ∙ l)))

whole_of : (A : List Stmt) → all_limited A ≡ true → Small (numbers_of A)
whole_of [] l = tt
whole_of (S ∷ A) l = both_small (stmt_numbers S) _ (Stmt-induction StmtOf stmt_layer S (and_left _ _ l)) (whole_of A (and_right _ _ l))

pub accepted : (p : Proc) → IsProgram p → IsAccepted p
accepted p h = record { few_names = h.few; params_first = h.params; small_literals = whole_of p.body h.limited; limited = h.limited; passes = h.forms }
