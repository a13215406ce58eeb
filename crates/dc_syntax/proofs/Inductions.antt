-- Induction over the trees, for any property.
use Rattle.std.specs.List.{AllByRecursion}
use Rattle.std.proofs.Common.{subst, List, [], ◌∷◌, map}
use Rattle.dc_syntax.specs.declared.tree.Expr.{Expr, Expr-F, roll-Expr, ind-Expr, map-Expr}
use Rattle.dc_syntax.specs.declared.tree.Expr.TheOpen as F
use Rattle.dc_syntax.specs.declared.tree.Cond.{Cond, Cond-F, roll-Cond, ind-Cond, map-Cond}
use Rattle.dc_syntax.specs.declared.tree.Cond.TheOpen as G
use Rattle.dc_syntax.specs.declared.tree.Stmt.{Stmt, Stmt-F, roll-Stmt, ind-Stmt, map-Stmt}
use Rattle.dc_syntax.specs.declared.tree.Stmt.TheOpen.{Skip, Assign, AnyOf, Between, Tick, Assume, If, IfAny, While, WhileAny}
use Rattle.dc_syntax.specs.Trees.{EachExpr, EachCond, EachStmt}

module _ (P : Expr → Type 0) (W : Type 0) (val : W → Expr) (fact : (w : W) → P (val w)) where
  each-Expr : (y : Expr-F W) → EachExpr P (map-Expr W Expr val y)
  each-Expr (F.Num n) = tt
  each-Expr (F.Var k) = tt
  each-Expr (F.Neg a) = fact a
  each-Expr (F.Add a b) = (fact a, fact b)
  each-Expr (F.Sub a b) = (fact a, fact b)
  each-Expr (F.Mul a b) = (fact a, fact b)

pub Expr-induction : (P : Expr → Type 0) → ((L : Expr-F Expr) → EachExpr P L → P (roll-Expr L)) → (e : Expr) → P e
Expr-induction P step e =
    ind-Expr P (λ x y q. subst (λ l. P (roll-Expr l)) q (step (map-Expr _ Expr (λ w. w.0) y) (each-Expr P _ (λ w. w.0) (λ w. w.1) y))) e

module _ (P : Cond → Type 0) (W : Type 0) (val : W → Cond) (fact : (w : W) → P (val w)) where
  each-Cond : (y : Cond-F W) → EachCond P (map-Cond W Cond val y)
  each-Cond G.True = tt
  each-Cond G.False = tt
  each-Cond (G.Cmp a r b) = tt
  each-Cond (G.Not c) = fact c
  each-Cond (G.And c d) = (fact c, fact d)
  each-Cond (G.Or c d) = (fact c, fact d)

pub Cond-induction : (P : Cond → Type 0) → ((L : Cond-F Cond) → EachCond P L → P (roll-Cond L)) → (c : Cond) → P c
Cond-induction P step c =
    ind-Cond P (λ x y q. subst (λ l. P (roll-Cond l)) q (step (map-Cond _ Cond (λ w. w.0) y) (each-Cond P _ (λ w. w.0) (λ w. w.1) y))) c

module _ (P : Stmt → Type 0) (W : Type 0) (val : W → Stmt) (fact : (w : W) → P (val w)) where
  alls : (ws : List W) → AllByRecursion P (map val ws)
  alls [] = tt
  alls (w ∷ ws) = (fact w, alls ws)

  each-Stmt : (y : Stmt-F W) → EachStmt P (map-Stmt W Stmt val y)
  each-Stmt (If b A B) = (alls A, alls B)
  each-Stmt (IfAny A B) = (alls A, alls B)
  each-Stmt (While b A) = alls A
  each-Stmt (WhileAny A) = alls A
  each-Stmt Skip = tt
  each-Stmt (Assign k e) = tt
  each-Stmt (AnyOf k) = tt
  each-Stmt (Between k a b) = tt
  each-Stmt (Tick e) = tt
  each-Stmt (Assume b) = tt

pub Stmt-induction : (P : Stmt → Type 0) → ((L : Stmt-F Stmt) → EachStmt P L → P (roll-Stmt L)) → (S : Stmt) → P S
Stmt-induction P step S =
    ind-Stmt P (λ x y q. subst (λ l. P (roll-Stmt l)) q (step (map-Stmt _ Stmt (λ w. w.0) y) (each-Stmt P _ (λ w. w.0) (λ w. w.1) y))) S
