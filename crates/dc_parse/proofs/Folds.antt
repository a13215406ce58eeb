-- Folds of trees, constructor by constructor.
use Rattle.std.proofs.Common.{◌≡◌, ℕ, List, map}
use Rattle.dc_syntax.specs.declared.tree.Expr.{Expr, Expr-F, roll-Expr, fold-Expr, fold-roll-Expr}
use Rattle.dc_syntax.specs.declared.tree.Expr.TheVariants as e
use Rattle.dc_syntax.specs.declared.tree.Expr.TheOpen as F
use Rattle.dc_syntax.specs.declared.tree.Rel.{Rel}
use Rattle.dc_syntax.specs.declared.tree.Cond.{Cond, Cond-F, roll-Cond, fold-Cond, fold-roll-Cond}
use Rattle.dc_syntax.specs.declared.tree.Cond.TheVariants as c
use Rattle.dc_syntax.specs.declared.tree.Cond.TheOpen as G
use Rattle.dc_syntax.specs.declared.tree.Stmt.{Stmt, Stmt-F, roll-Stmt, fold-Stmt, fold-roll-Stmt}
use Rattle.dc_syntax.specs.declared.tree.Stmt.TheVariants as v
use Rattle.dc_syntax.specs.declared.tree.Stmt.TheOpen as H

module _ (T : Type 0) (step : Expr-F T → T) where
  pub at_num : (n : ℕ) → fold-Expr T step (e.Num n) ≡ step (F.Num n)
  unfolding roll-Expr denote.Hole.Carrier.roll
  at_num n = fold-roll-Expr T step (F.Num n)

  pub at_var : (k : ℕ) → fold-Expr T step (e.Var k) ≡ step (F.Var k)
  unfolding roll-Expr denote.Hole.Carrier.roll
  at_var k = fold-roll-Expr T step (F.Var k)

  pub at_neg : (a : Expr) → fold-Expr T step (e.Neg a) ≡ step (F.Neg (fold-Expr T step a))
  unfolding roll-Expr denote.Hole.Carrier.roll
  at_neg a = fold-roll-Expr T step (F.Neg a)

  pub at_add : (a b : Expr) → fold-Expr T step (e.Add a b) ≡ step (F.Add (fold-Expr T step a) (fold-Expr T step b))
  unfolding roll-Expr denote.Hole.Carrier.roll
  at_add a b = fold-roll-Expr T step (F.Add a b)

  pub at_sub : (a b : Expr) → fold-Expr T step (e.Sub a b) ≡ step (F.Sub (fold-Expr T step a) (fold-Expr T step b))
  unfolding roll-Expr denote.Hole.Carrier.roll
  at_sub a b = fold-roll-Expr T step (F.Sub a b)

  pub at_mul : (a b : Expr) → fold-Expr T step (e.Mul a b) ≡ step (F.Mul (fold-Expr T step a) (fold-Expr T step b))
  unfolding roll-Expr denote.Hole.Carrier.roll
  at_mul a b = fold-roll-Expr T step (F.Mul a b)

module _ (T : Type 0) (step : Cond-F T → T) where
  pub at_true : fold-Cond T step c.True ≡ step G.True
  unfolding roll-Cond denote.Hole.Carrier.roll
  at_true = fold-roll-Cond T step G.True

  pub at_false : fold-Cond T step c.False ≡ step G.False
  unfolding roll-Cond denote.Hole.Carrier.roll
  at_false = fold-roll-Cond T step G.False

  pub at_cmp : (a : Expr) (r : Rel) (b : Expr) → fold-Cond T step (c.Cmp a r b) ≡ step (G.Cmp a r b)
  unfolding roll-Cond denote.Hole.Carrier.roll
  at_cmp a r b = fold-roll-Cond T step (G.Cmp a r b)

  pub at_not : (x : Cond) → fold-Cond T step (c.Not x) ≡ step (G.Not (fold-Cond T step x))
  unfolding roll-Cond denote.Hole.Carrier.roll
  at_not x = fold-roll-Cond T step (G.Not x)

  pub at_and : (x y : Cond) → fold-Cond T step (c.And x y) ≡ step (G.And (fold-Cond T step x) (fold-Cond T step y))
  unfolding roll-Cond denote.Hole.Carrier.roll
  at_and x y = fold-roll-Cond T step (G.And x y)

  pub at_or : (x y : Cond) → fold-Cond T step (c.Or x y) ≡ step (G.Or (fold-Cond T step x) (fold-Cond T step y))
  unfolding roll-Cond denote.Hole.Carrier.roll
  at_or x y = fold-roll-Cond T step (G.Or x y)

module _ (T : Type 0) (step : Stmt-F T → T) where
  pub at_skip : fold-Stmt T step v.Skip ≡ step H.Skip
  unfolding roll-Stmt denote.Hole.Carrier.roll
  at_skip = fold-roll-Stmt T step H.Skip

  pub at_assign : (k : ℕ) (a : Expr) → fold-Stmt T step (v.Assign k a) ≡ step (H.Assign k a)
  unfolding roll-Stmt denote.Hole.Carrier.roll
  at_assign k a = fold-roll-Stmt T step (H.Assign k a)

  pub at_any_of : (k : ℕ) → fold-Stmt T step (v.AnyOf k) ≡ step (H.AnyOf k)
  unfolding roll-Stmt denote.Hole.Carrier.roll
  at_any_of k = fold-roll-Stmt T step (H.AnyOf k)

  pub at_between : (k : ℕ) (a b : Expr) → fold-Stmt T step (v.Between k a b) ≡ step (H.Between k a b)
  unfolding roll-Stmt denote.Hole.Carrier.roll
  at_between k a b = fold-roll-Stmt T step (H.Between k a b)

  pub at_tick : (a : Expr) → fold-Stmt T step (v.Tick a) ≡ step (H.Tick a)
  unfolding roll-Stmt denote.Hole.Carrier.roll
  at_tick a = fold-roll-Stmt T step (H.Tick a)

  pub at_assume : (x : Cond) → fold-Stmt T step (v.Assume x) ≡ step (H.Assume x)
  unfolding roll-Stmt denote.Hole.Carrier.roll
  at_assume x = fold-roll-Stmt T step (H.Assume x)

  pub at_if : (x : Cond) (A B : List Stmt) → fold-Stmt T step (v.If x A B) ≡ step (H.If x (map (fold-Stmt T step) A) (map (fold-Stmt T step) B))
  unfolding roll-Stmt denote.Hole.Carrier.roll
  at_if x A B = fold-roll-Stmt T step (H.If x A B)

  pub at_if_any : (A B : List Stmt) → fold-Stmt T step (v.IfAny A B) ≡ step (H.IfAny (map (fold-Stmt T step) A) (map (fold-Stmt T step) B))
  unfolding roll-Stmt denote.Hole.Carrier.roll
  at_if_any A B = fold-roll-Stmt T step (H.IfAny A B)

  pub at_while : (x : Cond) (A : List Stmt) → fold-Stmt T step (v.While x A) ≡ step (H.While x (map (fold-Stmt T step) A))
  unfolding roll-Stmt denote.Hole.Carrier.roll
  at_while x A = fold-roll-Stmt T step (H.While x A)

  pub at_while_any : (A : List Stmt) → fold-Stmt T step (v.WhileAny A) ≡ step (H.WhileAny (map (fold-Stmt T step) A))
  unfolding roll-Stmt denote.Hole.Carrier.roll
  at_while_any A = fold-roll-Stmt T step (H.WhileAny A)
