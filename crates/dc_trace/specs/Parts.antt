-- The subexpressions of an expression, of a condition and of a statement.
use Rattle.std.specs.Prelude.{List, [], ◌∷◌, ◌++◌}
use Rattle.dc_syntax.specs.declared.tree.Expr.{Expr, Num, Var, Neg, Add, Sub, Mul, Expr-F, fold-Expr}
use Rattle.dc_syntax.specs.declared.tree.Expr.TheOpen as F
use Rattle.dc_syntax.specs.declared.tree.Cond.{Cond, Cond-F, fold-Cond}
use Rattle.dc_syntax.specs.declared.tree.Cond.TheOpen as G
use Rattle.dc_syntax.specs.declared.tree.Stmt.{Stmt-F}
use Rattle.dc_syntax.specs.declared.tree.Stmt.TheOpen.{Skip, Assign, AnyOf, Between, Tick, Assume, If, IfAny, While, WhileAny}

-- an expression, and the ones that stand in it
pub record Parts : Type 0 where
  pub whole : Expr
  pub inner : List Expr

-- an expression is a subexpression of itself
abbrev pub all_parts : Parts → List Expr
all_parts p = p.whole ∷ p.inner

abbrev pub parts_step : Expr-F Parts → Parts
parts_step (F.Num n) = record { whole = Num n; inner = [] }
parts_step (F.Var k) = record { whole = Var k; inner = [] }
parts_step (F.Neg a) = record { whole = Neg a.whole; inner = all_parts a }
parts_step (F.Add a b) = record { whole = Add a.whole b.whole; inner = all_parts a ++ all_parts b }
parts_step (F.Sub a b) = record { whole = Sub a.whole b.whole; inner = all_parts a ++ all_parts b }
parts_step (F.Mul a b) = record { whole = Mul a.whole b.whole; inner = all_parts a ++ all_parts b }

unfoldable pub subexpressions : Expr → List Expr
subexpressions e = all_parts (fold-Expr Parts parts_step e)

-- those of every comparison
abbrev pub compared_step : Cond-F (List Expr) → List Expr
compared_step G.True = []
compared_step G.False = []
compared_step (G.Cmp a r b) = subexpressions a ++ subexpressions b
compared_step (G.Not c) = c
compared_step (G.And c d) = c ++ d
compared_step (G.Or c d) = c ++ d

unfoldable pub compared_parts : Cond → List Expr
compared_parts c = fold-Cond (List Expr) compared_step c

-- those of a statement's expressions and of its condition, without the statements inside it
abbrev pub parts_of : {A : Type 0} → Stmt-F A → List Expr
parts_of Skip = []
parts_of (Assign k e) = subexpressions e
parts_of (AnyOf k) = []
parts_of (Between k a b) = subexpressions a ++ subexpressions b
parts_of (Tick e) = subexpressions e
parts_of (Assume c) = compared_parts c
parts_of (If c A B) = compared_parts c
parts_of (IfAny A B) = []
parts_of (While c A) = compared_parts c
parts_of (WhileAny A) = []
