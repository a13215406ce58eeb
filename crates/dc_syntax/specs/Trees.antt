-- A property of each tree that stands directly inside another.
use Rattle.std.specs.Prelude.{List, [], ◌∷◌}
use Rattle.std.specs.List.{AllByRecursion}
use Rattle.dc_syntax.specs.declared.tree.Expr.{Expr, Expr-F}
use Rattle.dc_syntax.specs.declared.tree.Expr.TheOpen as F
use Rattle.dc_syntax.specs.declared.tree.Cond.{Cond, Cond-F}
use Rattle.dc_syntax.specs.declared.tree.Cond.TheOpen as G
use Rattle.dc_syntax.specs.declared.tree.Stmt.{Stmt, Stmt-F}
use Rattle.dc_syntax.specs.declared.tree.Stmt.TheOpen.{Skip, Assign, AnyOf, Between, Tick, Assume, If, IfAny, While, WhileAny}

-- P of each operand
abbrev pub EachExpr : (Expr → Type 0) → Expr-F Expr → Type 0
EachExpr P (F.Num n) = Unit {0}
EachExpr P (F.Var k) = Unit {0}
EachExpr P (F.Neg a) = P a
EachExpr P (F.Add a b) = P a × P b
EachExpr P (F.Sub a b) = P a × P b
EachExpr P (F.Mul a b) = P a × P b

-- P of each condition inside
abbrev pub EachCond : (Cond → Type 0) → Cond-F Cond → Type 0
EachCond P G.True = Unit {0}
EachCond P G.False = Unit {0}
EachCond P (G.Cmp a r b) = Unit {0}
EachCond P (G.Not c) = P c
EachCond P (G.And c d) = P c × P d
EachCond P (G.Or c d) = P c × P d

-- P of each statement of the lists inside
abbrev pub EachStmt : (Stmt → Type 0) → Stmt-F Stmt → Type 0
EachStmt P (If b A B) = AllByRecursion P A × AllByRecursion P B
EachStmt P (IfAny A B) = AllByRecursion P A × AllByRecursion P B
EachStmt P (While b A) = AllByRecursion P A
EachStmt P (WhileAny A) = AllByRecursion P A
EachStmt P Skip = Unit {0}
EachStmt P (Assign k e) = Unit {0}
EachStmt P (AnyOf k) = Unit {0}
EachStmt P (Between k a b) = Unit {0}
EachStmt P (Tick e) = Unit {0}
EachStmt P (Assume b) = Unit {0}
