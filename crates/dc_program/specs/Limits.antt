-- The limits of literals and of operators.
use Rattle.std.specs.Prelude.{ℕ, ◌+◌, Bool, true, ◌&&◌, leb, List, map}
use Rattle.dc_syntax.specs.declared.tree.Expr.{Expr, Expr-F, fold-Expr}
use Rattle.dc_syntax.specs.declared.tree.Expr.TheOpen as F
use Rattle.dc_syntax.specs.declared.tree.Cond.{Cond, Cond-F, fold-Cond}
use Rattle.dc_syntax.specs.declared.tree.Cond.TheOpen as G
use Rattle.dc_syntax.specs.declared.tree.Stmt.{Stmt, Stmt-F, fold-Stmt}
use Rattle.dc_syntax.specs.declared.tree.Stmt.TheOpen.{Skip, Assign, AnyOf, Between, Tick, Assume, If, IfAny, While, WhileAny}
use Rattle.dc_affine.specs.Whole.{inner, each}

-- ---- literals: each is at most 2147483647

abbrev pub literals_step : Expr-F Bool → Bool
literals_step (F.Num n) = leb n 2147483647
literals_step (F.Var k) = true
literals_step (F.Neg a) = a
literals_step (F.Add a b) = a && b
literals_step (F.Sub a b) = a && b
literals_step (F.Mul a b) = a && b

abbrev pub literals_fit : Expr → Bool
literals_fit e = fold-Expr Bool literals_step e

abbrev pub cond_literals_step : Cond-F Bool → Bool
cond_literals_step G.True = true
cond_literals_step G.False = true
cond_literals_step (G.Cmp a r b) = literals_fit a && literals_fit b
cond_literals_step (G.Not c) = c
cond_literals_step (G.And c d) = c && d
cond_literals_step (G.Or c d) = c && d

abbrev pub cond_literals_fit : Cond → Bool
cond_literals_fit c = fold-Cond Bool cond_literals_step c

-- the literals of a statement's own expressions and condition, without the statements inside it
abbrev pub statement_literals_fit : {A : Type 0} → Stmt-F A → Bool
statement_literals_fit Skip = true
statement_literals_fit (Assign k e) = literals_fit e
statement_literals_fit (AnyOf k) = true
statement_literals_fit (Between k a b) = literals_fit a && literals_fit b
statement_literals_fit (Tick e) = literals_fit e
statement_literals_fit (Assume c) = cond_literals_fit c
statement_literals_fit (If c A B) = cond_literals_fit c
statement_literals_fit (IfAny A B) = true
statement_literals_fit (While c A) = cond_literals_fit c
statement_literals_fit (WhileAny A) = true

-- ---- operators: the number of `+`, `-`, `*`, `!`, `&&` and `||`

abbrev pub operators_step : Expr-F ℕ → ℕ
operators_step (F.Num n) = 0
operators_step (F.Var k) = 0
operators_step (F.Neg a) = 1 + a
operators_step (F.Add a b) = a + (1 + b)
operators_step (F.Sub a b) = a + (1 + b)
operators_step (F.Mul a b) = a + (1 + b)

abbrev pub operators : Expr → ℕ
operators e = fold-Expr ℕ operators_step e

-- of a whole condition, with the expressions in it
abbrev pub cond_operators_step : Cond-F ℕ → ℕ
cond_operators_step G.True = 0
cond_operators_step G.False = 0
cond_operators_step (G.Cmp a r b) = operators a + operators b
cond_operators_step (G.Not c) = 1 + c
cond_operators_step (G.And c d) = c + (1 + d)
cond_operators_step (G.Or c d) = c + (1 + d)

abbrev pub cond_operators : Cond → ℕ
cond_operators c = fold-Cond ℕ cond_operators_step c

-- ---- both

abbrev pub is_limited : Expr → Bool
is_limited e = literals_fit e && leb (operators e) 64

abbrev pub cond_is_limited : Cond → Bool
cond_is_limited c = cond_literals_fit c && leb (cond_operators c) 64

-- the expressions and the condition of a statement, without the statements inside it
abbrev pub statement_limited : {A : Type 0} → Stmt-F A → Bool
statement_limited Skip = true
statement_limited (Assign k e) = is_limited e
statement_limited (AnyOf k) = true
statement_limited (Between k a b) = is_limited a && is_limited b
statement_limited (Tick e) = is_limited e
statement_limited (Assume c) = cond_is_limited c
statement_limited (If c A B) = cond_is_limited c
statement_limited (IfAny A B) = true
statement_limited (While c A) = cond_is_limited c
statement_limited (WhileAny A) = true

-- with the statements inside it
abbrev pub limits_step : Stmt-F Bool → Bool
limits_step L = statement_limited L && inner L

abbrev pub stmt_is_limited : Stmt → Bool
stmt_is_limited S = fold-Stmt Bool limits_step S

abbrev pub all_limited : List Stmt → Bool
all_limited A = each (map stmt_is_limited A)
