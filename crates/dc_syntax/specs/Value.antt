-- States, the value of an expression and the truth of a condition.
use Rattle.std.specs.Prelude.{List, slice_index_or, ℤ, pos, ◌+ℤ◌, ◌-ℤ◌, ◌*ℤ◌, neg_ℤ, Bool, true, false, not, ◌&&◌, ◌||◌, int_lt, int_le}
use Rattle.dc_syntax.specs.declared.tree.Expr.{Expr, Expr-F, fold-Expr}
use Rattle.dc_syntax.specs.declared.tree.Expr.TheOpen as F
use Rattle.dc_syntax.specs.declared.tree.Rel.{Rel}
use Rattle.dc_syntax.specs.declared.tree.Rel.TheVariants.{Lt, Le, Gt, Ge, Eq, Ne}
use Rattle.dc_syntax.specs.declared.tree.Cond.{Cond, Cond-F, fold-Cond}
use Rattle.dc_syntax.specs.declared.tree.Cond.TheOpen as G

-- one whole number, of any size, for each name of the procedure, parameters first
abbrev pub State : Type 0
State = List ℤ

-- the value, where those of the operands are given; a place past the state's end reads as 0
abbrev pub value_step : Expr-F (State → ℤ) → State → ℤ
value_step (F.Num n) s = pos n
value_step (F.Var k) s = slice_index_or s k (pos 0)
value_step (F.Neg a) s = neg_ℤ (a s)
value_step (F.Add a b) s = a s +ℤ b s
value_step (F.Sub a b) s = a s -ℤ b s
value_step (F.Mul a b) s = a s *ℤ b s

-- the value of an expression in a state, by its tree
abbrev pub value : Expr → State → ℤ
value e = fold-Expr (State → ℤ) value_step e

-- whether a comparison holds of two numbers
abbrev pub compared : Rel → ℤ → ℤ → Bool
compared Lt a b = int_lt a b
compared Le a b = int_le a b
compared Gt a b = int_lt b a
compared Ge a b = int_le b a
compared Eq a b = int_le a b && int_le b a
compared Ne a b = not (int_le a b && int_le b a)

-- the truth, where that of the parts is given
abbrev pub truth_step : Cond-F (State → Bool) → State → Bool
truth_step G.True s = true
truth_step G.False s = false
truth_step (G.Cmp a r b) s = compared r (value a s) (value b s)
truth_step (G.Not c) s = not (c s)
truth_step (G.And c d) s = c s && d s
truth_step (G.Or c d) s = c s || d s

-- the truth of a condition in a state, by its tree
abbrev pub truth : Cond → State → Bool
truth c = fold-Cond (State → Bool) truth_step c
