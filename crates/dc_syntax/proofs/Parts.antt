-- Values and truth by the tree.
use Rattle.std.proofs.Common.{◌≡◌, ap, ℕ, ℤ, pos, not, ◌&&◌, ◌||◌, true, false, Bool}
use Rattle.std.specs.Prelude.{slice_index_or, ◌+ℤ◌, ◌-ℤ◌, ◌*ℤ◌, neg_ℤ}
use Rattle.dc_syntax.specs.declared.tree.Expr.{Expr, Num, Var, Neg, Add, Sub, Mul, roll-Expr, fold-roll-Expr}
use Rattle.dc_syntax.specs.declared.tree.Expr.TheOpen as F
use Rattle.dc_syntax.specs.declared.tree.Rel.{Rel}
use Rattle.dc_syntax.specs.declared.tree.Cond.{Cond, True, False, Cmp, Not, And, Or, roll-Cond, fold-roll-Cond}
use Rattle.dc_syntax.specs.declared.tree.Cond.TheOpen as G
use Rattle.dc_syntax.specs.Value.{State, value, value_step, compared, truth, truth_step}

pub value-Num : (n : ℕ) (s : State) → value (Num n) s ≡ pos n
unfolding roll-Expr denote.Hole.Carrier.roll
value-Num n s = ap (λ f. f s) (fold-roll-Expr (State → ℤ) value_step (F.Num n))

pub value-Var : (k : ℕ) (s : State) → value (Var k) s ≡ slice_index_or s k (pos 0)
unfolding roll-Expr denote.Hole.Carrier.roll
value-Var k s = ap (λ f. f s) (fold-roll-Expr (State → ℤ) value_step (F.Var k))

pub value-Neg : (a : Expr) (s : State) → value (Neg a) s ≡ neg_ℤ (value a s)
unfolding roll-Expr denote.Hole.Carrier.roll
value-Neg a s = ap (λ f. f s) (fold-roll-Expr (State → ℤ) value_step (F.Neg a))

pub value-Add : (a b : Expr) (s : State) → value (Add a b) s ≡ value a s +ℤ value b s
unfolding roll-Expr denote.Hole.Carrier.roll
value-Add a b s = ap (λ f. f s) (fold-roll-Expr (State → ℤ) value_step (F.Add a b))

pub value-Sub : (a b : Expr) (s : State) → value (Sub a b) s ≡ value a s -ℤ value b s
unfolding roll-Expr denote.Hole.Carrier.roll
value-Sub a b s = ap (λ f. f s) (fold-roll-Expr (State → ℤ) value_step (F.Sub a b))

pub value-Mul : (a b : Expr) (s : State) → value (Mul a b) s ≡ value a s *ℤ value b s
unfolding roll-Expr denote.Hole.Carrier.roll
value-Mul a b s = ap (λ f. f s) (fold-roll-Expr (State → ℤ) value_step (F.Mul a b))

pub truth-True : (s : State) → truth True s ≡ true
unfolding roll-Cond denote.Hole.Carrier.roll
truth-True s = ap (λ f. f s) (fold-roll-Cond (State → Bool) truth_step G.True)

pub truth-False : (s : State) → truth False s ≡ false
unfolding roll-Cond denote.Hole.Carrier.roll
truth-False s = ap (λ f. f s) (fold-roll-Cond (State → Bool) truth_step G.False)

pub truth-Cmp : (a : Expr) (r : Rel) (b : Expr) (s : State) → truth (Cmp a r b) s ≡ compared r (value a s) (value b s)
unfolding roll-Cond denote.Hole.Carrier.roll
truth-Cmp a r b s = ap (λ f. f s) (fold-roll-Cond (State → Bool) truth_step (G.Cmp a r b))

pub truth-Not : (c : Cond) (s : State) → truth (Not c) s ≡ not (truth c s)
unfolding roll-Cond denote.Hole.Carrier.roll
truth-Not c s = ap (λ f. f s) (fold-roll-Cond (State → Bool) truth_step (G.Not c))

pub truth-And : (c d : Cond) (s : State) → truth (And c d) s ≡ (truth c s && truth d s)
unfolding roll-Cond denote.Hole.Carrier.roll
truth-And c d s = ap (λ f. f s) (fold-roll-Cond (State → Bool) truth_step (G.And c d))

pub truth-Or : (c d : Cond) (s : State) → truth (Or c d) s ≡ (truth c s || truth d s)
unfolding roll-Cond denote.Hole.Carrier.roll
truth-Or c d s = ap (λ f. f s) (fold-roll-Cond (State → Bool) truth_step (G.Or c d))
