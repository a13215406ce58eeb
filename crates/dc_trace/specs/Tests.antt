-- Answers with a test.
use Rattle.std.specs.Prelude.{◌≡◌, ◌++◌, ℤ, Bool, true, false, ◌&&◌, int_le, Option, Some, None}
use Rattle.dc_syntax.specs.declared.tree.Expr.{Expr}
use Rattle.dc_syntax.specs.declared.tree.Cond.{Cond}
use Rattle.dc_syntax.specs.Value.{State, value, truth}
use Rattle.dc_trace.specs.Parts.{subexpressions, compared_parts}
use Rattle.dc_trace.specs.Replay.{all_fit, is_small}

-- the value where the test is true, and nothing where it is false
abbrev pub Gives : {A : Type 0} → Option A → Bool → A → Type 0
Gives None t v = t ≡ false
Gives (Some r) t v = (t ≡ true) × (r ≡ v)

-- each subexpression has a value of at most 128 bits
abbrev pub expr_fits : State → Expr → Bool
expr_fits s e = all_fit is_small s (subexpressions e)

abbrev pub cond_fits : State → Cond → Bool
cond_fits s c = all_fit is_small s (compared_parts c)

abbrev pub range_fits : State → Expr → Expr → Bool
range_fits s a b = all_fit is_small s (subexpressions a ++ subexpressions b)

abbrev pub Evaluates : Option ℤ → State → Expr → Type 0
Evaluates r s e = Gives r (expr_fits s e) (value e s)

abbrev pub Judges : Option Bool → State → Cond → Type 0
Judges r s c = Gives r (cond_fits s c) (truth c s)

-- whether z is in the range from a to b
abbrev pub IsWithin : Option Bool → State → Expr → ℤ → Expr → Type 0
IsWithin r s a z b = Gives r (range_fits s a b) (int_le (value a s) z && int_le z (value b s))
