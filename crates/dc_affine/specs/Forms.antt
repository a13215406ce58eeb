-- The polynomial of an expression, and the first fault among its subexpressions.
use Rattle.std.specs.Prelude.{◌≡◌, ◌⊎◌, ℕ, Bool, true, ◌&&◌, ltb, if◌then◌else◌, pos, Some, None}
use Rattle.std.specs.declared.option.Option.{Option}
use Rattle.std.specs.Option.{option_or}
use Rattle.dc_syntax.specs.declared.tree.Expr.{Expr, Expr-F, fold-Expr}
use Rattle.dc_syntax.specs.declared.tree.Expr.TheOpen as F
use Rattle.dc_poly.specs.Terms.{TermList, degree_of, Polynomial, polynomial}
use Rattle.dc_poly.specs.NormalForm.{coefs_fit}
use Rattle.dc_poly.specs.Sums.{plus, negated, times, constant_of, variable_of}
use Rattle.dc_affine.specs.declared.form.FormFault.{FormFault}
use Rattle.dc_affine.specs.declared.form.FormFault.TheVariants.{DegreeTooHigh, CoefficientRange, NotAffine, NoMemory}

-- ---- the variables of an expression are below n
abbrev pub below_step : ℕ → Expr-F Bool → Bool
below_step n (F.Num k) = true
below_step n (F.Var k) = ltb k n
below_step n (F.Neg a) = a
below_step n (F.Add a b) = a && b
below_step n (F.Sub a b) = a && b
below_step n (F.Mul a b) = a && b

abbrev pub is_below : ℕ → Expr → Bool
is_below n e = fold-Expr Bool (below_step n) e

-- ---- the bounds of a form
abbrev pub range_fault : TermList → Option FormFault
range_fault p = if coefs_fit p then None else Some CoefficientRange

-- the fault of a normal form, seen alone
abbrev pub own_fault : TermList → Option FormFault
own_fault p = if ltb 2 (degree_of p) then Some DegreeTooHigh else range_fault p

-- ---- the polynomial, with the first fault: left operand, right operand, then the whole
pub record Formed : Type 0 where
  pub terms : TermList
  pub fault : Option FormFault

-- a normal form after faults of its operands
abbrev pub judged : Option FormFault → TermList → Formed
judged f p = record { terms = p; fault = option_or f (own_fault p) }

-- where the operands are given, of n places
abbrev pub form_step : ℕ → Expr-F Formed → Formed
form_step n (F.Num k) = judged None (constant_of (pos k) n)
form_step n (F.Var k) = judged None (variable_of k n)
form_step n (F.Neg a) = judged a.fault (negated a.terms)
form_step n (F.Add a b) = judged (option_or a.fault b.fault) (plus a.terms b.terms)
form_step n (F.Sub a b) = judged (option_or a.fault b.fault) (plus a.terms (negated b.terms))
form_step n (F.Mul a b) = judged (option_or a.fault b.fault) (times a.terms b.terms)

abbrev pub formed : ℕ → Expr → Formed
formed n e = fold-Expr Formed (form_step n) e

-- the polynomial of an expression
abbrev pub form_of : ℕ → Expr → Polynomial
form_of n e = polynomial n (formed n e).terms

-- the first fault of its normal forms; none where each is within its bounds
abbrev pub fault_of : ℕ → Expr → Option FormFault
fault_of n e = (formed n e).fault

-- the fault of a form that should be affine, seen alone
abbrev pub bend : TermList → Option FormFault
bend p = if ltb 1 (degree_of p) then Some NotAffine else None

abbrev pub affine_fault : ℕ → Expr → Option FormFault
affine_fault n e = option_or (fault_of n e) (bend (formed n e).terms)

-- ---- refusals
-- a refusal is want of memory, or the fault that is told
abbrev pub IsCause : FormFault → Option FormFault → Type 0
IsCause f o = (f ≡ NoMemory) ⊎ (o ≡ Some f)
