-- The laws of forms, atoms and conditions, each as the contract of a function of `laws` states it.
use Rattle.std.specs.Prelude.{◌≡◌, ℕ, [], ◌∷◌, ◌++◌, pos, Bool, true, false, not, if◌then◌else◌, None}
use Rattle.std.specs.Option.{option_or}
use Rattle.dc_syntax.specs.declared.tree.Expr.{Expr}
use Rattle.dc_syntax.specs.declared.tree.Expr.TheVariants.{Num, Var, Neg, Add, Sub, Mul}
use Rattle.dc_syntax.specs.declared.tree.Rel.{Rel}
use Rattle.dc_syntax.specs.declared.tree.Cond.{Cond}
use Rattle.dc_syntax.specs.declared.tree.Cond.TheVariants.{True, False, Cmp, Not, And, Or}
use Rattle.dc_syntax.specs.Value as tree
use Rattle.dc_syntax.specs.Value.{State, truth}
use Rattle.dc_poly.specs.Terms.{value}
use Rattle.dc_poly.specs.Sums.{constant, variable, sum_of, negation_of, product_of}
use Rattle.dc_affine.specs.Forms.{is_below, form_of, fault_of, own_fault}
use Rattle.dc_affine.specs.Table.{crossed, relation, opposite, falsity, facts_of, some_of}
use Rattle.dc_affine.specs.Atoms.{some_hold, cond_is_below, comparison_fault, conjunctions_of}

-- the form of each expression, by those of its operands
pub record FormsByParts : Type 0 where
  pub num : (n k : ℕ) → form_of n (Num k) ≡ constant (pos k) n
  pub var : (n k : ℕ) → form_of n (Var k) ≡ variable k n
  pub neg : (n : ℕ) (a : Expr) → form_of n (Neg a) ≡ negation_of (form_of n a)
  pub add : (n : ℕ) (a b : Expr) → form_of n (Add a b) ≡ sum_of (form_of n a) (form_of n b)
  pub sub : (n : ℕ) (a b : Expr)
      → form_of n (Sub a b) ≡ sum_of (form_of n a) (negation_of (form_of n b))
  pub mul : (n : ℕ) (a b : Expr) → form_of n (Mul a b) ≡ product_of (form_of n a) (form_of n b)

-- its first fault: left operand, right operand, then the whole
pub record FaultsByParts : Type 0 where
  pub num : (n k : ℕ) → fault_of n (Num k) ≡ own_fault (form_of n (Num k)).terms
  pub var : (n k : ℕ) → fault_of n (Var k) ≡ own_fault (form_of n (Var k)).terms
  pub neg : (n : ℕ) (a : Expr)
      → fault_of n (Neg a) ≡ option_or (fault_of n a) (own_fault (form_of n (Neg a)).terms)
  pub add : (n : ℕ) (a b : Expr)
      → fault_of n (Add a b)
      ≡ option_or (option_or (fault_of n a) (fault_of n b)) (own_fault (form_of n (Add a b)).terms)
  pub sub : (n : ℕ) (a b : Expr)
      → fault_of n (Sub a b)
      ≡ option_or (option_or (fault_of n a) (fault_of n b)) (own_fault (form_of n (Sub a b)).terms)
  pub mul : (n : ℕ) (a b : Expr)
      → fault_of n (Mul a b)
      ≡ option_or (option_or (fault_of n a) (fault_of n b)) (own_fault (form_of n (Mul a b)).terms)

-- the value of the form of an expression, at any state, is the value of the expression
abbrev pub FormsHaveValues : Type 0
FormsHaveValues =
    (n : ℕ) (e : Expr) (s : State) → is_below n e ≡ true
    → value (form_of n e).terms s ≡ tree.value e s

-- the facts of a condition, or of its negation, by those of its parts
pub record CasesByParts : Type 0 where
  pub yes : facts_of True false ≡ [] ∷ []
  pub not_yes : facts_of True true ≡ (falsity ∷ []) ∷ []
  pub no : facts_of False false ≡ (falsity ∷ []) ∷ []
  pub not_no : facts_of False true ≡ [] ∷ []
  pub cmp : (a : Expr) (r : Rel) (b : Expr) → facts_of (Cmp a r b) false ≡ relation a r b
  pub not_cmp : (a : Expr) (r : Rel) (b : Expr) → facts_of (Cmp a r b) true ≡ relation a (opposite r) b
  pub turned : (c : Cond) (negated : Bool) → facts_of (Not c) negated ≡ facts_of c (not negated)
  pub and : (c d : Cond) → facts_of (And c d) false ≡ crossed (facts_of c false) (facts_of d false)
  pub not_and : (c d : Cond) → facts_of (And c d) true ≡ facts_of c true ++ facts_of d true
  pub or : (c d : Cond) → facts_of (Or c d) false ≡ facts_of c false ++ facts_of d false
  pub not_or : (c d : Cond) → facts_of (Or c d) true ≡ crossed (facts_of c true) (facts_of d true)

-- whether a condition, or its negation, is true
abbrev pub told : Cond → Bool → State → Bool
told c negated s = if negated then not (truth c s) else truth c s

-- some conjunction holds at a state exactly where the condition, or its negation, is true
abbrev pub CasesTell : Type 0
CasesTell =
    (n : ℕ) (c : Cond) (negated : Bool) (s : State) → cond_is_below n c ≡ true
    → comparison_fault n c ≡ None → some_hold (conjunctions_of n c negated) s ≡ told c negated s

-- the same of the facts, whatever the degrees
abbrev pub FactsTell : Type 0
FactsTell = (c : Cond) (negated : Bool) (s : State) → some_of (facts_of c negated) s ≡ told c negated s
