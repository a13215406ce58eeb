-- The laws of the meaning, each as the contract of a function of `laws` states it.
use Rattle.std.specs.Prelude.{◌≡◌, ◌↔◌, ℕ, List, ◌++◌, length, slice_index_or, ℤ, pos, ◌+ℤ◌, ◌-ℤ◌, ◌*ℤ◌, neg_ℤ, Bool, true, false, not, ◌&&◌, ◌||◌, Some}
use Rattle.dc_syntax.specs.declared.tree.Expr.{Expr, Num, Var, Neg, Add, Sub, Mul, Expr-F, roll-Expr}
use Rattle.dc_syntax.specs.declared.tree.Rel.{Rel}
use Rattle.dc_syntax.specs.declared.tree.Cond.{Cond, True, False, Cmp, Not, And, Or, Cond-F, roll-Cond}
use Rattle.dc_syntax.specs.declared.tree.Stmt.{Stmt, Stmt-F, roll-Stmt}
use Rattle.dc_syntax.specs.declared.tree.Stmt.TheOpen.{While, WhileAny}
use Rattle.dc_syntax.specs.declared.tree.Proc.{Proc}
use Rattle.dc_syntax.specs.Value.{State, value, compared, truth}
use Rattle.dc_syntax.specs.Run.{One, Run}
use Rattle.dc_syntax.specs.Costs.{Costs}
use Rattle.dc_syntax.specs.Plain.{plain_cost, HasPlainCost}
use Rattle.dc_syntax.specs.Table.{Does, DoesAll, Then}
use Rattle.dc_syntax.specs.Trees.{EachExpr, EachCond, EachStmt}

-- the value of each expression, by its operands' values
pub record ValuesByParts : Type 0 where
  pub num : (n : ℕ) (s : State) → value (Num n) s ≡ pos n
  pub var : (k : ℕ) (s : State) → value (Var k) s ≡ slice_index_or s k (pos 0)
  pub neg : (a : Expr) (s : State) → value (Neg a) s ≡ neg_ℤ (value a s)
  pub add : (a b : Expr) (s : State) → value (Add a b) s ≡ value a s +ℤ value b s
  pub sub : (a b : Expr) (s : State) → value (Sub a b) s ≡ value a s -ℤ value b s
  pub mul : (a b : Expr) (s : State) → value (Mul a b) s ≡ value a s *ℤ value b s

-- the truth of each condition, by that of its parts
pub record TruthByParts : Type 0 where
  pub yes : (s : State) → truth True s ≡ true
  pub no : (s : State) → truth False s ≡ false
  pub cmp : (a : Expr) (r : Rel) (b : Expr) (s : State)
      → truth (Cmp a r b) s ≡ compared r (value a s) (value b s)
  pub opposite : (c : Cond) (s : State) → truth (Not c) s ≡ not (truth c s)
  pub and : (c d : Cond) (s : State) → truth (And c d) s ≡ (truth c s && truth d s)
  pub or : (c d : Cond) (s : State) → truth (Or c d) s ≡ (truth c s || truth d s)

-- a statement runs exactly as the table says
abbrev pub OneByTable : Type 0
OneByTable = (L : Stmt-F Stmt) (s : State) (c : ℤ) (t : State) → One L s c t ↔ Does L s c t

abbrev pub RunByTable : Type 0
RunByTable = (A : List Stmt) (s : State) (c : ℤ) (t : State) → Run A s c t ↔ DoesAll A s c t

-- the runs of a joined list are those of its parts, one after the other
abbrev pub RunOfJoined : Type 0
RunOfJoined =
    (A B : List Stmt) (s : State) (c : ℤ) (t : State) → Run (A ++ B) s c t
    ↔ Then (Run A) (Run B) s c t

-- a run keeps the number of places
abbrev pub RunKeepsLength : Type 0
RunKeepsLength = (A : List Stmt) (s : State) (c : ℤ) (t : State) → Run A s c t → length t ≡ length s

-- each turn of the body keeps p, a test of the cost so far and the state, at states of which g holds
abbrev pub IsKept : (State → Bool) → List Stmt → (ℤ → State → Bool) → Type 0
IsKept g A p =
    (x : ℤ) (s : State) (c : ℤ) (t : State) → g s ≡ true → p x s ≡ true → Run A s c t
    → p (x +ℤ c) t ≡ true

-- what holds at cost 0 where a loop begins, and is kept by each turn of its body, holds where it ends
abbrev pub WhileKeepsInvariant : Type 0
WhileKeepsInvariant = (p : ℤ → State → Bool) (b : Cond) (A : List Stmt) → IsKept (truth b) A p
    → (s : State) (c : ℤ) (t : State) → One (While b A) s c t → p (pos 0) s ≡ true
    → (p c t ≡ true) × (truth b t ≡ false)

abbrev pub WhileAnyKeepsInvariant : Type 0
WhileAnyKeepsInvariant = (p : ℤ → State → Bool) (A : List Stmt) → IsKept (λ s. true) A p
    → (s : State) (c : ℤ) (t : State) → One (WhileAny A) s c t → p (pos 0) s ≡ true → p c t ≡ true

-- a test that passes at each tree whose inner trees pass it passes at every tree
abbrev pub ExprInduction : Type 0
ExprInduction =
    (p : Expr → Bool) → ((L : Expr-F Expr) → EachExpr (λ e. p e ≡ true) L → p (roll-Expr L) ≡ true)
    → (e : Expr) → p e ≡ true

abbrev pub CondInduction : Type 0
CondInduction =
    (p : Cond → Bool) → ((L : Cond-F Cond) → EachCond (λ c. p c ≡ true) L → p (roll-Cond L) ≡ true)
    → (c : Cond) → p c ≡ true

abbrev pub StmtInduction : Type 0
StmtInduction =
    (p : Stmt → Bool) → ((L : Stmt-F Stmt) → EachStmt (λ S. p S ≡ true) L → p (roll-Stmt L) ≡ true)
    → (S : Stmt) → p S ≡ true

-- from each state a plain list has exactly one run, to the same state at the sum of its costs
abbrev pub PlainRunsOnce : Type 0
PlainRunsOnce =
    (A : List Stmt) (n : ℕ) → plain_cost A ≡ Some n → (s : State) (c : ℤ) (t : State) → Run A s c t
    ↔ ((c ≡ pos n) × (t ≡ s))

-- on each input a plain program has exactly one cost
abbrev pub PlainCostsOnce : Type 0
PlainCostsOnce =
    (p : Proc) (n : ℕ) → HasPlainCost p n → (v : State) (c : ℤ) → Costs p v c
    ↔ ((length v ≡ p.params) × (c ≡ pos n))

-- finished runs of two plain programs on the same input differ by the difference of their costs
abbrev pub PlainCostsDiffer : Type 0
PlainCostsDiffer =
    (p q : Proc) (a b : ℕ) → HasPlainCost p a → HasPlainCost q b → (v : State) (c d : ℤ)
    → Costs p v c → Costs q v d → c -ℤ d ≡ pos a -ℤ pos b
