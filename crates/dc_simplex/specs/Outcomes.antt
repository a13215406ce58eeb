-- What `solve` answers: the answer of the run with the vectors of its last table, and what these
-- show of the problem.
use Rattle.std.specs.Prelude.{◌≡◌, ℕ, ◌+◌, ◌<◌, ◌≤◌, ◌⊎◌, pos, List, length, Some, Result, Ok, Err}
use Rattle.dc_math.specs.Rational.{ℚ, of_ℤ}
use Rattle.dc_math.specs.RationalField.{rationals}
use Rattle.dc_frac.specs.declared.Frac.{Frac}
use Rattle.dc_frac.specs.Value.{value}
use Rattle.dc_lp.specs.Folds.{numbers}
use Rattle.dc_lp.specs.Linear.{Linear, combined_right, cost_of, IsSolution, IsDual, IsRefutation, IsRay, CostAtLeast, HasNoSolution, HasNoBound}
use Rattle.dc_lp.specs.Tables.{Table}
use Rattle.dc_lp.specs.Meanings.{Meaning, resting}
use Rattle.dc_pivots.specs.Runs as runs
use Rattle.dc_pivots.specs.declared.Ending.{Ending}
use Rattle.dc_pivots.specs.declared.Due.TheVariants.{End}
use Rattle.dc_pivots.specs.declared.Ending.TheVariants as endings
use Rattle.dc_pivots.specs.Vectors as vectors
use Rattle.dc_pivots.specs.FieldLaws.{AreOpposite}
use Rattle.dc_simplex.specs.declared.Outcome.{Outcome}
use Rattle.dc_simplex.specs.declared.Outcome.TheVariants.{Optimal, Infeasible, Unbounded}
use Rattle.dc_simplex.specs.declared.SolveFault.{SolveFault}
use Rattle.dc_simplex.specs.declared.SolveFault.TheVariants.{Past128, Budget, NoMemory}
use Rattle.dc_simplex.specs.Limits.{AllFit, Answer, Done, Past, Out, IsAnswer}

-- ---- the vectors of a table, over the rational numbers
abbrev pub solution_at : Table ℚ → ℕ → ℚ
solution_at t k = vectors.solution_at ℚ rationals t k

abbrev pub direction_at : Table ℚ → ℕ → ℕ → ℚ
direction_at t j k = vectors.direction_at ℚ rationals t j k

abbrev pub multiplier_at : Linear ℚ → Table ℚ → ℕ → ℕ → ℚ
multiplier_at p t row i = vectors.multiplier_at ℚ rationals p t row i

abbrev pub value_of : Table ℚ → ℚ
value_of t = vectors.value_of ℚ rationals t

-- the list has n numbers, which are f 0, f 1 and so on
pub record IsVector (n : ℕ) (f : ℕ → ℚ) (xs : List Frac) : Type 0 where
  pub long : length xs ≡ n
  pub each : (k : ℕ) → k < n → numbers xs k ≡ f k

-- ---- what an outcome tells of a run's last table t

-- the basic solution, the multipliers by the cost row of phase two, and the cost
pub record TellsBest (p : Linear ℚ) (t : Table ℚ) (x y : List Frac) (v : Frac) : Type 0 where
  pub solution : IsVector p.columns (solution_at t) x
  pub dual : IsVector p.equations (multiplier_at p t (length t.basis + 1)) y
  pub value : value v ≡ value_of t

-- the basic solution, and the way along which column j grows
pub record TellsUnbounded (p : Linear ℚ) (t : Table ℚ) (j : ℕ) (x r : List Frac) : Type 0 where
  pub solution : IsVector p.columns (solution_at t) x
  pub ray : IsVector p.columns (direction_at t j) r

-- the outcome is of this end; that of an infeasible problem has the multipliers by the cost row of
-- phase one
abbrev pub TellsEnd : Linear ℚ → Table ℚ → Ending → Outcome → Type 0
TellsEnd p t endings.Optimal (Optimal x y v n) = TellsBest p t x.items y.items v
TellsEnd p t endings.Infeasible (Infeasible y n) =
    IsVector p.equations (multiplier_at p t (length t.basis)) y.items
TellsEnd p t (endings.Unbounded j) (Unbounded x r n) = TellsUnbounded p t j x.items r.items
TellsEnd p t e o = ⊥

abbrev pub pivots_of : Outcome → ℕ
pivots_of (Optimal x y v n) = n
pivots_of (Infeasible y n) = n
pivots_of (Unbounded x r n) = n

-- The outcome of a problem, apart from any tableau and budget: its run ends so after so many
-- pivots, and the vectors are those of its last table.
pub record IsOutcome (p : Linear ℚ) (o : Outcome) : Type 0 where
  pub ending : Ending
  pub state : runs.State ℚ
  pub reached : runs.run ℚ rationals p (pivots_of o) ≡ Some state
  pub over : runs.due_at ℚ rationals state ≡ End ending
  pub vectors : TellsEnd p state.table ending o

-- the same end with the same numbers, after as many pivots
abbrev pub AreSame : Outcome → Outcome → Type 0
AreSame (Optimal x y v n) (Optimal x' y' v' n') = (x.items ≡ x'.items) × (y.items ≡ y'.items)
    × (v ≡ v') × (n ≡ n')
AreSame (Infeasible y n) (Infeasible y' n') = (y.items ≡ y'.items) × (n ≡ n')
AreSame (Unbounded x r n) (Unbounded x' r' n') = (x.items ≡ x'.items) × (r.items ≡ r'.items) × (n ≡ n')
AreSame a b = ⊥

-- each problem has one outcome at most
abbrev pub HasOneOutcome : Type 0
HasOneOutcome = (p : Linear ℚ) (a b : Outcome) → IsOutcome p a → IsOutcome p b → AreSame a b

-- This is the outcome; its pivots fit and are within the budget; and the tableau is left at its
-- last table, loaded, whole and ready for no pivot.
pub record TellsDone (p : Linear ℚ) (budget : ℕ) (left : Meaning) (o : Outcome) : Type 0 where
  pub outcome : IsOutcome p o
  pub fit : AllFit p (pivots_of o)
  pub within : pivots_of o ≤ budget
  pub rest : left ≡ resting outcome.state.table

-- each result but want of memory is the answer of the run
abbrev pub Solves : Linear ℚ → ℕ → Meaning → Result Outcome SolveFault → Type 0
Solves p budget left (Ok o) = TellsDone p budget left o
Solves p budget left (Err (Past128 k)) = IsAnswer p budget (Past k)
Solves p budget left (Err (Budget n)) = IsAnswer p budget (Out n)
Solves p budget left (Err NoMemory) = Unit {0}

-- the result is of this answer, or it is want of memory
abbrev pub IsToldBy : Answer → Result Outcome SolveFault → Type 0
IsToldBy (Done n e t) (Ok o) = pivots_of o ≡ n
IsToldBy (Past k) (Err (Past128 i)) = i ≡ k
IsToldBy (Out n) (Err (Budget i)) = i ≡ n
IsToldBy a (Err NoMemory) = Unit {0}
IsToldBy a r = ⊥

-- whatever answer the run has, the result is of it
abbrev pub TellsOnly : Linear ℚ → ℕ → Result Outcome SolveFault → Type 0
TellsOnly p budget r = (a : Answer) → IsAnswer p budget a → IsToldBy a r

-- ---- what an outcome shows of the problem

-- a solution and a dual of equal value, so no solution costs less
pub record ShowsBest (p : Linear ℚ) (x y : List Frac) (v : Frac) : Type 0 where
  pub solution : IsSolution p (numbers x)
  pub dual : IsDual p (numbers y)
  pub cost : cost_of p (numbers x) ≡ value v
  pub price : combined_right p (numbers y) ≡ value v
  pub least : CostAtLeast p (value v)

-- a refutation, so there is no solution
pub record ShowsNone (p : Linear ℚ) (y : List Frac) : Type 0 where
  pub refutation : IsRefutation p (numbers y)
  pub none : HasNoSolution p

-- a solution and a ray, so the cost falls below every bound
pub record ShowsUnbounded (p : Linear ℚ) (x r : List Frac) : Type 0 where
  pub solution : IsSolution p (numbers x)
  pub ray : IsRay p (numbers r)
  pub falls : HasNoBound p

abbrev pub Shows : Linear ℚ → Outcome → Type 0
Shows p (Optimal x y v n) = ShowsBest p x.items y.items v
Shows p (Infeasible y n) = ShowsNone p y.items
Shows p (Unbounded x r n) = ShowsUnbounded p x.items r.items

-- ---- columns that are each other's negatives, with their costs

-- the number at index u or that at index v is 0
abbrev pub HasZero : List Frac → ℕ → ℕ → Type 0
HasZero xs u v = (numbers xs u ≡ of_ℤ (pos 0)) ⊎ (numbers xs v ≡ of_ℤ (pos 0))

-- one of the two numbers is 0 in the solution, and in the ray
pub record HasZeros (x r : List Frac) (u v : ℕ) : Type 0 where
  pub solution : HasZero x u v
  pub ray : HasZero r u v

abbrev pub UsesOne : Outcome → ℕ → ℕ → Type 0
UsesOne (Optimal x y w n) u v = HasZero x.items u v
UsesOne (Infeasible y n) u v = Unit {0}
UsesOne (Unbounded x r n) u v = HasZeros x.items r.items u v

-- of two such columns the outcome uses at most one
abbrev pub UsesOneOfOpposites : Linear ℚ → Outcome → Type 0
UsesOneOfOpposites p o = (u v : ℕ) → AreOpposite ℚ rationals p u v → UsesOne o u v
