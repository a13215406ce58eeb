-- Solutions, duals, refutations and rays over any ordered field.
use Rattle.std.specs.Prelude.{◌≡◌, ℕ, ◌+◌, ◌<◌, true, false, length, Some}
use Rattle.dc_math.specs.Field.{Field, sum_to, minus, nonneg}
use Rattle.dc_lp.specs.Linear.{Linear}
use Rattle.dc_lp.specs.Tables.{Table}
use Rattle.dc_pivots.specs.Runs.{State, End, Ending, Infeasible, Optimal, Unbounded, due_at, run}
use Rattle.dc_pivots.specs.Vectors.{solution_at, direction_at, multiplier_at, value_of}

module _ (Q : Type 0) (F : Field Q) where
  -- the equations' left sides at x, and their combination with factors y in column k
  abbrev pub left_side : Linear Q → (ℕ → Q) → ℕ → Q
  left_side p x i = sum_to Q F p.columns (λ k. F.mul (p.coefficient i k) (x k))

  abbrev pub combined : Linear Q → (ℕ → Q) → ℕ → Q
  combined p y k = sum_to Q F p.equations (λ i. F.mul (y i) (p.coefficient i k))

  abbrev pub combined_right : Linear Q → (ℕ → Q) → Q
  combined_right p y = sum_to Q F p.equations (λ i. F.mul (y i) (p.right_side i))

  abbrev pub cost_of : Linear Q → (ℕ → Q) → Q
  cost_of p x = sum_to Q F p.columns (λ k. F.mul (p.cost k) (x k))

  pub record IsSolution (p : Linear Q) (x : ℕ → Q) : Type 0 where
    pub equations : (i : ℕ) → i < p.equations → left_side p x i ≡ p.right_side i
    pub signs : (k : ℕ) → k < p.columns → nonneg Q F (x k) ≡ true

  -- each column is priced at most its cost
  pub record IsDual (p : Linear Q) (y : ℕ → Q) : Type 0 where
    pub prices : (k : ℕ) → k < p.columns → nonneg Q F (minus Q F (p.cost k) (combined p y k)) ≡ true

  -- a combination of the equations with no positive entry and a positive right side
  pub record IsRefutation (p : Linear Q) (y : ℕ → Q) : Type 0 where
    pub columns : (k : ℕ) → k < p.columns → nonneg Q F (F.neg (combined p y k)) ≡ true
    pub right_side : nonneg Q F (F.neg (combined_right p y)) ≡ false

  pub record IsRay (p : Linear Q) (x : ℕ → Q) : Type 0 where
    pub equations : (i : ℕ) → i < p.equations → left_side p x i ≡ F.zero_q
    pub signs : (k : ℕ) → k < p.columns → nonneg Q F (x k) ≡ true
    pub falls : nonneg Q F (cost_of p x) ≡ false

  pub record IsBest (p : Linear Q) (t : Table Q) : Type 0 where
    pub solution : IsSolution p (solution_at Q F t)
    pub dual : IsDual p (multiplier_at Q F p t (length t.basis + 1))
    pub cost : cost_of p (solution_at Q F t) ≡ value_of Q F t
    pub price : combined_right p (multiplier_at Q F p t (length t.basis + 1)) ≡ value_of Q F t

  pub record IsUnbounded (p : Linear Q) (t : Table Q) (j : ℕ) : Type 0 where
    pub solution : IsSolution p (solution_at Q F t)
    pub ray : IsRay p (direction_at Q F t j)

  abbrev pub Shows : Linear Q → Table Q → Ending → Type 0
  Shows p t Optimal = IsBest p t
  Shows p t Infeasible = IsRefutation p (multiplier_at Q F p t (length t.basis))
  Shows p t (Unbounded j) = IsUnbounded p t j

  -- Each end of a run is justified.
  abbrev pub EndsRight : Linear Q → Type 0
  EndsRight p = (x : ℕ) (s : State Q) (e : Ending) → run Q F p x ≡ Some s → due_at Q F s ≡ End e → Shows p s.table e
