-- What is true of each run, over any ordered field.
use Rattle.std.specs.Prelude.{◌≡◌, ◌≢◌, ℕ, zero, suc, ◌+◌, ◌<◌, ◌≤◌, ◌⊎◌, true, length, slice_index, Some, None}
use Rattle.dc_math.specs.Field.{Field, nonneg}
use Rattle.dc_lp.specs.Linear.{Linear}
use Rattle.dc_lp.specs.Tables.{Table, at, right, entering, ratio_row}
use Rattle.dc_pivots.specs.Runs.{State, Phase, Pivot, End, Unbounded, due_at, run, IsOver, Spent, Basic, HaveOneBasis}
use Rattle.dc_pivots.specs.Vectors.{solution_at, direction_at}

-- the number of sets of k among n
unfoldable pub choose : ℕ → ℕ → ℕ
choose n zero = 1
choose zero (suc k) = 0
choose (suc n) (suc k) = choose n k + choose n (suc k)

module _ (Q : Type 0) (F : Field Q) where
  -- a table of the problem's size, with a basic column for each equation and no negative right side
  pub record IsFeasible (p : Linear Q) (t : Table Q) : Type 0 where
    pub real : t.real ≡ p.columns
    pub rows : length t.basis ≡ p.equations
    pub basis : (i : ℕ) → i < p.equations → slice_index t.basis i < p.columns + p.equations
    pub right_sides : (i : ℕ) → i < p.equations → nonneg Q F (at Q F t i (right Q F t)) ≡ true

  -- each table of the run is such a table
  abbrev pub StaysFeasible : Linear Q → Type 0
  StaysFeasible p = (x : ℕ) (s : State Q) → run Q F p x ≡ Some s → IsFeasible p s.table

  -- no set of basic columns comes twice
  abbrev pub NeverRepeats : Linear Q → Type 0
  NeverRepeats p = (i k : ℕ) (s t : State Q) → run Q F p i ≡ Some s → run Q F p k ≡ Some t → i < k
      → HaveOneBasis s.table t.table → ⊥

  -- fewer pivots are made than there are sets of m columns among n + m
  abbrev pub EndsSoon : Linear Q → Type 0
  EndsSoon p = (k : ℕ) (s : State Q) → run Q F p k ≡ Some s
      → k < choose (p.columns + p.equations) p.equations

  -- a budget of that many pivots less one is enough
  abbrev pub NeverSpent : Linear Q → Type 0
  NeverSpent p = (budget : ℕ) → choose (p.columns + p.equations) p.equations ≤ budget + 1
      → Spent Q F p budget → ⊥

  -- the run ends, after fewer pivots than that
  abbrev pub Ends : Linear Q → Type 0
  Ends p = (n : ℕ) × (n < choose (p.columns + p.equations) p.equations) × IsOver Q F p n

  -- where a column enters in the cost row of phase one, a row leaves
  abbrev pub PhaseOneLeaves : Linear Q → Type 0
  PhaseOneLeaves p = (x : ℕ) (s : State Q) (j : ℕ) → run Q F p x ≡ Some s
      → entering Q F s.table (length s.table.basis) ≡ Some j → ratio_row Q F s.table j ≢ None

  -- real columns u and v are each other's negatives, with their costs
  pub record AreOpposite (p : Linear Q) (u v : ℕ) : Type 0 where
    pub first : u < p.columns
    pub second : v < p.columns
    pub apart : u ≢ v
    pub entries : (i : ℕ) → p.coefficient i u ≡ F.neg (p.coefficient i v)
    pub costs : p.cost u ≡ F.neg (p.cost v)

  -- At each state of the run: entries of u and v are opposite, in the cost rows too; never are both
  -- basic; while u is basic, v is 0 in both cost rows and doesn't enter; of the basic solution, and
  -- of the ray, one of both is 0.
  pub record StayOpposite (p : Linear Q) (u v : ℕ) : Type 0 where
    pub entries : (x : ℕ) (s : State Q) (i : ℕ) → run Q F p x ≡ Some s
        → i < length s.table.basis + 2 → at Q F s.table i u ≡ F.neg (at Q F s.table i v)
    pub never_both : (x : ℕ) (s : State Q) → run Q F p x ≡ Some s → Basic s.table u
        → Basic s.table v → ⊥
    pub free_one : (x : ℕ) (s : State Q) → run Q F p x ≡ Some s → Basic s.table u
        → at Q F s.table (length s.table.basis) v ≡ F.zero_q
    pub free_two : (x : ℕ) (s : State Q) → run Q F p x ≡ Some s → Basic s.table u
        → at Q F s.table (length s.table.basis + 1) v ≡ F.zero_q
    pub idle : (x : ℕ) (s : State Q) (q : Phase) (r : ℕ) → run Q F p x ≡ Some s → Basic s.table u
        → due_at Q F s ≢ Pivot q r v
    pub solution : (x : ℕ) (s : State Q) → run Q F p x ≡ Some s
        → (solution_at Q F s.table u ≡ F.zero_q) ⊎ (solution_at Q F s.table v ≡ F.zero_q)
    pub ray : (x : ℕ) (s : State Q) (j : ℕ) → run Q F p x ≡ Some s
        → due_at Q F s ≡ End (Unbounded j)
        → (direction_at Q F s.table j u ≡ F.zero_q) ⊎ (direction_at Q F s.table j v ≡ F.zero_q)
