-- Linear problems over any numbers, by index: the least cost * x with A x = b and x >= 0.
use Rattle.std.specs.Prelude.{◌≡◌, ℕ, ◌<◌, pos}
use Rattle.dc_math.specs.Rational.{ℚ, ◌*ℚ◌, of_ℤ, ◌≤ℚ◌, ◌<ℚ◌, NonNegative}
use Rattle.dc_math.specs.Sums.{sum_ℚ}

-- m equations in n unknowns
pub record Linear (Q : Type 0) : Type 0 where
  pub equations : ℕ
  pub columns : ℕ
  pub coefficient : ℕ → ℕ → Q
  pub right_side : ℕ → Q
  pub cost : ℕ → Q

-- the left side of equation i at x
abbrev pub left_side : Linear ℚ → (ℕ → ℚ) → ℕ → ℚ
left_side p x i = sum_ℚ p.columns (λ j. p.coefficient i j *ℚ x j)

-- the entry in column j, and the right side, of the equations' combination by y
abbrev pub combined : Linear ℚ → (ℕ → ℚ) → ℕ → ℚ
combined p y j = sum_ℚ p.equations (λ i. y i *ℚ p.coefficient i j)

abbrev pub combined_right : Linear ℚ → (ℕ → ℚ) → ℚ
combined_right p y = sum_ℚ p.equations (λ i. y i *ℚ p.right_side i)

abbrev pub cost_of : Linear ℚ → (ℕ → ℚ) → ℚ
cost_of p x = sum_ℚ p.columns (λ j. p.cost j *ℚ x j)

pub record IsSolution (p : Linear ℚ) (x : ℕ → ℚ) : Type 0 where
  pub signs : (j : ℕ) → j < p.columns → NonNegative (x j)
  pub equations : (i : ℕ) → i < p.equations → left_side p x i ≡ p.right_side i

-- each column is priced at most its cost
pub record IsDual (p : Linear ℚ) (y : ℕ → ℚ) : Type 0 where
  pub prices : (j : ℕ) → j < p.columns → combined p y j ≤ℚ p.cost j

-- the combination has no positive entry, and a positive right side
pub record IsRefutation (p : Linear ℚ) (y : ℕ → ℚ) : Type 0 where
  pub prices : (j : ℕ) → j < p.columns → combined p y j ≤ℚ of_ℤ (pos 0)
  pub right_side : of_ℤ (pos 0) <ℚ combined_right p y

-- a direction that keeps the equations and the signs, and along which the cost falls
pub record IsRay (p : Linear ℚ) (r : ℕ → ℚ) : Type 0 where
  pub signs : (j : ℕ) → j < p.columns → NonNegative (r j)
  pub equations : (i : ℕ) → i < p.equations → left_side p r i ≡ of_ℤ (pos 0)
  pub falls : cost_of p r <ℚ of_ℤ (pos 0)

-- ---- what they show

-- each solution costs at least v
abbrev pub CostAtLeast : Linear ℚ → ℚ → Type 0
CostAtLeast p v = (x : ℕ → ℚ) → IsSolution p x → v ≤ℚ cost_of p x

abbrev pub HasNoSolution : Linear ℚ → Type 0
HasNoSolution p = (x : ℕ → ℚ) → IsSolution p x → ⊥

-- from each solution on, the cost falls below every bound
abbrev pub HasNoBound : Linear ℚ → Type 0
HasNoBound p = (x : ℕ → ℚ) (bound : ℚ) → IsSolution p x
    → (z : ℕ → ℚ) × IsSolution p z × (cost_of p z <ℚ bound)
