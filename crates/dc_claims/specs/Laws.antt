-- The laws of claims: which of them hold together, how they are decided, and what they say of runs.
use Rattle.std.specs.Prelude.{◌≡◌, ◌↔◌, ℕ, suc, slice_get, Some, ℤ, ◌-ℤ◌}
use Rattle.dc_math.specs.Rational.{ℚ, ◌≤ℚ◌, ◌-ℚ◌, of_ℤ, NonNegative}
use Rattle.dc_syntax.specs.declared.tree.Side.TheVariants.{New, Old}
use Rattle.dc_syntax.specs.Value.{State}
use Rattle.dc_lp.specs.Linear.{IsSolution, cost_of, CostAtLeast, HasNoSolution, HasNoBound}
use Rattle.dc_points.specs.Stated.{rational}
use Rattle.dc_claims.specs.declared.duty.Unknown.{Unknown}
use Rattle.dc_claims.specs.declared.duty.Unknown.TheVariants.{Bound, Coefficient}
use Rattle.dc_claims.specs.Duties.{Pair, Flags, AreRight}
use Rattle.dc_claims.specs.Problems.{Column, Plus, Minus, Times, columns_of, main_problem}
use Rattle.dc_claims.specs.Claims.{Potential, Multipliers, Certifies, IsCertified, IsLeast, HasNoCertificate, IsVacuous}
use Rattle.dc_claims.specs.Plans.{IsPair, IsFit}
use Rattle.dc_claims.specs.Runs.{RunsAt, IsInput, HoldWhereReached}

-- ---- claims among themselves
-- no two of the three claims hold, and the least threshold is one
pub record AtMostOneClaim : Type 0 where
  pub least_or_none : (p : Pair) (d k : ℕ) (t : ℚ) → IsLeast p d k t → ¬ HasNoCertificate p d k
  pub least_or_every : (p : Pair) (d k : ℕ) (t : ℚ) → IsLeast p d k t → ¬ IsVacuous p d k
  pub none_or_every : (p : Pair) (d k : ℕ) → HasNoCertificate p d k → ¬ IsVacuous p d k
  pub one_least : (p : Pair) (d k : ℕ) (t u : ℚ) → IsLeast p d k t → IsLeast p d k u → t ≡ u

-- a threshold above a certified one is certified
abbrev pub HigherAreCertified : Type 0
HigherAreCertified = (p : Pair) (d k : ℕ) (t u : ℚ)
    → IsCertified p d k t → t ≤ℚ u → IsCertified p d k u

-- ---- certificates and solutions of the main problem
-- the value of an unknown
abbrev pub unknown_value : ℚ → Potential → Potential → Unknown → ℚ
unknown_value t φ χ Bound = t
unknown_value t φ χ (Coefficient New l i) = φ l i
unknown_value t φ χ (Coefficient Old l i) = χ l i

-- number j of a vector, which belongs to a column: an unknown is the difference of its two numbers,
-- neither below 0
abbrev pub Splits : (ℕ → ℚ) → ℚ → Potential → Potential → Multipliers → ℕ → Column → Type 0
Splits x t φ χ multipliers j (Plus u) =
    NonNegative (x j) × NonNegative (x (suc j)) × (x j -ℚ x (suc j) ≡ unknown_value t φ χ u)
Splits x t φ χ multipliers j (Minus u) = Unit {0}
Splits x t φ χ multipliers j (Times o i) = x j ≡ multipliers o i

abbrev pub IsSplit : Pair → ℕ → ℕ → Flags → (ℕ → ℚ) → ℚ → Potential → Potential → Multipliers → Type 0
IsSplit p d k f x t φ χ multipliers = (j : ℕ) (c : Column)
    → slice_get (columns_of p d k f) j ≡ Some c → Splits x t φ χ multipliers j c

-- values certify exactly where their vector, each unknown split in two, solves the main problem
abbrev pub EquationsAreIdentities : Type 0
EquationsAreIdentities = (p : Pair) (d k : ℕ) (f : Flags)
    (x : ℕ → ℚ) (t : ℚ) (φ χ : Potential) (multipliers : Multipliers)
    → IsFit p d k f → AreRight p f → IsSplit p d k f x t φ χ multipliers
    → Certifies p d k t φ χ multipliers ↔ IsSolution (rational (main_problem p d k f)) x

-- each values have a split, each solution is the split of some values, and a split costs its threshold
abbrev pub SplitsExist : Type 0
SplitsExist = (p : Pair) (d k : ℕ) (f : Flags) (t : ℚ) (φ χ : Potential) (multipliers : Multipliers)
    → (x : ℕ → ℚ) × IsSplit p d k f x t φ χ multipliers

abbrev pub SolutionsSplit : Type 0
SolutionsSplit = (p : Pair) (d k : ℕ) (f : Flags) (x : ℕ → ℚ)
    → IsSolution (rational (main_problem p d k f)) x
    → (t : ℚ) × (φ : Potential) × (χ : Potential) × (multipliers : Multipliers)
    × IsSplit p d k f x t φ χ multipliers

abbrev pub SplitsCost : Type 0
SplitsCost = (p : Pair) (d k : ℕ) (f : Flags)
    (x : ℕ → ℚ) (t : ℚ) (φ χ : Potential) (multipliers : Multipliers)
    → IsSplit p d k f x t φ χ multipliers → cost_of (rational (main_problem p d k f)) x ≡ t

-- so the certified thresholds are the costs of the solutions
abbrev pub CertifiedAreCosts : Type 0
CertifiedAreCosts = (p : Pair) (d k : ℕ) (f : Flags) (t : ℚ) → IsFit p d k f → AreRight p f
    → IsCertified p d k t
    ↔ ((x : ℕ → ℚ) × IsSolution (rational (main_problem p d k f)) x
    × (cost_of (rational (main_problem p d k f)) x ≡ t))

-- what an outcome of the main problem claims: a solution of least cost, no solution, or solutions
-- whose costs have no bound
pub record OutcomesClaim (p : Pair) (d k : ℕ) (f : Flags) : Type 0 where
  pub least : (x : ℕ → ℚ) → IsSolution (rational (main_problem p d k f)) x
      → CostAtLeast (rational (main_problem p d k f)) (cost_of (rational (main_problem p d k f)) x)
      → IsLeast p d k (cost_of (rational (main_problem p d k f)) x)
  pub none : HasNoSolution (rational (main_problem p d k f)) → HasNoCertificate p d k
  pub every : (x : ℕ → ℚ) → IsSolution (rational (main_problem p d k f)) x
      → HasNoBound (rational (main_problem p d k f)) → IsVacuous p d k

abbrev pub OutcomesAreClaims : Type 0
OutcomesAreClaims = (p : Pair) (d k : ℕ) (f : Flags)
    → IsFit p d k f → AreRight p f → OutcomesClaim p d k f

-- ---- certificates and runs
-- a run of new costs at most a certified threshold more than a run of old on the same input
abbrev pub CertifiedBoundRuns : Type 0
CertifiedBoundRuns = (p : Pair) (d k : ℕ) (t : ℚ)
    → IsPair p → HoldWhereReached p New → HoldWhereReached p Old → IsCertified p d k t
    → (v : State) (c e : ℤ) → IsInput p v → RunsAt p.new v c → RunsAt p.old v e
    → of_ℤ (c -ℤ e) ≤ℚ t

-- and where every threshold is certified, no input has a run of both
abbrev pub VacuousRunNowhere : Type 0
VacuousRunNowhere = (p : Pair) (d k : ℕ)
    → IsPair p → HoldWhereReached p New → HoldWhereReached p Old → IsVacuous p d k
    → (v : State) (c e : ℤ) → IsInput p v → RunsAt p.new v c → RunsAt p.old v e → ⊥
