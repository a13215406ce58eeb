-- Equal problems, and what they have in common.
use Rattle.std.specs.Prelude.{◌≡◌, ℕ, ◌<◌, List, ℤ}
use Rattle.dc_frac.specs.declared.Frac.{Frac}
use Rattle.dc_lp.specs.Linear.{Linear}
use Rattle.dc_simplex.specs.declared.Outcome.{Outcome}
use Rattle.dc_simplex.specs.Limits.{Answer, IsAnswer}
use Rattle.dc_simplex.specs.Outcomes.{IsOutcome, AreSame}
use Rattle.dc_simplex.specs.Ends.{IsBestAt, IsRefutedAt}
use Rattle.dc_points.specs.Stated.{rational}

-- as many equations and columns, and the same numbers at every index below these
pub record AreEqual {Q : Type 0} (p q : Linear Q) : Type 0 where
  pub equations : p.equations ≡ q.equations
  pub columns : p.columns ≡ q.columns
  pub coefficients : (i j : ℕ) → i < p.equations → j < p.columns → p.coefficient i j ≡ q.coefficient i j
  pub right_sides : (i : ℕ) → i < p.equations → p.right_side i ≡ q.right_side i
  pub costs : (j : ℕ) → j < p.columns → p.cost j ≡ q.cost j

-- equal problems have one outcome: the same end with the same numbers, after as many pivots
abbrev pub EqualHaveOneOutcome : Type 0
EqualHaveOneOutcome = (p q : Linear ℤ) (a b : Outcome) → AreEqual p q
    → IsOutcome (rational p) a → IsOutcome (rational q) b → AreSame a b

-- and one answer within a budget
abbrev pub EqualHaveOneAnswer : Type 0
EqualHaveOneAnswer = (p q : Linear ℤ) (budget : ℕ) (a b : Answer) → AreEqual p q
    → IsAnswer (rational p) budget a → IsAnswer (rational q) budget b → a ≡ b

-- so the vectors of their outcomes are the same lists
abbrev pub EqualHaveOneSolution : Type 0
EqualHaveOneSolution = (p q : Linear ℤ) (budget : ℕ) (x z : List Frac) → AreEqual p q
    → IsBestAt (rational p) budget x → IsBestAt (rational q) budget z → x ≡ z

abbrev pub EqualHaveOneRefutation : Type 0
EqualHaveOneRefutation = (p q : Linear ℤ) (budget : ℕ) (y z : List Frac) → AreEqual p q
    → IsRefutedAt (rational p) budget y → IsRefutedAt (rational q) budget z → y ≡ z
