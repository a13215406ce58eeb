-- The laws of linear problems, over the rational numbers.
use Rattle.std.specs.Prelude.{◌≡◌, ◌↔◌, ◌⊎◌, ℕ, ◌+◌, ◌<◌, ◌≤◌, ℤ, pos, Bool, false, Some, None}
use Rattle.dc_math.specs.Rational.{ℚ, of_ℤ}
use Rattle.dc_lp.specs.Linear.{Linear, combined_right, cost_of, IsDual, IsRefutation, IsRay, CostAtLeast, HasNoSolution, HasNoBound}
use Rattle.dc_lp.specs.Folds.{folded, folded_over, IsFitSum}
use Rattle.dc_lp.specs.Tables.{Table}
use Rattle.dc_lp.specs.Meanings.{IsPivotCell, entering, ratio_row, pivoted}
use Rattle.dc_lp.specs.Choices.{Enters, NoneEnters, Leaves, NoneLeaves}
use Rattle.dc_lp.specs.Fill.{FillIsGaps, fill, entry_count}

-- the right side of a dual is below the cost of each solution; where they are equal, no solution
-- costs less
abbrev pub WeakDuality : Type 0
WeakDuality = (p : Linear ℚ) (y : ℕ → ℚ) → IsDual p y → CostAtLeast p (combined_right p y)

abbrev pub BestByDual : Type 0
BestByDual = (p : Linear ℚ) (x y : ℕ → ℚ) → IsDual p y → cost_of p x ≡ combined_right p y
    → CostAtLeast p (cost_of p x)

abbrev pub RefutationExcludes : Type 0
RefutationExcludes = (p : Linear ℚ) (y : ℕ → ℚ) → IsRefutation p y → HasNoSolution p

abbrev pub RayGoesOn : Type 0
RayGoesOn = (p : Linear ℚ) (r : ℕ → ℚ) → IsRay p r → HasNoBound p

abbrev pub Fills : Type 0
Fills = (t : Table ℚ) (r j : ℕ) → IsPivotCell t r j → FillIsGaps t r j

-- a pivot leaves at most as many entries as there were and were filled
abbrev pub EntriesGrow : Type 0
EntriesGrow = (t : Table ℚ) (r j : ℕ) → entry_count (pivoted t r j) ≤ entry_count t + fill t r j

-- the column that enters, and that none does
abbrev pub ColumnEnters : Type 0
ColumnEnters = (t : Table ℚ) (i j : ℕ) → (entering t i ≡ Some j) ↔ Enters t i j

abbrev pub NoColumnEnters : Type 0
NoColumnEnters = (t : Table ℚ) (i : ℕ) → (entering t i ≡ None) ↔ NoneEnters t i

-- the row that leaves, and that none does
abbrev pub RowLeaves : Type 0
RowLeaves = (t : Table ℚ) (j r : ℕ) → (ratio_row t j ≡ Some r) ↔ Leaves t j r

abbrev pub NoRowLeaves : Type 0
NoRowLeaves = (t : Table ℚ) (j : ℕ) → (ratio_row t j ≡ None) ↔ NoneLeaves t j

-- a fold that exists is the sum of its products, and fits
abbrev pub SumsFit : Type 0
SumsFit = (n : ℕ) (a : ℕ → ℤ) (x : ℕ → ℚ) (s : ℚ) → folded n a x ≡ Some s → IsFitSum n a x s

-- where every index that doesn't pass has a coefficient or a number that is 0, the fold over the
-- others is the whole fold, or neither fits
abbrev pub LeavesOut : Type 0
LeavesOut = (test : ℕ → Bool) (n : ℕ) (a : ℕ → ℤ) (x : ℕ → ℚ)
    → ((k : ℕ) → k < n → test k ≡ false → (a k ≡ pos 0) ⊎ (x k ≡ of_ℤ (pos 0)))
    → folded_over test n a x ≡ folded n a x
