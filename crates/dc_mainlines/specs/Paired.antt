-- Problems whose first columns belong to unknowns, two to each.
use Rattle.std.specs.Prelude.{◌≡◌, ℕ, suc, ◌*◌, ◌≤◌, ◌<◌, ℤ, pos, neg_ℤ}
use Rattle.dc_lp.specs.Linear.{Linear}

-- of each of u unknowns the second column is minus the first, in the equations and in the cost; unknown
-- 0 is the cost, and nothing else costs anything
pub record IsPaired (m : Linear ℤ) (u : ℕ) : Type 0 where
  pub some : 1 ≤ u
  pub room : u * 2 ≤ m.columns
  pub minus : (i k : ℕ) → k < u → m.coefficient i (suc (k * 2)) ≡ neg_ℤ (m.coefficient i (k * 2))
  pub first : m.cost 0 ≡ pos 1
  pub others : (k : ℕ) → 1 ≤ k → k < u → m.cost (k * 2) ≡ pos 0
  pub minus_cost : (k : ℕ) → k < u → m.cost (suc (k * 2)) ≡ neg_ℤ (m.cost (k * 2))
  pub multipliers : (j : ℕ) → u * 2 ≤ j → m.cost j ≡ pos 0
