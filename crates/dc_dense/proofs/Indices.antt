-- Indices in a table that is one list.
use Rattle.std.proofs.Common.{ℕ, ◌+◌, ◌*◌, ◌<◌, ◌≤◌, ◌≢◌, ◌⊎◌, inl, inr, arith, nat_lt}
use Rattle.std.proofs.lemmas.Bool.{cases_Bool, ltb-false, ltb-true}
use Rattle.std.proofs.Math.Nat.{mul-le-mul_right}

-- a row before another ends before it begins
pub row_before : (a b w : ℕ) → a < b → a * w + w ≤ b * w
row_before a b w h = omega (arith, mul-le-mul_right w h)

pub index_below : (i k h w : ℕ) → i < h → k < w → i * w + k < h * w
index_below i k h w lt l = (let e : i * w + w ≤ h * w = row_before i h w lt in omega arith)

pub rows_apart : (a b w : ℕ) → a ≢ b → (a * w + w ≤ b * w) ⊎ (b * w + w ≤ a * w)
rows_apart a b w ne =
    elim (cases_Bool (nat_lt a b)) [
      | inl h ↦ inl (row_before a b w (ltb-true a b h))
      | inr h ↦ (let le : b ≤ a = ltb-false a b h in inr (row_before b a w (omega arith)))
    ]

pub ruleset indices = (row_before, index_below, rows_apart)
