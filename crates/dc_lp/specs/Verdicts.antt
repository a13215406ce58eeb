-- The tests of the four checkers, by number. A test is true or false, or None where its fold
-- doesn't fit.
use Rattle.std.specs.Prelude.{◌≡◌, ℕ, ◌+◌, ◌-◌, ◌<◌, ℤ, pos, Bool, true, false, nat_lt, if◌then◌else◌, Option, Some, None}
use Rattle.std.specs.Option.{option_map, option_and_then}
use Rattle.dc_math.specs.Rational.{ℚ, of_ℤ, le_ℚ}
use Rattle.dc_math.specs.Tests.{eq_ℚ, is_negative, is_positive}
use Rattle.dc_lp.specs.declared.Problem.{Problem}
use Rattle.dc_lp.specs.declared.Verdict.{Verdict}
use Rattle.dc_lp.specs.declared.Verdict.TheVariants.{Holds, Fails, Past128}
use Rattle.dc_lp.specs.Problems.{coefficient, columns, whole_at}
use Rattle.dc_lp.specs.Folds.{folded}

-- the tests below n are true
abbrev pub AllHold : (ℕ → Option Bool) → ℕ → Type 0
AllHold test n = (k : ℕ) → k < n → test k ≡ Some true

-- of n tests, the first that isn't true decides
abbrev pub IsVerdict : ℕ → (ℕ → Option Bool) → Verdict → Type 0
IsVerdict n test Holds = AllHold test n
IsVerdict n test (Fails i) = (i < n) × AllHold test i × (test i ≡ Some false)
IsVerdict n test (Past128 i) = (i < n) × AllHold test i × (test i ≡ None)

-- what test number i says, where those before it are true and none comes after it
abbrev pub judged : ℕ → Option Bool → Verdict
judged i None = Past128 i
judged i (Some true) = Holds
judged i (Some false) = Fails i

-- ---- the folds
-- the left side of an equation, a column's price, and the cost and the right side of a whole vector
abbrev pub left_fold : Problem → (ℕ → ℚ) → ℕ → Option ℚ
left_fold p x i = folded (columns p) (coefficient p i) x

abbrev pub price_fold : Problem → (ℕ → ℚ) → ℕ → Option ℚ
price_fold p y j = folded p.rows (λ i. coefficient p i j) y

abbrev pub cost_fold : Problem → (ℕ → ℚ) → Option ℚ
cost_fold p x = folded (columns p) (whole_at p.cost.items) x

abbrev pub right_fold : Problem → (ℕ → ℚ) → Option ℚ
right_fold p y = folded p.rows (whole_at p.b.items) y

-- ---- the tests
-- x[j] >= 0
abbrev pub sign_test : (ℕ → ℚ) → ℕ → Option Bool
sign_test x j = Some (le_ℚ (of_ℤ (pos 0)) (x j))

-- equation i with right side b
abbrev pub equation_test : Problem → (ℕ → ℚ) → ℤ → ℕ → Option Bool
equation_test p x b i = option_map (λ s. eq_ℚ s (of_ℤ b)) (left_fold p x i)

-- y * A_j <= c
abbrev pub price_test : Problem → (ℕ → ℚ) → ℤ → ℕ → Option Bool
price_test p y c j = option_map (λ s. le_ℚ s (of_ℤ c)) (price_fold p y j)

-- cost * x = y * b, of which cost * x is folded first
abbrev pub value_test : Problem → (ℕ → ℚ) → (ℕ → ℚ) → Option Bool
value_test p x y = option_and_then (λ s. option_map (λ t. eq_ℚ s t) (right_fold p y)) (cost_fold p x)

-- ---- by number
abbrev pub primal_test : Problem → (ℕ → ℚ) → ℕ → Option Bool
primal_test p x k =
    if nat_lt k (columns p) then sign_test x k else equation_test p x
    (whole_at p.b.items (k - columns p)) (k - columns p)

abbrev pub dual_test : Problem → (ℕ → ℚ) → (ℕ → ℚ) → ℕ → Option Bool
dual_test p x y k =
    if nat_lt k (columns p) then price_test p y (whole_at p.cost.items k) k else value_test p x y

abbrev pub refutation_test : Problem → (ℕ → ℚ) → ℕ → Option Bool
refutation_test p y k =
    if nat_lt k (columns p) then price_test p y (pos 0) k else option_map is_positive
    (right_fold p y)

abbrev pub ray_test : Problem → (ℕ → ℚ) → ℕ → Option Bool
ray_test p r k =
    if nat_lt k (columns p) then sign_test r k
    else if nat_lt k (columns p + p.rows) then equation_test p r (pos 0) (k - columns p)
    else option_map is_negative (cost_fold p r)
