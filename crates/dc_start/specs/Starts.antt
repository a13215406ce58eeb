-- The starting table in whole numbers.
use Rattle.std.specs.Prelude.{ℕ, zero, suc, ◌+◌, ◌==◌, nat_lt, ℤ, pos, neg_ℤ, ◌-ℤ◌, int_lt, cond, if◌then◌else◌, length}
use Rattle.dc_math.specs.RationalField.{rationals}
use Rattle.dc_math.specs.Rational.{ℚ}
use Rattle.dc_lp.specs.declared.Problem.{Problem}
use Rattle.dc_lp.specs.Problems.{coefficient, columns, whole_at, linear_of}
use Rattle.dc_lp.specs.Tables as tables

abbrev pub width : Problem → ℕ
width p = columns p + p.rows + 1

-- x, negated where the right side b is negative
abbrev pub signed : ℤ → ℤ → ℤ
signed b x = cond (int_lt b (pos 0)) (neg_ℤ x) x

-- equation i over real columns, artificial columns and the right side
unfoldable pub whole_entry : Problem → ℕ → ℕ → ℤ
whole_entry p i k =
    if nat_lt k (columns p) then signed (whole_at p.b.items i) (coefficient p i k)
    else if nat_lt k (columns p + p.rows) then (if k == columns p + i then pos 1 else pos 0)
    else signed (whole_at p.b.items i) (whole_at p.b.items i)

-- minus the sum of the equations 0 to n - 1 in column k
unfoldable pub lowered : Problem → ℕ → ℕ → ℤ
lowered p k zero = pos 0
lowered p k (suc n) = lowered p k n -ℤ whole_entry p n k

abbrev pub start_value : Problem → ℕ → ℕ → ℚ
start_value p i k = tables.start_value ℚ rationals (linear_of p) i k
