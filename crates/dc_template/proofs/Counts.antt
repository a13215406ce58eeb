-- The number of monomials for one degree more, and a bound.
use Rattle.std.specs.Prelude.{◌≡◌, ℕ, ◌+◌, ◌-◌, ◌*◌, ◌/◌, ◌≤◌, length}
use Rattle.std.proofs.Common.{arith}
use Rattle.dc_math.specs.Pascal as pascals
use Rattle.dc_poly.specs.Monomials.{monomials_of}
use Rattle.dc_poly.proofs.Sizes.{power_more}
use Rattle.dc_poly.proofs.Counts.{pascal}

abbrev count : ℕ → ℕ → ℕ
count n d = length (monomials_of n d)

pub next : (n d x : ℕ) → 1 ≤ d → x ≡ length (monomials_of n (d - 1)) → x * (n + d) / d ≡ length (monomials_of n d)
next n d x h e = pascals.next count pascal n d x h e

pub count_small : (n d : ℕ) → n + d ≤ 13 → length (monomials_of n d) ≤ 8192
count_small n d h = let a = pascals.doubled count pascal n d in let b = power_more 2 (n + d) 13 (omega arith) h in omega arith
