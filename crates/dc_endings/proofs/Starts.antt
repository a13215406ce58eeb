-- The starting table of a problem whose numbers are small.
use Rattle.std.specs.Prelude.{◌≡◌, ℕ, zero, suc, ◌+◌, ◌<◌, ◌≤◌, ◌==◌, Bool, true, false, cond, if◌then◌else◌, nat_lt, ℤ, pos, neg_ℤ, ◌+ℤ◌, unsigned_abs}
use Rattle.std.proofs.Common.{refl, sym, ◌∙◌, ap, ap₂, subst, arith}
use Rattle.dc_math.specs.Rational.{ℚ, of_ℤ, of_ℤ-+ℤ, ◌+ℚ◌, neg_ℚ, le_ℚ}
use Rattle.dc_math.specs.RationalField.{rationals}
use Rattle.dc_math.specs.Order.{of_ℤ-neg_ℤ}
use Rattle.dc_math.specs.Integers.{size-neg_ℤ, size-+ℤ}
use Rattle.dc_frac.specs.Fits.{IsSmall}
use Rattle.dc_lp.specs.Linear.{Linear}
use Rattle.dc_lp.proofs.Tallies.{tally, tally-term, hit, once-from, tally-hit}
use Rattle.dc_lp.specs.Tables as tables
use Rattle.dc_lp.specs.Tables.{Table, made}
use Rattle.dc_points.specs.Stated.{rational}
use Rattle.dc_acceptance.proofs.FittingRuns.{AreAll, made_have}
use Rattle.std.specs.Prelude.{◌^◌}
use Rattle.std.proofs.lemmas.Bool.{ltb-true}
use Rattle.dc_endings.proofs.Numbers.{IsNumber, zero_number, whole_number}

-- ---- problems
-- the sum of the sizes of f 0 to f (n - 1)
abbrev pub sizes : (ℕ → ℤ) → ℕ → ℕ
sizes f n = tally (λ i. unsigned_abs (f i)) n

-- each column's sizes add up to at most 2^127 - 1, and so do those of the right side; each cost is as small
pub record IsLight (m : Linear ℤ) : Type 0 where
  pub columns : (j : ℕ) → j < m.columns → sizes (λ i. m.coefficient i j) m.equations < 2 ^ 127
  pub right_side : sizes m.right_side m.equations < 2 ^ 127
  pub costs : (j : ℕ) → j < m.columns → IsSmall (m.cost j)

-- ---- tables
abbrev pub AreNumbers : Table ℚ → Type 0
AreNumbers = AreAll IsNumber

-- ---- whole numbers of a size
record IsSized (x : ℚ) (b : ℕ) : Type 0 where
  number : ℤ
  is : x ≡ of_ℤ number
  size : unsigned_abs number ≤ b

sized_number : (x : ℚ) (b : ℕ) → IsSized x b → b < 2 ^ 127 → IsNumber x
sized_number x b h l = subst IsNumber (sym h.is) (whole_number h.number (let s = h.size in omega arith))

sized_neg : (x : ℚ) (b : ℕ) → IsSized x b → IsSized (neg_ℚ x) b
sized_neg x b h = record { number = neg_ℤ h.number; is = ap neg_ℚ h.is ∙ sym (of_ℤ-neg_ℤ h.number); size = (let e = size-neg_ℤ h.number in let s = h.size in omega arith) }

sized_sum : (x y : ℚ) (b c : ℕ) → IsSized x b → IsSized y c → IsSized (x +ℚ y) (b + c)
sized_sum x y b c h k = record {
  number = h.number +ℤ k.number;
  is = ap₂ ◌+ℚ◌ h.is k.is ∙ sym (of_ℤ-+ℤ h.number k.number);
  size = (let e = size-+ℤ h.number k.number in let s = h.size in let t = k.size in omega arith);
}

whole_sized : (z : ℤ) → IsSized (of_ℤ z) (unsigned_abs z)
whole_sized z = record { number = z; is = refl; size = omega arith }

-- ---- the start
module _ (m : Linear ℤ) (light : IsLight m) where
  abbrev p : Linear ℚ
  p = rational m

  signed_sized : (i : ℕ) (x : ℚ) (b : ℕ) → IsSized x b → IsSized (tables.signed ℚ rationals p i x) b
  signed_sized i x b h = by (le_ℚ (of_ℤ (pos 0)) (p.right_side i))
    where
      by : (d : Bool) → IsSized (cond d x (neg_ℚ x)) b
      by true = h
      by false = sized_neg x b h

  -- how large an entry is at most
  abbrev entry_size : ℕ → ℕ → ℕ
  entry_size k i = cond (nat_lt k m.columns) (unsigned_abs (m.coefficient i k)) (cond (nat_lt k (m.columns + m.equations)) (hit (λ a. k == m.columns + a) 1 i) (unsigned_abs (m.right_side i)))

  entry_sized : (i k : ℕ) → IsSized (tables.start_entry ℚ rationals p i k) (entry_size k i)
  unfolding tables.start_entry
  entry_sized i k = by (nat_lt k m.columns) (nat_lt k (m.columns + m.equations)) (k == m.columns + i)
    where
      by : (b c d : Bool)
          → IsSized (if b then tables.signed ℚ rationals p i (p.coefficient i k) else if c then (if d then of_ℤ (pos 1) else of_ℤ (pos 0)) else tables.signed ℚ rationals p i (p.right_side i))
          (cond b (unsigned_abs (m.coefficient i k)) (cond c (cond d 1 0) (unsigned_abs (m.right_side i))))
      by true c d = signed_sized i (p.coefficient i k) (unsigned_abs (m.coefficient i k)) (whole_sized (m.coefficient i k))
      by false true true = whole_sized (pos 1)
      by false true false = whole_sized (pos 0)
      by false false d = signed_sized i (p.right_side i) (unsigned_abs (m.right_side i)) (whole_sized (m.right_side i))

  sums_sized : (k n : ℕ) → IsSized (tables.minus_sum ℚ rationals p k n) (tally (entry_size k) n)
  unfolding tables.minus_sum
  sums_sized k zero = whole_sized (pos 0)
  sums_sized k (suc n) =
      sized_sum (tables.minus_sum ℚ rationals p k n) (neg_ℚ (tables.start_entry ℚ rationals p n k)) (tally (entry_size k) n) (entry_size k n) (sums_sized k n)
      (sized_neg (tables.start_entry ℚ rationals p n k) (entry_size k n) (entry_sized n k))

  total_small : (k : ℕ) → tally (entry_size k) m.equations < 2 ^ 127
  total_small k = by (nat_lt k m.columns) (nat_lt k (m.columns + m.equations)) refl
    where
      by : (b c : Bool) → nat_lt k m.columns ≡ b
          → tally (λ i. cond b (unsigned_abs (m.coefficient i k)) (cond c (hit (λ a. k == m.columns + a) 1 i) (unsigned_abs (m.right_side i)))) m.equations < 2 ^ 127
      by true c e = light.columns k (ltb-true k m.columns e)
      by false true e = let a = tally-hit (λ i. k == m.columns + i) 1 m.equations (once-from k m.columns) in omega arith
      by false false e = light.right_side

  value_number : (i k : ℕ) → IsNumber (tables.start_value ℚ rationals p i k)
  unfolding tables.start_value
  value_number i k = by (nat_lt i p.equations) (i == p.equations) (nat_lt k p.columns) refl refl
    where
      by : (b c d : Bool) → nat_lt i p.equations ≡ b → nat_lt k p.columns ≡ d
          → IsNumber (if b then tables.start_entry ℚ rationals p i k else if c then tables.minus_sum ℚ rationals p k p.equations else if d then p.cost k else of_ℤ (pos 0))
      by true c d e g =
          sized_number (tables.start_entry ℚ rationals p i k) (entry_size k i) (entry_sized i k)
          (let a = tally-term (entry_size k) m.equations i (ltb-true i m.equations e) in let s = total_small k in omega arith)
      by false true d e g = sized_number (tables.minus_sum ℚ rationals p k m.equations) (tally (entry_size k) m.equations) (sums_sized k m.equations) (total_small k)
      by false false true e g = whole_number (m.cost k) (light.costs k (ltb-true k m.columns g))
      by false false false e g = zero_number

  pub start_numbers : AreNumbers (tables.start ℚ rationals p)
  unfolding tables.start
  start_numbers =
      made_have IsNumber zero_number (λ x h. h) p.columns (p.equations + 2) (p.columns + p.equations + 1) (made p.equations (λ i. p.columns + i)) (tables.start_value ℚ rationals p)
      (λ i k l g. value_number i k)
