-- The numbers of the tables of a run have denominators of 128 bits, as long as its pivots fit.
use Rattle.std.specs.Prelude.{◌≡◌, ℕ, zero, suc, ◌+◌, ◌==◌, Bool, true, false, cond, if◌then◌else◌, nat_lt, ℤ, pos, neg_ℤ, ◌+ℤ◌, unsigned_abs, Some}
use Rattle.std.proofs.Common.{refl, sym, ◌∙◌, ap, ap₂, subst, arith}
use Rattle.std.proofs.lemmas.Bool.{and_parts}
use Rattle.dc_math.specs.Rational.{ℚ, Fraction, fraction_of, of_ℤ, of_ℤ_is, of_ℤ-+ℤ, ◌+ℚ◌, neg_ℚ, le_ℚ}
use Rattle.dc_math.specs.RationalField.{rationals}
use Rattle.dc_math.specs.Order.{of_ℤ-neg_ℤ}
use Rattle.dc_math.specs.Lowest.{lowest, lowest-of_reduced}
use Rattle.dc_frac.specs.Fits.{IsSmall, is_small, fits}
use Rattle.dc_frac.proofs.ShortWays.{gcd_nat_one}
use Rattle.dc_frac.proofs.FitLaws.{true_small}
use Rattle.dc_frac.proofs.ZeroSums.{lowest-neg}
use Rattle.dc_lp.specs.Linear.{Linear}
use Rattle.dc_lp.specs.Tables as tables
use Rattle.dc_lp.specs.Tables.{Table, made}
use Rattle.dc_pivots.specs.Runs.{State, run}
use Rattle.dc_simplex.specs.Limits.{AllFit}
use Rattle.dc_points.specs.Stated.{rational}
use Rattle.dc_acceptance.proofs.FittingRuns.{AreAll, made_have, run_have}

-- a denominator of at most 2^127 - 1
abbrev pub IsFine : ℚ → Type 0
IsFine x = IsSmall (lowest x).den

-- ---- whole numbers
abbrev IsWhole : ℚ → Type 0
IsWhole x = (z : ℤ) × (x ≡ of_ℤ z)

whole_fine : (x : ℚ) → IsWhole x → IsFine x
whole_fine x (z, e) = subst (λ (f : Fraction). IsSmall f.den) (sym (ap lowest (e ∙ of_ℤ_is z) ∙ lowest-of_reduced (fraction_of z) (gcd_nat_one (unsigned_abs z)))) (omega arith)

whole_neg : (x : ℚ) → IsWhole x → IsWhole (neg_ℚ x)
whole_neg x (z, e) = (neg_ℤ z, ap neg_ℚ e ∙ sym (of_ℤ-neg_ℤ z))

whole_sum : (x y : ℚ) → IsWhole x → IsWhole y → IsWhole (x +ℚ y)
whole_sum x y (z, e) (w, f) = (z +ℤ w, ap₂ ◌+ℚ◌ e f ∙ sym (of_ℤ-+ℤ z w))

-- ---- fine numbers

pub neg_fine : (x : ℚ) → IsFine x → IsFine (neg_ℚ x)
neg_fine x h = subst (λ (f : Fraction). IsSmall f.den) (sym (lowest-neg x)) h

pub zero_fine : IsFine (of_ℤ (pos 0))
zero_fine = whole_fine (of_ℤ (pos 0)) (pos 0, refl)

pub one_fine : IsFine (of_ℤ (pos 1))
one_fine = whole_fine (of_ℤ (pos 1)) (pos 1, refl)

fits_fine : (x : ℚ) → fits x ≡ true → IsFine x
unfolding fits
fits_fine x h = true_small (lowest x).den (and_parts (is_small (lowest x).num) (is_small (lowest x).den) h).1

-- ---- tables
abbrev pub AreFine : Table ℚ → Type 0
AreFine = AreAll IsFine

-- ---- the start
module _ (m : Linear ℤ) where
  abbrev p : Linear ℚ
  p = rational m

  signed_whole : (i : ℕ) (x : ℚ) → IsWhole x → IsWhole (tables.signed ℚ rationals p i x)
  signed_whole i x h = by (le_ℚ (of_ℤ (pos 0)) (p.right_side i))
    where
      by : (b : Bool) → IsWhole (cond b x (neg_ℚ x))
      by true = h
      by false = whole_neg x h

  entry_whole : (i k : ℕ) → IsWhole (tables.start_entry ℚ rationals p i k)
  unfolding tables.start_entry
  entry_whole i k = by (nat_lt k p.columns) (nat_lt k (p.columns + p.equations)) (k == p.columns + i)
    where
      by : (b c d : Bool) → IsWhole (if b then tables.signed ℚ rationals p i (p.coefficient i k) else if c then (if d then of_ℤ (pos 1) else of_ℤ (pos 0)) else tables.signed ℚ rationals p i (p.right_side i))
      by true c d = signed_whole i (p.coefficient i k) (m.coefficient i k, refl)
      by false true true = (pos 1, refl)
      by false true false = (pos 0, refl)
      by false false d = signed_whole i (p.right_side i) (m.right_side i, refl)

  sums_whole : (k n : ℕ) → IsWhole (tables.minus_sum ℚ rationals p k n)
  unfolding tables.minus_sum
  sums_whole k zero = (pos 0, refl)
  sums_whole k (suc n) =
      whole_sum (tables.minus_sum ℚ rationals p k n) (neg_ℚ (tables.start_entry ℚ rationals p n k)) (sums_whole k n)
      (whole_neg (tables.start_entry ℚ rationals p n k) (entry_whole n k))

  value_whole : (i k : ℕ) → IsWhole (tables.start_value ℚ rationals p i k)
  unfolding tables.start_value
  value_whole i k = by (nat_lt i p.equations) (i == p.equations) (nat_lt k p.columns)
    where
      by : (b c d : Bool) → IsWhole (if b then tables.start_entry ℚ rationals p i k else if c then tables.minus_sum ℚ rationals p k p.equations else if d then p.cost k else of_ℤ (pos 0))
      by true c d = entry_whole i k
      by false true d = sums_whole k p.equations
      by false false true = (m.cost k, refl)
      by false false false = (pos 0, refl)

  start_fine : AreFine (tables.start ℚ rationals p)
  unfolding tables.start
  start_fine =
      made_have IsFine zero_fine fits_fine p.columns (p.equations + 2) (p.columns + p.equations + 1) (made p.equations (λ i. p.columns + i)) (tables.start_value ℚ rationals p)
      (λ i k l g. whole_fine (tables.start_value ℚ rationals p i k) (value_whole i k))

-- ---- a run
pub run_fine : (m : Linear ℤ) (n : ℕ) (s : State ℚ) → run ℚ rationals (rational m) n ≡ Some s → AllFit (rational m) n → AreFine s.table
run_fine m = run_have IsFine zero_fine fits_fine m (start_fine m)
