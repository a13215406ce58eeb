-- The floor of a rational number: the greatest whole number that is at most it.
use Rattle.std.specs.Prelude.{◌≡◌, ℕ, zero, suc, ◌+◌, ◌*◌, ◌/◌, ◌%◌, ◌<◌, ℤ, pos, negsuc, ◌+ℤ◌, ◌*ℤ◌, ◌≤ℤ◌, ◌<ℤ◌}
use Rattle.std.specs.Int.{int_div_euclid}
use Rattle.std.proofs.Common.{arith, mod-lt, zero-lt-suc}
use Rattle.std.proofs.lemmas.Int.{ints}
use Rattle.std.proofs.Math.Nat.{div-add-mod}
use Rattle.std.proofs.Math.IntN.{ℤ_set}
use Rattle.dc_math.specs.Rational.{ℚ, Fraction, IsSameFraction, fraction_of, ratio, ratio_same, ratio_at_most, at_most_ratio, ℚ_ind, ℚ_lift, ℚ_lift-ratio, of_ℤ, of_ℤ_is, ◌≤ℚ◌, ◌<ℚ◌, ≤ℚ_prop, <ℚ_prop}
use Rattle.dc_math.specs.Order.{not-<ℚ, ≤ℚ-<ℚ_trans, of_ℤ-<_back}

-- ---- of pairs: the quotient whose remainder is not negative
abbrev pub fraction_floor : Fraction → ℤ
fraction_floor p = int_div_euclid p.num p.den

pub floor_low : (a d : ℤ) → pos 1 ≤ℤ d → (int_div_euclid a d *ℤ d) ≤ℤ a
floor_low (pos a) (pos zero) h = absurd (omega (arith, ints))
floor_low (pos a) (pos (suc b)) h = by (a / suc b) (a % suc b) (div-add-mod a (suc b))
  where
    by : (q r : ℕ) → suc b * q + r ≡ a → (pos q *ℤ pos (suc b)) ≤ℤ pos a
    by q r e = omega (arith, ints)
floor_low (negsuc a) (pos zero) h = absurd (omega (arith, ints))
floor_low (negsuc a) (pos (suc b)) h = by (a / suc b) (a % suc b) (div-add-mod a (suc b)) (mod-lt a (zero-lt-suc b))
  where
    by : (q r : ℕ) → suc b * q + r ≡ a → r < suc b → (negsuc q *ℤ pos (suc b)) ≤ℤ negsuc a
    by q r e l = omega (arith, ints)
floor_low (pos a) (negsuc b) h = absurd (omega (arith, ints))
floor_low (negsuc a) (negsuc b) h = absurd (omega (arith, ints))

pub floor_high : (a d : ℤ) → pos 1 ≤ℤ d → a <ℤ ((int_div_euclid a d +ℤ pos 1) *ℤ d)
floor_high (pos a) (pos zero) h = absurd (omega (arith, ints))
floor_high (pos a) (pos (suc b)) h = by (a / suc b) (a % suc b) (div-add-mod a (suc b)) (mod-lt a (zero-lt-suc b))
  where
    by : (q r : ℕ) → suc b * q + r ≡ a → r < suc b → pos a <ℤ ((pos q +ℤ pos 1) *ℤ pos (suc b))
    by q r e l = omega (arith, ints)
floor_high (negsuc a) (pos zero) h = absurd (omega (arith, ints))
floor_high (negsuc a) (pos (suc b)) h = by (a / suc b) (a % suc b) (div-add-mod a (suc b))
  where
    by : (q r : ℕ) → suc b * q + r ≡ a → negsuc a <ℤ ((negsuc q +ℤ pos 1) *ℤ pos (suc b))
    by zero r e = omega (arith, ints)
    by (suc q) r e =
        let f : negsuc (suc q) +ℤ pos 1 ≡ negsuc q = omega (arith, ints) in
        rw f (omega (arith, ints))
floor_high (pos a) (negsuc b) h = absurd (omega (arith, ints))
floor_high (negsuc a) (negsuc b) h = absurd (omega (arith, ints))

pub fraction_floor_low : (p : Fraction) → of_ℤ (fraction_floor p) ≤ℚ ratio p
fraction_floor_low p = rw (of_ℤ_is (fraction_floor p)) (ratio_at_most (fraction_of (fraction_floor p)) p (let h = floor_low p.num p.den p.den_positive in omega (arith, ints)))

pub fraction_floor_high : (p : Fraction) → ratio p <ℚ of_ℤ (fraction_floor p +ℤ pos 1)
fraction_floor_high p = not-<ℚ (ratio p) (of_ℤ (fraction_floor p +ℤ pos 1)) (λ l.
    no p.num p.den (fraction_floor p +ℤ pos 1) (floor_high p.num p.den p.den_positive) (at_most_ratio (fraction_of (fraction_floor p +ℤ pos 1)) p (rw (of_ℤ_is (fraction_floor p +ℤ pos 1)) at l)))
  where
    no : (a d q : ℤ) → a <ℤ (q *ℤ d) → (q *ℤ d) ≤ℤ (a *ℤ pos 1) → ⊥
    no a d q h k = absurd (omega (arith, ints))

-- ---- of numbers
pub between_unique : (x : ℚ) (z w : ℤ) → of_ℤ z ≤ℚ x → x <ℚ of_ℤ (z +ℤ pos 1) → of_ℤ w ≤ℚ x → x <ℚ of_ℤ (w +ℤ pos 1) → z ≡ w
between_unique x z w h k m n =
    let a = of_ℤ-<_back z (w +ℤ pos 1) (≤ℚ-<ℚ_trans _ x _ h n) in
    let b = of_ℤ-<_back w (z +ℤ pos 1) (≤ℚ-<ℚ_trans _ x _ m k) in
    omega (arith, ints)

floor_same : (p q : Fraction) → IsSameFraction p q → fraction_floor p ≡ fraction_floor q
floor_same p q e = between_unique (ratio p) (fraction_floor p) (fraction_floor q) (fraction_floor_low p) (fraction_floor_high p)
    (rw (ratio_same p q e) (fraction_floor_low q)) (rw (ratio_same p q e) (fraction_floor_high q))

pub floor : ℚ → ℤ
floor = ℚ_lift ℤ_set fraction_floor floor_same

pub floor-ratio : (p : Fraction) → floor (ratio p) ≡ fraction_floor p
unfolding floor
floor-ratio p = ℚ_lift-ratio ℤ_set fraction_floor floor_same p

pub floor-≤ℚ : (x : ℚ) → of_ℤ (floor x) ≤ℚ x
floor-≤ℚ = ℚ_ind (λ x. of_ℤ (floor x) ≤ℚ x) (λ x. ≤ℚ_prop _ _) (λ p. rw (floor-ratio p) (fraction_floor_low p))

pub <ℚ-floor : (x : ℚ) → x <ℚ of_ℤ (floor x +ℤ pos 1)
<ℚ-floor = ℚ_ind (λ x. x <ℚ of_ℤ (floor x +ℤ pos 1)) (λ x. <ℚ_prop _ _) (λ p. rw (floor-ratio p) (fraction_floor_high p))

pub floor_unique : (x : ℚ) (z : ℤ) → of_ℤ z ≤ℚ x → x <ℚ of_ℤ (z +ℤ pos 1) → z ≡ floor x
floor_unique x z h k = between_unique x z (floor x) h k (floor-≤ℚ x) (<ℚ-floor x)
