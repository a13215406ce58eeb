-- 0 fits, and a sum or a difference with 0 fits where the other number does.
use Rattle.std.specs.Prelude.{◌≡◌, ℤ, pos, ◌+ℤ◌, ◌*ℤ◌, neg_ℤ, unsigned_abs, int_div, Bool, true, false, ◌&&◌, nat_lt, ◌^◌}
use Rattle.std.proofs.Common.{refl, sym, ◌∙◌, ap, ap₂, arith}
use Rattle.std.proofs.lemmas.Bool.{and_from}
use Rattle.std.proofs.Math.Nat.{eq-one_of_dvd-one}
use Rattle.std.proofs.Math.IntN.{zero-*ℤ, +ℤ_idl, +ℤ_idr}
use Rattle.dc_math.specs.Gcd.{gcd, gcd_is}
use Rattle.dc_math.specs.Quotients.{gcd_ℤ}
use Rattle.dc_math.specs.Rational.{ℚ, Fraction, fraction_of, fraction_neg, ratio-neg, of_ℤ, of_ℤ_is, neg_ℚ, ◌*ℚ◌}
use Rattle.dc_math.specs.Order.{of_ℤ-neg_ℤ}
use Rattle.dc_math.specs.Lowest.{lowest, ratio-lowest, lowest_reduced, lowest-of_reduced}
use Rattle.dc_math.specs.Integers.{size-neg_ℤ, one-*ℤ, *ℤ-one}
use Rattle.dc_frac.specs.declared.Frac.{Frac}
use Rattle.dc_frac.specs.Fits.{IsSmall, is_small, fits, product_fits, parts_fit, rule_fits, sum_fits, sum_total, sum_den, difference_fits}
use Rattle.dc_frac.specs.Value.{value}
use Rattle.dc_frac.proofs.ValueLaws.{lowest-value}
use Rattle.dc_frac.proofs.FitLaws.{small_true}
use Rattle.dc_frac.proofs.ShortWays.{div_one, gcd_nat_one, gcd_one}

once : (x z y : Bool) → z ≡ true → (x && z && x && y) ≡ (x && y)
once true true y e = refl
once false true y e = refl
once x false y e = absurd (cc)

other : (z x y : Bool) → z ≡ true → (z && x && x && y) ≡ (x && y)
other true true y e = refl
other true false y e = refl
other false x y e = absurd (cc)

zero_small : is_small (pos 0) ≡ true
zero_small = small_true (pos 0) (omega arith)

right_rule : (a b u v t d : ℤ) → u ≡ a → v ≡ pos 0 → t ≡ a → d ≡ b → (is_small u && is_small v && is_small t && is_small d) ≡ (is_small a && is_small b)
right_rule a b u v t d e f g h = rw (e, f, g, h) (once (is_small a) (is_small (pos 0)) (is_small b) zero_small)

left_rule : (a b u v t d : ℤ) → u ≡ pos 0 → v ≡ a → t ≡ a → d ≡ b → (is_small u && is_small v && is_small t && is_small d) ≡ (is_small a && is_small b)
left_rule a b u v t d e f g h = rw (e, f, g, h) (other (is_small (pos 0)) (is_small a) (is_small b) zero_small)

-- a quotient by the divisor that a number and 1 have
by_one : (x g : ℤ) → g ≡ pos 1 → int_div x g ≡ x
by_one x g e = ap (int_div x) e ∙ div_one x

one_gcd : (x : ℤ) → gcd_ℤ (pos 1) x ≡ pos 1
one_gcd x = ap pos (eq-one_of_dvd-one (gcd_is 1 (unsigned_abs x)).0)

right_parts : (a b : ℤ) → rule_fits a b (pos 0) (pos 1) (pos 1) ≡ (is_small a && is_small b)
right_parts a b = right_rule a b _ _ (sum_total a b (pos 0) (pos 1) (pos 1)) (sum_den a b (pos 0) (pos 1) (pos 1)) left right total den
  where
    left : a *ℤ int_div (pos 1) (pos 1) ≡ a
    left = ap (λ y. a *ℤ y) (div_one (pos 1)) ∙ *ℤ-one a

    right : pos 0 *ℤ int_div b (pos 1) ≡ pos 0
    right = zero-*ℤ (int_div b (pos 1))

    total : sum_total a b (pos 0) (pos 1) (pos 1) ≡ a
    total = ap₂ ◌+ℤ◌ left right ∙ +ℤ_idr a

    den : sum_den a b (pos 0) (pos 1) (pos 1) ≡ b
    den = ap₂ ◌*ℤ◌ (div_one b) (by_one (pos 1) _ (gcd_one (sum_total a b (pos 0) (pos 1) (pos 1)))) ∙ *ℤ-one b

left_parts : (c d : ℤ) → rule_fits (pos 0) (pos 1) c d (pos 1) ≡ (is_small c && is_small d)
left_parts c d = left_rule c d _ _ (sum_total (pos 0) (pos 1) c d (pos 1)) (sum_den (pos 0) (pos 1) c d (pos 1)) left right total den
  where
    left : pos 0 *ℤ int_div d (pos 1) ≡ pos 0
    left = zero-*ℤ (int_div d (pos 1))

    right : c *ℤ int_div (pos 1) (pos 1) ≡ c
    right = ap (λ y. c *ℤ y) (div_one (pos 1)) ∙ *ℤ-one c

    total : sum_total (pos 0) (pos 1) c d (pos 1) ≡ c
    total = ap₂ ◌+ℤ◌ left right ∙ +ℤ_idl c

    den : sum_den (pos 0) (pos 1) c d (pos 1) ≡ d
    den = ap₂ ◌*ℤ◌ (div_one (pos 1)) (by_one d _ (gcd_one (sum_total (pos 0) (pos 1) c d (pos 1)))) ∙ one-*ℤ d

lowest_zero : lowest (of_ℤ (pos 0)) ≡ fraction_of (pos 0)
lowest_zero = ap lowest (of_ℤ_is (pos 0)) ∙ lowest-of_reduced (fraction_of (pos 0)) (gcd_nat_one 0)

pub right_zero : (x : ℚ) → sum_fits x (of_ℤ (pos 0)) ≡ fits x
unfolding sum_fits fits
right_zero x =
    ap (parts_fit (lowest x)) lowest_zero
    ∙ ap (rule_fits (lowest x).num (lowest x).den (pos 0) (pos 1)) (gcd_one (lowest x).den)
    ∙ right_parts (lowest x).num (lowest x).den

pub left_zero : (x : ℚ) → sum_fits (of_ℤ (pos 0)) x ≡ fits x
unfolding sum_fits fits
left_zero x =
    ap (λ p. parts_fit p (lowest x)) lowest_zero
    ∙ ap (rule_fits (pos 0) (pos 1) (lowest x).num (lowest x).den) (one_gcd (lowest x).den)
    ∙ left_parts (lowest x).num (lowest x).den

pub fits-zero : fits (of_ℤ (pos 0)) ≡ true
unfolding fits
fits-zero = rw lowest_zero refl

pub product_fits-zero : (x y : ℚ) → x *ℚ y ≡ of_ℤ (pos 0) → product_fits x y ≡ true
product_fits-zero x y e = ap fits e ∙ fits-zero

-- ---- differences

pub lowest-neg : (x : ℚ) → lowest (neg_ℚ x) ≡ fraction_neg (lowest x)
lowest-neg x =
    ap (λ y. lowest (neg_ℚ y)) (sym (ratio-lowest x)) ∙ ap lowest (ratio-neg (lowest x))
    ∙ lowest-of_reduced (fraction_neg (lowest x)) (ap (λ n. gcd n (unsigned_abs (lowest x).den)) (size-neg_ℤ (lowest x).num) ∙ lowest_reduced x)

pub fits-neg : (x : ℚ) → fits (neg_ℚ x) ≡ fits x
unfolding fits
fits-neg x = ap (λ (p : Fraction). is_small p.num && is_small p.den) (lowest-neg x) ∙ ap (λ b. b && is_small (lowest x).den) (same_small (lowest x).num)
  where
    same_small : (z : ℤ) → is_small (neg_ℤ z) ≡ is_small z
    same_small z = ap (λ n. nat_lt n (2 ^ 127)) (size-neg_ℤ z)

pub minus_zero : (x : ℚ) → difference_fits x (of_ℤ (pos 0)) ≡ fits x
minus_zero x = ap (sum_fits x) (sym (of_ℤ-neg_ℤ (pos 0))) ∙ right_zero x

pub from_zero : (x : ℚ) → difference_fits (of_ℤ (pos 0)) x ≡ fits x
from_zero x = left_zero (neg_ℚ x) ∙ fits-neg x

-- ---- fractions
pub fits-value : (f : Frac) → IsSmall f.den → fits (value f) ≡ true
unfolding fits
fits-value f h = ap (λ (p : Fraction). is_small p.num && is_small p.den) (lowest-value f) ∙ and_from _ _ (small_true f.num f.small) (small_true f.den h)
