-- Small whole numbers, what fits of them, and quotients by numbers that aren't 0.
use Rattle.std.specs.Prelude.{◌≡◌, ℕ, ◌<◌, ◌≤◌, ◌^◌, ℤ, pos, ◌*ℤ◌, ◌≤ℤ◌, ◌<ℤ◌, unsigned_abs, Bool, true, false, ◌&&◌, ◌||◌, [], ◌∷◌}
use Rattle.std.proofs.Common.{refl, sym, ◌∙◌, ap, ap₂, subst, arith, inl, inr}
use Rattle.std.proofs.lemmas.Int.{ints}
use Rattle.std.proofs.lemmas.Bool.{cases_Bool}
use Rattle.std.specs.Cmp.{both_ways}
use Rattle.dc_math.specs.Rational.{ℚ, Fraction, fraction_of, ratio_same, of_ℤ, of_ℤ_is, neg_ℚ, ◌-ℚ◌, ◌*ℚ◌, ◌<ℚ◌}
use Rattle.dc_math.specs.RationalRing.{ring, reads, read_nat, same_form, linear₁, linear₂}
use Rattle.dc_math.specs.Inverse.{inverse, *ℚ-inverse, ◌/ℚ◌}
use Rattle.dc_math.specs.Signs.{negated_positive}
use Rattle.dc_math.specs.Order.{Positive, Positive_nonzero, Positive-*ℚ, inverse_positive, <ℚ_by, of_ℤ-<, of_ℤ-<_back, one_nonzero}
use Rattle.dc_math.specs.Lowest.{lowest, ratio-lowest}
use Rattle.dc_math.specs.Tests.{is_zero, is_negative, is_positive, eq_ℚ-true, eq_ℚ_true, eq_ℚ_false, lt_ℚ-true, lt_ℚ_true}
use Rattle.dc_frac.specs.declared.Frac.{Frac}
use Rattle.dc_frac.specs.Value.{value}
use Rattle.dc_frac.specs.Fits.{fits, product_fits, quotient_fits, difference_fits, IsWithin}
use Rattle.dc_frac.proofs.ValueLaws.{lowest-value}
use Rattle.dc_frac.proofs.FitLaws.{sum-fits}
use Rattle.dc_frac.proofs.SmallSizes.{whole_within, ratio_within, quotients_fit, products_fit, steps_fit, lowest-whole}
use Rattle.dc_start.specs.Changes.{step_fits}
use Rattle.dc_sparse.specs.Scales.{IsWhole, IsDen, IsPart}
use Rattle.dc_start.proofs.Changes.{quotient-zero}
use Rattle.dc_sparse.proofs.Quotients.{zero_by, quotient-nonzero}

-- ---- tests

pub nonzero : (x : ℚ) → is_zero x ≡ false → ¬ (x ≡ of_ℤ (pos 0))
nonzero x h = eq_ℚ_false x (of_ℤ (pos 0)) h

pub zero_test : (x : ℚ) → ¬ (x ≡ of_ℤ (pos 0)) → is_zero x ≡ false
zero_test x n = elim (cases_Bool (is_zero x)) [ inl e ↦ absurd (n (eq_ℚ_true x (of_ℤ (pos 0)) e)) | inr e ↦ e ]

pub is_zero-zero : is_zero (of_ℤ (pos 0)) ≡ true
is_zero-zero = eq_ℚ-true (of_ℤ (pos 0)) (of_ℤ (pos 0)) refl

pub whole_nonzero : (z : ℤ) → pos 1 ≤ℤ z → is_zero (of_ℤ z) ≡ false
whole_nonzero z h = zero_test (of_ℤ z) (Positive_nonzero (of_ℤ z) (of_ℤ-< (pos 0) z (omega (arith, ints))))

pub neg_nonzero : (x : ℚ) → is_zero x ≡ false → is_zero (neg_ℚ x) ≡ false
neg_nonzero x h = zero_test (neg_ℚ x) (λ e. nonzero x h (back x e))
  where
    back : (x : ℚ) → neg_ℚ x ≡ of_ℤ (pos 0) → x ≡ of_ℤ (pos 0)
    back x e = linear₁ (neg_ℚ (of_ℤ (pos 1))) _ _ _ _ e (ring (x ∷ []) (λ ρ p. simp (p, read_nat ρ, reads) (same_form _ _ _ refl)))

-- ---- quotients

-- a quotient is 0 exactly where its number is
pub is_zero-/ℚ : (x d : ℚ) → is_zero d ≡ false → is_zero (x /ℚ d) ≡ is_zero x
is_zero-/ℚ x d nz = elim (cases_Bool (is_zero x)) [
  | inl e ↦ ap is_zero (zero_by x d e) ∙ is_zero-zero ∙ sym e
  | inr e ↦ quotient-nonzero x d e nz ∙ sym e
]

-- and so is a product with a number that isn't 0
pub is_zero-*ℚ : (x m : ℚ) → is_zero m ≡ false → is_zero (x *ℚ m) ≡ is_zero x
is_zero-*ℚ x m nz = sym (is_zero-/ℚ (x *ℚ m) m nz) ∙ ap is_zero (plain x m (inverse m) (*ℚ-inverse m (nonzero m nz)))
  where
    plain : (x m i : ℚ) → m *ℚ i ≡ of_ℤ (pos 1) → (x *ℚ m) *ℚ i ≡ x
    plain x m i e = linear₁ x _ _ _ _ e (ring (x ∷ m ∷ i ∷ []) (λ ρ p q r. simp (p, q, r, read_nat ρ, reads) (same_form _ _ _ refl)))

below_zero : (x k : ℚ) → x <ℚ of_ℤ (pos 0) → Positive k → (x *ℚ k) <ℚ of_ℤ (pos 0)
below_zero x k h p = <ℚ_by (x *ℚ k) (of_ℤ (pos 0)) (neg_ℚ x *ℚ k) (Positive-*ℚ (neg_ℚ x) k (negated_positive x h) p)
    (ring (x ∷ k ∷ []) (λ ρ p q. simp (p, q, read_nat ρ, reads) (same_form _ _ _ refl)))

there_and_back : (x d i : ℚ) → d *ℚ i ≡ of_ℤ (pos 1) → (x *ℚ i) *ℚ d ≡ x
there_and_back x d i e = linear₁ x _ _ _ _ e (ring (x ∷ d ∷ i ∷ []) (λ ρ p q r. simp (p, q, r, read_nat ρ, reads) (same_form _ _ _ refl)))

pub is_negative-/ℚ : (x d : ℚ) → Positive d → is_negative (x /ℚ d) ≡ is_negative x
is_negative-/ℚ x d p = both_ways (is_negative (x /ℚ d)) (is_negative x)
    (λ h. lt_ℚ-true x (of_ℤ (pos 0)) (subst (λ z. z <ℚ of_ℤ (pos 0)) (there_and_back x d (inverse d) (*ℚ-inverse d (Positive_nonzero d p))) (below_zero (x /ℚ d) d (lt_ℚ_true (x /ℚ d) (of_ℤ (pos 0)) h) p)))
    (λ h. lt_ℚ-true (x /ℚ d) (of_ℤ (pos 0)) (below_zero x (inverse d) (lt_ℚ_true x (of_ℤ (pos 0)) h) (inverse_positive d p)))

pub is_positive-/ℚ : (x d : ℚ) → Positive d → is_positive (x /ℚ d) ≡ is_positive x
is_positive-/ℚ x d p = both_ways (is_positive (x /ℚ d)) (is_positive x)
    (λ h. lt_ℚ-true (of_ℤ (pos 0)) x (subst Positive (there_and_back x d (inverse d) (*ℚ-inverse d (Positive_nonzero d p))) (Positive-*ℚ (x /ℚ d) d (lt_ℚ_true (of_ℤ (pos 0)) (x /ℚ d) h) p)))
    (λ h. lt_ℚ-true (of_ℤ (pos 0)) (x /ℚ d) (Positive-*ℚ x (inverse d) (lt_ℚ_true (of_ℤ (pos 0)) x h) (inverse_positive d p)))

pub by_one : (x : ℚ) → x /ℚ of_ℤ (pos 1) ≡ x
by_one x = one x (inverse (of_ℤ (pos 1))) (*ℚ-inverse (of_ℤ (pos 1)) one_nonzero)
  where
    one : (x i : ℚ) → of_ℤ (pos 1) *ℚ i ≡ of_ℤ (pos 1) → x *ℚ i ≡ x
    one x i e = linear₁ x _ _ _ _ e (ring (x ∷ i ∷ []) (λ ρ p q. simp (p, q, read_nat ρ, reads) (same_form _ _ _ refl)))

-- numbers and their divisor may both be divided
pub both_parted : (x b s : ℚ) → is_zero s ≡ false → is_zero b ≡ false → (x /ℚ s) /ℚ (b /ℚ s) ≡ x /ℚ b
both_parted x b s ns nb = plain x b (inverse s) (inverse b) (inverse (b /ℚ s)) (*ℚ-inverse b (nonzero b nb)) (*ℚ-inverse (b /ℚ s) (nonzero (b /ℚ s) (is_zero-/ℚ b s ns ∙ nb)))
  where
    plain : (x b i j m : ℚ) → b *ℚ j ≡ of_ℤ (pos 1) → (b *ℚ i) *ℚ m ≡ of_ℤ (pos 1) → (x *ℚ i) *ℚ m ≡ x *ℚ j
    plain x b i j m e f = linear₂ (neg_ℚ ((x *ℚ i) *ℚ m)) _ _ _ _ (x *ℚ j) _ _ e f
        (ring (x ∷ b ∷ i ∷ j ∷ m ∷ []) (λ ρ p q r s t. simp (p, q, r, s, t, read_nat ρ, reads) (same_form _ _ _ refl)))

-- ---- small whole numbers

pub whole_is : (n : ℕ) (x : ℚ) → IsWhole n x → of_ℤ (lowest x).num ≡ x
whole_is n x h = of_ℤ_is (lowest x).num ∙ ratio_same (fraction_of (lowest x).num) (lowest x) (ap (λ d. (lowest x).num *ℤ d) h.whole) ∙ ratio-lowest x

pub whole_small : (n : ℕ) (x : ℚ) → 1 ≤ n → IsWhole n x → IsWithin n x
whole_small n x l h = subst (IsWithin n) (whole_is n x h) (whole_within n (lowest x).num l h.small)

pub whole_of : (n : ℕ) (z : ℤ) → unsigned_abs z < 2 ^ n → IsWhole n (of_ℤ z)
whole_of n z h = record {
  whole = ap (λ (p : Fraction). p.den) (lowest-whole z);
  small = subst (λ (p : Fraction). unsigned_abs p.num < 2 ^ n) (sym (lowest-whole z)) h;
}

pub whole_zero : IsWhole 41 (of_ℤ (pos 0))
whole_zero = whole_of 41 (pos 0) (omega arith)

pub whole_value : (n : ℕ) (f : Frac) → f.den ≡ pos 1 → unsigned_abs f.num < 2 ^ n → IsWhole n (value f)
whole_value n f e h = record {
  whole = ap (λ (p : Fraction). p.den) (lowest-value f) ∙ e;
  small = subst (λ (p : Fraction). unsigned_abs p.num < 2 ^ n) (sym (lowest-value f)) h;
}

-- ---- what fits of whole numbers

step_true : (a b c : Bool) → b ≡ true → c ≡ true → (a || b && c) ≡ true
step_true true b c e f = refl
step_true false b c e f = rw (e, f) refl

-- ---- numbers over a denominator

pub den_nonzero : (d : ℚ) → IsDen d → is_zero d ≡ false
den_nonzero d h = zero_test d (Positive_nonzero d h.positive)

den_positive : (d : ℚ) → IsDen d → pos 1 ≤ℤ (lowest d).num
den_positive d h = (let p : pos 0 <ℤ (lowest d).num = of_ℤ-<_back (pos 0) (lowest d).num (subst (λ x. of_ℤ (pos 0) <ℚ x) (sym (whole_is 41 d h.small)) h.positive) in omega (arith, ints))

pub over_within : (x d : ℚ) → IsWhole 41 x → IsDen d → IsWithin 41 (x /ℚ d)
over_within x d h k = subst (IsWithin 41) (ap₂ ◌/ℚ◌ (whole_is 41 x h) (whole_is 41 d k.small)) (ratio_within 41 (lowest x).num (lowest d).num (den_positive d k) h.small k.small.small)

pub over_fits : (x d : ℚ) → IsWhole 41 x → is_zero d ≡ false → IsWhole 41 d → quotient_fits x d ≡ true
over_fits x d h nz k = quotients_fit 41 41 x d (nonzero d nz) (whole_small 41 x (omega arith) h) (whole_small 41 d (omega arith) k) (omega arith)

pub steps_within : (f x y : ℚ) → IsWithin 41 f → IsWithin 41 x → IsWithin 41 y → step_fits f x y ≡ true
steps_within f x y h k l = step_true (is_zero x) (product_fits f x) (difference_fits y (f *ℚ x)) (products_fit 41 41 f x h k (omega arith)) (steps_fit f x y h k l)

-- the difference of a step that fits
pub stepped_fits : (f x y : ℚ) → IsWithin 41 f → IsWithin 41 x → IsWithin 41 y → fits (y -ℚ f *ℚ x) ≡ true
stepped_fits f x y h k l = sum-fits y (neg_ℚ (f *ℚ x)) (steps_fit f x y h k l)

pub part_zero : (by : ℚ) → IsPart (of_ℤ (pos 0)) by
part_zero by = record {
  fit = (quotient-zero (of_ℤ (pos 0)) by is_zero-zero).0;
  whole = subst (IsWhole 41) (sym (zero_by (of_ℤ (pos 0)) by is_zero-zero)) whole_zero;
}
