-- The inverse of a rational number, which for 0 is 0, and quotients.
use Rattle.std.specs.Prelude.{◌≡◌, ℕ, zero, suc, ℤ, pos, negsuc, neg_ℤ, ◌*ℤ◌, ◌≤ℤ◌, [], ◌∷◌}
use Rattle.std.proofs.Common.{refl, sym, ◌∙◌, ap, arith}
use Rattle.std.proofs.lemmas.Int.{ints}
use mathlib.Core.HLevel.{Σ_prop_path}
use Rattle.dc_math.specs.Rational.{ℚ, fraction_of, ratio, ratio_same, ratio-mul, ℚ_set, ℚ_ind, ℚ_discrete, ◌*ℚ◌, of_ℤ, of_ℤ_is, one-*ℚ}
use Rattle.dc_math.specs.RationalRing.{ring, reads, same_form}

abbrev HasInverse : ℚ → Type 0
HasInverse x = (y : ℚ) × (x *ℚ y ≡ of_ℤ (pos 1))

pub inverse_unique : (x y z : ℚ) → x *ℚ y ≡ of_ℤ (pos 1) → x *ℚ z ≡ of_ℤ (pos 1) → y ≡ z
inverse_unique x y z e f =
    sym (one-*ℚ y) ∙ ap (λ w. w *ℚ y) (sym f)
    ∙ ring (x ∷ y ∷ z ∷ []) (λ ρ p q r. simp (p, q, r, reads) (same_form _ _ _ refl))
    ∙ ap (λ w. w *ℚ z) e ∙ one-*ℚ z

HasInverse-prop : (x : ℚ) → IsProp (HasInverse x)
HasInverse-prop x (y, e) (z, f) = Σ_prop_path (λ w. ℚ_set _ _) (inverse_unique x y z e f)

has_inverse : (n d : ℤ) (h : pos 1 ≤ℤ d) → ¬ (ratio (record { num = n; den = d; den_positive = h }) ≡ of_ℤ (pos 0)) → HasInverse (ratio (record { num = n; den = d; den_positive = h }))
has_inverse (pos zero) d h nz = absurd (nz (ratio_same _ (fraction_of (pos 0)) (omega (arith, ints)) ∙ sym (of_ℤ_is (pos 0))))
has_inverse (pos (suc n)) d h nz = (ratio (record { num = d; den = pos (suc n); den_positive = omega (arith, ints) }), ratio-mul _ _ ∙ ratio_same _ (fraction_of (pos 1)) (omega (arith, ints)) ∙ sym (of_ℤ_is (pos 1)))
has_inverse (negsuc n) d h nz = (ratio (record { num = neg_ℤ d; den = pos (suc n); den_positive = omega (arith, ints) }), ratio-mul _ _ ∙ ratio_same _ (fraction_of (pos 1)) (crossed n d) ∙ sym (of_ℤ_is (pos 1)))
  where
    crossed : (n : ℕ) (d : ℤ) → negsuc n *ℤ neg_ℤ d *ℤ pos 1 ≡ pos 1 *ℤ (d *ℤ pos (suc n))
    crossed n (pos zero) = omega (arith, ints)
    crossed n (pos (suc k)) = omega (arith, ints)
    crossed n (negsuc k) = omega (arith, ints)

inverse_when : (x : ℚ) → ¬ (x ≡ of_ℤ (pos 0)) → HasInverse x
inverse_when = ℚ_ind (λ x. ¬ (x ≡ of_ℤ (pos 0)) → HasInverse x) (λ x. hlevel HasInverse-prop) (λ p. has_inverse p.num p.den p.den_positive)

pub inverse : ℚ → ℚ
inverse x = by (ℚ_discrete x (of_ℤ (pos 0)))
  where
    by : Dec (x ≡ of_ℤ (pos 0)) → ℚ
    by (yes e) = of_ℤ (pos 0)
    by (no n) = (inverse_when x n).0

pub *ℚ-inverse : (x : ℚ) → ¬ (x ≡ of_ℤ (pos 0)) → x *ℚ inverse x ≡ of_ℤ (pos 1)
unfolding inverse
*ℚ-inverse x n = by (ℚ_discrete x (of_ℤ (pos 0))) refl
  where
    by : (d : Dec (x ≡ of_ℤ (pos 0))) → ℚ_discrete x (of_ℤ (pos 0)) ≡ d → x *ℚ inverse x ≡ of_ℤ (pos 1)
    by (yes e) q = absurd (n e)
    by (no m) q = rw q (inverse_when x m).1

infixl 7 ◌/ℚ◌
abbrev pub ◌/ℚ◌ : ℚ → ℚ → ℚ
x /ℚ y = x *ℚ inverse y
