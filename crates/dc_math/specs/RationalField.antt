-- The rational numbers as an ordered field, so that what is shown for any such field holds of them.
use Rattle.std.specs.Prelude.{◌≡◌, pos, [], ◌∷◌}
use Rattle.std.proofs.Common.{refl, sym, subst}
use Rattle.dc_math.specs.Rational.{ℚ, ◌+ℚ◌, ◌*ℚ◌, neg_ℚ, of_ℤ, le_ℚ, ◌≤ℚ◌, <ℚ-≤ℚ, ≤ℚ_antisymm, ≤ℚ-sub, sub-≤ℚ, NonNegative, NonNegative-+ℚ, NonNegative-*ℚ, +ℚ_assoc, +ℚ_comm, *ℚ_assoc, *ℚ_comm, *ℚ-+ℚ, zero-+ℚ, +ℚ-zero, *ℚ-one}
use Rattle.dc_math.specs.RationalRing.{ring, reads, read_nat, same_form}
use Rattle.dc_math.specs.Inverse.{inverse, *ℚ-inverse}
use Rattle.dc_math.specs.Order.{one_nonzero}
use Rattle.dc_math.specs.Tests.{le_ℚ-true, le_ℚ_true, le_ℚ_false, le_ℚ-sub}
use Rattle.dc_math.specs.Field.{Field}

pub +ℚ-neg_ℚ : (x : ℚ) → x +ℚ neg_ℚ x ≡ of_ℤ (pos 0)
+ℚ-neg_ℚ x = ring (x ∷ []) (λ ρ p. simp (p, read_nat ρ, reads) (same_form _ _ _ refl))

-- the negation of a number that is at most 0 is at least 0, and back
pub NonNegative-neg_ℚ : (x : ℚ) → x ≤ℚ of_ℤ (pos 0) → NonNegative (neg_ℚ x)
NonNegative-neg_ℚ x h = subst NonNegative (zero-+ℚ (neg_ℚ x)) (≤ℚ-sub x (of_ℤ (pos 0)) h)

pub neg_ℚ-NonNegative : (x : ℚ) → NonNegative (neg_ℚ x) → x ≤ℚ of_ℤ (pos 0)
neg_ℚ-NonNegative x h = sub-≤ℚ x (of_ℤ (pos 0)) (subst NonNegative (sym (zero-+ℚ (neg_ℚ x))) h)

abbrev pub rationals : Field ℚ
rationals = record {
  zero_q = of_ℤ (pos 0);
  one = of_ℤ (pos 1);
  add = ◌+ℚ◌;
  mul = ◌*ℚ◌;
  neg = neg_ℚ;
  inverse = inverse;
  add_comm = +ℚ_comm;
  add_assoc = +ℚ_assoc;
  add_zero = +ℚ-zero;
  add_neg = +ℚ-neg_ℚ;
  mul_comm = *ℚ_comm;
  mul_assoc = *ℚ_assoc;
  mul_one = *ℚ-one;
  mul_add = *ℚ-+ℚ;
  mul_inverse = *ℚ-inverse;
  nontrivial = one_nonzero;
  at_most = le_ℚ;
  at_most_sub = le_ℚ-sub;
  nonneg_add = λ x y e f. le_ℚ-true _ _ (NonNegative-+ℚ x y (le_ℚ_true _ _ e) (le_ℚ_true _ _ f));
  nonneg_mul = λ x y e f. le_ℚ-true _ _ (NonNegative-*ℚ x y (le_ℚ_true _ _ e) (le_ℚ_true _ _ f));
  nonneg_neg = λ x e. le_ℚ-true _ _ (NonNegative-neg_ℚ x (<ℚ-≤ℚ _ _ (le_ℚ_false _ _ e)));
  nonneg_both = λ x e f. sym (≤ℚ_antisymm _ _ (le_ℚ_true _ _ e) (neg_ℚ-NonNegative x (le_ℚ_true _ _ f)));
}
