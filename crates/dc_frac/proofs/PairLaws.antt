-- The laws of pairs, by those of the numbers that they stand for.
use Rattle.std.specs.Prelude.{◌≡◌, pos, unsigned_abs}
use Rattle.std.proofs.Common.{refl, sym, ◌∙◌, ap, ap₂, subst₂, inl, inr, ⊎_elim}
use Rattle.dc_math.specs.Rational.{ratio, ratio_same, same_ratio, ratio_at_most, at_most_ratio, ratio-add, ratio-mul, ratio-neg, of_ℤ, of_ℤ_is, fraction_of, ◌≤ℚ◌, ◌+ℚ◌, ◌*ℚ◌, +ℚ_comm, +ℚ_assoc, *ℚ_comm, *ℚ_assoc, *ℚ-+ℚ, ≤ℚ_refl, ≤ℚ_antisymm, ≤ℚ_total, +ℚ-zero, *ℚ-one, non_negative_num}
use Rattle.dc_math.specs.RationalRing.{≤ℚ_trans, +ℚ-≤ℚ, *ℚ-≤ℚ}
use Rattle.dc_math.specs.RationalField.{+ℚ-neg_ℚ}
use Rattle.dc_math.specs.Lowest.{ratio-lowest, lowest_reduced, lowest-of_reduced}
use Rattle.dc_math.specs.Floor.{floor-≤ℚ, <ℚ-floor}
use Rattle.dc_math.specs.Gcd.{gcd_is}
use Rattle.dc_frac.proofs.ValueLaws.{lowest-value}
use Rattle.dc_frac.specs.Laws.{Equality, Sums, Products, Order, Numbers, LowestTerms, Floors, CommonDivisors}

zero_is : ratio (fraction_of (pos 0)) ≡ of_ℤ (pos 0)
zero_is = sym (of_ℤ_is (pos 0))

one_is : ratio (fraction_of (pos 1)) ≡ of_ℤ (pos 1)
one_is = sym (of_ℤ_is (pos 1))

pub equality : Equality
equality = record {
  same_refl = λ p. refl;
  same_sym = λ p q h. sym h;
  same_trans = λ p q r h k. same_ratio p r (ratio_same p q h ∙ ratio_same q r k);
  add_same = λ p p' q q' h k. same_ratio _ _ (sym (ratio-add p q) ∙ ap₂ ◌+ℚ◌ (ratio_same p p' h) (ratio_same q q' k) ∙ ratio-add p' q');
  mul_same = λ p p' q q' h k. same_ratio _ _ (sym (ratio-mul p q) ∙ ap₂ ◌*ℚ◌ (ratio_same p p' h) (ratio_same q q' k) ∙ ratio-mul p' q');
  at_most_same = λ p p' q q' h k l. at_most_ratio p' q' (subst₂ (λ x y. x ≤ℚ y) (ratio_same p p' h) (ratio_same q q' k) (ratio_at_most p q l));
}

pub sums : Sums
sums = record {
  add_comm = λ p q. same_ratio _ _ (sym (ratio-add p q) ∙ +ℚ_comm (ratio p) (ratio q) ∙ ratio-add q p);
  add_assoc = λ p q r. same_ratio _ _ (sym (ratio-add _ r) ∙ ap (λ x. x +ℚ ratio r) (sym (ratio-add p q)) ∙ +ℚ_assoc (ratio p) (ratio q) (ratio r) ∙ ap (λ x. ratio p +ℚ x) (ratio-add q r) ∙ ratio-add p _);
  add_zero = λ p. same_ratio _ _ (sym (ratio-add p (fraction_of (pos 0))) ∙ ap (λ x. ratio p +ℚ x) zero_is ∙ +ℚ-zero (ratio p));
  add_neg = λ p. same_ratio _ (fraction_of (pos 0)) (sym (ratio-add p _) ∙ ap (λ x. ratio p +ℚ x) (sym (ratio-neg p)) ∙ +ℚ-neg_ℚ (ratio p) ∙ of_ℤ_is (pos 0));
}

pub products : Products
products = record {
  mul_comm = λ p q. same_ratio _ _ (sym (ratio-mul p q) ∙ *ℚ_comm (ratio p) (ratio q) ∙ ratio-mul q p);
  mul_assoc = λ p q r. same_ratio _ _ (sym (ratio-mul _ r) ∙ ap (λ x. x *ℚ ratio r) (sym (ratio-mul p q)) ∙ *ℚ_assoc (ratio p) (ratio q) (ratio r) ∙ ap (λ x. ratio p *ℚ x) (ratio-mul q r) ∙ ratio-mul p _);
  mul_one = λ p. same_ratio _ _ (sym (ratio-mul p (fraction_of (pos 1))) ∙ ap (λ x. ratio p *ℚ x) one_is ∙ *ℚ-one (ratio p));
  mul_add = λ p q r. same_ratio _ _ (sym (ratio-mul p _) ∙ ap (λ x. ratio p *ℚ x) (sym (ratio-add q r)) ∙ *ℚ-+ℚ (ratio p) (ratio q) (ratio r) ∙ ap₂ ◌+ℚ◌ (ratio-mul p q) (ratio-mul p r) ∙ ratio-add _ _);
}

pub order : Order
order = record {
  at_most_refl = λ p. at_most_ratio p p (≤ℚ_refl (ratio p));
  at_most_trans = λ p q r h k. at_most_ratio p r (≤ℚ_trans _ _ _ (ratio_at_most p q h) (ratio_at_most q r k));
  at_most_antisymm = λ p q h k. same_ratio p q (≤ℚ_antisymm _ _ (ratio_at_most p q h) (ratio_at_most q p k));
  at_most_total = λ p q. ⊎_elim (λ h. inl (at_most_ratio p q h)) (λ h. inr (at_most_ratio q p h)) (≤ℚ_total (ratio p) (ratio q));
  add_at_most = λ p p' q q' h k. at_most_ratio _ _ (subst₂ (λ x y. x ≤ℚ y) (ratio-add p q) (ratio-add p' q') (+ℚ-≤ℚ _ _ _ _ (ratio_at_most p p' h) (ratio_at_most q q' k)));
  mul_at_most = λ p q r h k. at_most_ratio _ _ (subst₂ (λ x y. x ≤ℚ y) (ratio-mul p r) (ratio-mul q r) (*ℚ-≤ℚ _ _ _ (ratio_at_most p q h) (non_negative_num r k)));
}

pub numbers : Numbers
numbers = record {
  same_ratio = same_ratio;
  ratio_same = ratio_same;
  ratio_add = ratio-add;
  ratio_mul = ratio-mul;
  at_most_ratio = at_most_ratio;
  ratio_at_most = ratio_at_most;
}

pub lowest_terms : LowestTerms
lowest_terms = record { ratio_lowest = ratio-lowest; lowest_reduced = lowest_reduced; lowest_unique = lowest-of_reduced; lowest_value = lowest-value }

pub floors : Floors
floors = record { floor_low = floor-≤ℚ; floor_high = <ℚ-floor }

pub common_divisors : CommonDivisors
common_divisors a b = gcd_is (unsigned_abs a) (unsigned_abs b)
