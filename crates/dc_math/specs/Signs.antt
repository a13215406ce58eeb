-- Signs of rational numbers.
use Rattle.std.specs.Prelude.{◌≡◌, ℕ, ℤ, pos, negsuc, ◌≤ℤ◌, [], ◌∷◌}
use Rattle.std.proofs.Common.{refl, sym, ap, ◌∙◌, arith, subst, ⊎_elim}
use Rattle.std.proofs.lemmas.Int.{ints}
use Rattle.dc_math.specs.Rational.{ℚ, ◌*ℚ◌, neg_ℚ, of_ℤ, of_ℤ_is, fraction_of, ratio_at_most, at_most_ratio, ◌≤ℚ◌, ◌<ℚ◌, <ℚ-not, ≤ℚ_refl, ≤ℚ_total, ≤ℚ-sub, NonNegative, NonNegative-*ℚ, one-*ℚ, neg_ℚ_is, *ℚ_comm, ≤ℚ_or}
use Rattle.dc_math.specs.RationalRing.{ring, reads, read_nat, same_form}

pub of_ℤ-≤ : (m n : ℤ) → m ≤ℤ n → of_ℤ m ≤ℚ of_ℤ n
of_ℤ-≤ m n h = rw (of_ℤ_is m, of_ℤ_is n) (ratio_at_most (fraction_of m) (fraction_of n) (omega (arith, ints)))

pub of_ℤ-≤_back : (m n : ℤ) → of_ℤ m ≤ℚ of_ℤ n → m ≤ℤ n
of_ℤ-≤_back m n h =
    let k = at_most_ratio (fraction_of m) (fraction_of n) (rw (of_ℤ_is m, of_ℤ_is n) at h) in
    omega (arith, ints)

pub one_non_negative : NonNegative (of_ℤ (pos 1))
one_non_negative = of_ℤ-≤ (pos 0) (pos 1) (omega (arith, ints))

pub zero_non_negative : NonNegative (of_ℤ (pos 0))
zero_non_negative = ≤ℚ_refl (of_ℤ (pos 0))

pub minus_one : of_ℤ (negsuc 0) ≡ neg_ℚ (of_ℤ (pos 1))
minus_one = sym (neg_ℚ_is (of_ℤ (pos 1)) ∙ *ℚ_comm (of_ℤ (negsuc 0)) (of_ℤ (pos 1)) ∙ one-*ℚ (of_ℤ (negsuc 0)))

pub NonNegative_same : (x y : ℚ) → x ≡ y → NonNegative x → NonNegative y
NonNegative_same x y e h = subst NonNegative e h

pub square_non_negative : (x : ℚ) → NonNegative (x *ℚ x)
square_non_negative x = ⊎_elim (λ h. NonNegative-*ℚ x x h h)
    (λ h. let k = ≤ℚ-sub x (of_ℤ (pos 0)) h in
    NonNegative_same _ _ (ring (x ∷ []) (λ ρ p. simp (p, read_nat ρ, reads) (same_form _ _ _ refl))) (NonNegative-*ℚ _ _ k k))
    (≤ℚ_total (of_ℤ (pos 0)) x)

pub inverse_non_negative : (k i : ℚ) → NonNegative k → k *ℚ i ≡ of_ℤ (pos 1) → NonNegative i
inverse_non_negative k i h e =
    NonNegative_same (k *ℚ (i *ℚ i)) i
    (ring (k ∷ i ∷ []) (λ ρ p q. simp (p, q, reads) (same_form _ _ _ refl)) ∙ ap (λ z. z *ℚ i) e ∙ one-*ℚ i)
    (NonNegative-*ℚ k (i *ℚ i) h (square_non_negative i))

pub negated_positive : (k : ℚ) → k <ℚ of_ℤ (pos 0) → of_ℤ (pos 0) <ℚ neg_ℚ k
negated_positive k h = ⊎_elim
    (λ n. absurd (<ℚ-not k (of_ℤ (pos 0)) h (NonNegative_same _ _ (ring (k ∷ []) (λ ρ p. simp (p, read_nat ρ, reads) (same_form _ _ _ refl))) (≤ℚ-sub (neg_ℚ k) (of_ℤ (pos 0)) n))))
    (λ m. m)
    (≤ℚ_or (neg_ℚ k) (of_ℤ (pos 0)))

pub nat_non_negative : (n : ℕ) → NonNegative (of_ℤ (pos n))
nat_non_negative n = of_ℤ-≤ (pos 0) (pos n) (omega (arith, ints))
