-- Laws of the strict order of ℚ, of numbers above 0, and of factors that can be left out.
use Rattle.std.specs.Prelude.{◌≡◌, ◌≢◌, ◌⊎◌, ℤ, pos, neg_ℤ, ◌*ℤ◌, ◌≤ℤ◌, ◌<ℤ◌, [], ◌∷◌}
use Rattle.std.proofs.Common.{refl, sym, ap, ◌∙◌, arith, subst, subst₂, ⊎_elim}
use Rattle.std.proofs.lemmas.Int.{ints}
use Rattle.dc_math.specs.Integers.{≤ℤ_or, *ℤ_assoc}
use Rattle.dc_math.specs.Rational.{ℚ, Fraction, fraction_of, ratio, ratio_same, ratio_at_most, at_most_ratio, ratio-mul, ratio-neg, of_ℤ_is, ◌+ℚ◌, ◌*ℚ◌, ◌-ℚ◌, neg_ℚ, of_ℤ, ◌≤ℚ◌, ◌<ℚ◌, <ℚ-≤ℚ, <ℚ-not, ≤ℚ_refl, ≤ℚ_antisymm, ≤ℚ_or, ≤ℚ-sub, NonNegative, NonNegative-*ℚ, *ℚ-zero, zero-+ℚ}
use Rattle.dc_math.specs.RationalRing.{ring, reads, read_nat, same_form, linear₁, linear₂, ≤ℚ_trans, *ℚ-≤ℚ}
use Rattle.dc_math.specs.Inverse.{inverse, inverse_unique, *ℚ-inverse}
use Rattle.dc_math.specs.Signs.{of_ℤ-≤, of_ℤ-≤_back, inverse_non_negative}
use Rattle.dc_math.specs.Linear.{from₁, follows, times}

-- ---- strict order
pub not-<ℚ : (x y : ℚ) → ¬ (y ≤ℚ x) → x <ℚ y
not-<ℚ x y n = ⊎_elim (λ h. absurd (n h)) (λ h. h) (≤ℚ_or y x)

pub <ℚ_irrefl : (x : ℚ) → ¬ (x <ℚ x)
<ℚ_irrefl x h = <ℚ-not x x h (≤ℚ_refl x)

pub ≤ℚ-<ℚ_trans : (x y z : ℚ) → x ≤ℚ y → y <ℚ z → x <ℚ z
≤ℚ-<ℚ_trans x y z h k = not-<ℚ x z (λ l. <ℚ-not y z k (≤ℚ_trans z x y l h))

pub <ℚ_nonequal : (x y : ℚ) → x <ℚ y → x ≢ y
<ℚ_nonequal x y h e = <ℚ-not x y h (subst (λ z. z ≤ℚ x) e (≤ℚ_refl x))

pub ≤ℚ_same : (x y : ℚ) → x ≡ y → x ≤ℚ y
≤ℚ_same x y e = subst (λ z. x ≤ℚ z) e (≤ℚ_refl x)

pub of_ℤ-< : (m n : ℤ) → m <ℤ n → of_ℤ m <ℚ of_ℤ n
of_ℤ-< m n h = not-<ℚ (of_ℤ m) (of_ℤ n) (λ l. by m n h (of_ℤ-≤_back n m l))
  where
    by : (m n : ℤ) → m <ℤ n → n ≤ℤ m → ⊥
    by m n h k = absurd (omega (arith, ints))

pub of_ℤ-<_back : (m n : ℤ) → of_ℤ m <ℚ of_ℤ n → m <ℤ n
of_ℤ-<_back m n h = ⊎_elim (λ l. absurd (<ℚ-not (of_ℤ m) (of_ℤ n) h (of_ℤ-≤ n m l))) (λ l. l) (by m n)
  where
    by : (m n : ℤ) → (n ≤ℤ m) ⊎ (m <ℤ n)
    by m n = ≤ℤ_or n m

pub of_ℤ_injective : (m n : ℤ) → of_ℤ m ≡ of_ℤ n → m ≡ n
of_ℤ_injective m n e =
    let h = of_ℤ-≤_back m n (≤ℚ_same (of_ℤ m) (of_ℤ n) e) in
    let k = of_ℤ-≤_back n m (≤ℚ_same (of_ℤ n) (of_ℤ m) (sym e)) in
    omega (arith, ints)

-- ---- above 0
abbrev pub Positive : ℚ → Type 0
Positive x = of_ℤ (pos 0) <ℚ x

pub Positive_nonzero : (x : ℚ) → Positive x → x ≢ of_ℤ (pos 0)
Positive_nonzero x h e = <ℚ_nonequal (of_ℤ (pos 0)) x h (sym e)

pub one_positive : Positive (of_ℤ (pos 1))
one_positive = of_ℤ-< (pos 0) (pos 1) (omega (arith, ints))

pub one_nonzero : of_ℤ (pos 1) ≢ of_ℤ (pos 0)
one_nonzero = Positive_nonzero (of_ℤ (pos 1)) one_positive

pub NonNegative_positive : (x : ℚ) → NonNegative x → x ≢ of_ℤ (pos 0) → Positive x
NonNegative_positive x h n = not-<ℚ (of_ℤ (pos 0)) x (λ l. n (≤ℚ_antisymm x (of_ℤ (pos 0)) l h))

-- a product is 0 only where a factor is
pub *ℚ_zero : (x y : ℚ) → x *ℚ y ≡ of_ℤ (pos 0) → x ≢ of_ℤ (pos 0) → y ≡ of_ℤ (pos 0)
*ℚ_zero x y e n = linear₂ (inverse x) _ _ _ _ (neg_ℚ y) _ _ e (*ℚ-inverse x n)
    (ring (x ∷ y ∷ inverse x ∷ []) (λ ρ p q r. simp r (simp (p, q, read_nat ρ, reads) (same_form _ _ _ refl))))

pub Positive-*ℚ : (x y : ℚ) → Positive x → Positive y → Positive (x *ℚ y)
Positive-*ℚ x y h k = NonNegative_positive (x *ℚ y) (NonNegative-*ℚ x y (<ℚ-≤ℚ _ _ h) (<ℚ-≤ℚ _ _ k))
    (λ e. Positive_nonzero y k (*ℚ_zero x y e (Positive_nonzero x h)))

-- of a number above 0
*ℚ-inverse_positive : (x : ℚ) → Positive x → x *ℚ inverse x ≡ of_ℤ (pos 1)
*ℚ-inverse_positive x h = *ℚ-inverse x (Positive_nonzero x h)

inverse_at_least : (x : ℚ) → Positive x → NonNegative (inverse x)
inverse_at_least x h = inverse_non_negative x (inverse x) (<ℚ-≤ℚ _ _ h) (*ℚ-inverse_positive x h)

pub inverse_positive : (x : ℚ) → Positive x → Positive (inverse x)
inverse_positive x h = NonNegative_positive (inverse x) (inverse_at_least x h)
    (λ e. one_nonzero (sym (*ℚ-inverse_positive x h) ∙ ap (λ i. x *ℚ i) e ∙ *ℚ-zero x))

pub <ℚ-sub : (x y : ℚ) → x <ℚ y → Positive (y -ℚ x)
<ℚ-sub x y h = NonNegative_positive (y -ℚ x) (≤ℚ-sub x y (<ℚ-≤ℚ x y h))
    (λ e. <ℚ_nonequal x y h (sym (linear₁ (of_ℤ (pos 1)) _ _ _ _ e (ring (x ∷ y ∷ []) (λ ρ p q. simp (p, q, read_nat ρ, reads) (same_form _ _ _ refl))))))

-- y is x and what is above 0
pub <ℚ_by : (x y s : ℚ) → Positive s → y ≡ x +ℚ s → x <ℚ y
<ℚ_by x y s h e = not-<ℚ x y (λ l. <ℚ-not _ _ h (from₁ (subst (λ z. z ≤ℚ x) e l)
    (ring (x ∷ s ∷ []) (λ ρ p q. simp (p, q, read_nat ρ, reads) (follows _ (times 1 _ _ ∷ []) _ _ refl)))))

-- a factor above 0 is left out
pub ≤ℚ-*ℚ_cancel : (x y z : ℚ) → (x *ℚ z) ≤ℚ (y *ℚ z) → Positive z → x ≤ℚ y
≤ℚ-*ℚ_cancel x y z h k =
    subst₂ (λ a b. a ≤ℚ b) (out x z (inverse z) (*ℚ-inverse_positive z k)) (out y z (inverse z) (*ℚ-inverse_positive z k))
    (*ℚ-≤ℚ (x *ℚ z) (y *ℚ z) (inverse z) h (inverse_at_least z k))
  where
    out : (x z i : ℚ) → z *ℚ i ≡ of_ℤ (pos 1) → (x *ℚ z) *ℚ i ≡ x
    out x z i e = linear₁ x _ _ _ _ e (ring (x ∷ z ∷ i ∷ []) (λ ρ p q r. simp (p, q, r, read_nat ρ, reads) (same_form _ _ _ refl)))

-- ---- a fraction is a quotient of whole numbers
pub ratio-*ℚ-den : (p : Fraction) → ratio p *ℚ of_ℤ p.den ≡ of_ℤ p.num
ratio-*ℚ-den p = rw (of_ℤ_is p.den, of_ℤ_is p.num) (ratio-mul p (fraction_of p.den) ∙ ratio_same _ (fraction_of p.num) (*ℤ_assoc p.num p.den (pos 1)))

pub ratio_quotient : (p : Fraction) → ratio p ≡ of_ℤ p.num *ℚ inverse (of_ℤ p.den)
ratio_quotient p =
    let n = Positive_nonzero (of_ℤ p.den) (of_ℤ-< (pos 0) p.den (let h = p.den_positive in omega (arith, ints))) in
    plain (ratio p) (of_ℤ p.num) (of_ℤ p.den) (inverse (of_ℤ p.den)) (ratio-*ℚ-den p) (*ℚ-inverse (of_ℤ p.den) n)
  where
    plain : (x n d i : ℚ) → x *ℚ d ≡ n → d *ℚ i ≡ of_ℤ (pos 1) → x ≡ n *ℚ i
    plain x n d i h e = linear₂ i _ _ _ _ (neg_ℚ x) _ _ h e (ring (x ∷ n ∷ d ∷ i ∷ []) (λ ρ p q r s. simp (p, q, r, s, read_nat ρ, reads) (same_form _ _ _ refl)))

pub of_ℤ-neg_ℤ : (z : ℤ) → of_ℤ (neg_ℤ z) ≡ neg_ℚ (of_ℤ z)
of_ℤ-neg_ℤ z = rw (of_ℤ_is (neg_ℤ z), of_ℤ_is z) (sym (ratio-neg (fraction_of z) ∙ ratio_same _ _ refl))

pub *ℚ-neg_ℚ : (x y : ℚ) → x *ℚ neg_ℚ y ≡ neg_ℚ (x *ℚ y)
*ℚ-neg_ℚ x y = ring (x ∷ y ∷ []) (λ ρ p q. simp (p, q, reads) (same_form _ _ _ refl))

pub zero-minus : (x : ℚ) → of_ℤ (pos 0) -ℚ x ≡ neg_ℚ x
zero-minus x = zero-+ℚ (neg_ℚ x)

pub inverse-neg_ℚ : (x : ℚ) → x ≢ of_ℤ (pos 0) → inverse (neg_ℚ x) ≡ neg_ℚ (inverse x)
inverse-neg_ℚ x n = sym (inverse_unique (neg_ℚ x) (neg_ℚ (inverse x)) (inverse (neg_ℚ x)) (both x (inverse x) (*ℚ-inverse x n)) (*ℚ-inverse (neg_ℚ x) (λ e. n (back x e))))
  where
    both : (x i : ℚ) → x *ℚ i ≡ of_ℤ (pos 1) → neg_ℚ x *ℚ neg_ℚ i ≡ of_ℤ (pos 1)
    both x i e = linear₁ (of_ℤ (pos 1)) _ _ _ _ e (ring (x ∷ i ∷ []) (λ ρ p q. simp (p, q, read_nat ρ, reads) (same_form _ _ _ refl)))

    back : (x : ℚ) → neg_ℚ x ≡ of_ℤ (pos 0) → x ≡ of_ℤ (pos 0)
    back x e = linear₁ (neg_ℚ (of_ℤ (pos 1))) _ _ _ _ e (ring (x ∷ []) (λ ρ p. simp (p, read_nat ρ, reads) (same_form _ _ _ refl)))

-- ---- the strict order of fractions
pub ratio_below : (p q : Fraction) → (p.num *ℤ q.den) <ℤ (q.num *ℤ p.den) → ratio p <ℚ ratio q
ratio_below p q h = not-<ℚ (ratio p) (ratio q) (λ l. no (p.num *ℤ q.den) (q.num *ℤ p.den) h (at_most_ratio q p l))
  where
    no : (x y : ℤ) → x <ℤ y → y ≤ℤ x → ⊥
    no x y h k = absurd (omega (arith, ints))

pub below_ratio : (p q : Fraction) → ratio p <ℚ ratio q → (p.num *ℤ q.den) <ℤ (q.num *ℤ p.den)
below_ratio p q h = ⊎_elim (λ l. absurd (<ℚ-not (ratio p) (ratio q) h (ratio_at_most q p l))) (λ l. l) (≤ℤ_or (q.num *ℤ p.den) (p.num *ℤ q.den))
