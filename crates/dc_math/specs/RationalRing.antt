-- `ring` over the rational numbers, and what follows from it for the order.
use Rattle.std.specs.Prelude.{◌≡◌, ℕ, pos, List, [], ◌∷◌}
use Rattle.std.proofs.Common.{refl, sym, ◌∙◌, ap, subst}
use Rattle.dc_math.specs.Ring.{Expr, var, nat, ◌⊕◌, ◌⊗◌, ⊖◌, ◌⊝◌, normal, value, same_normal, Named, by_names}
use Rattle.dc_math.specs.Rational.{ℚ, ◌+ℚ◌, ◌*ℚ◌, ◌-ℚ◌, neg_ℚ, of_ℤ, ◌≤ℚ◌, rational, NonNegative, NonNegative-+ℚ, NonNegative-*ℚ, ≤ℚ-sub, sub-≤ℚ}

pub value_ℚ : List ℚ → Expr → ℚ
value_ℚ ρ e = value rational ρ e

pub read_add : (ρ : List ℚ) (e f : Expr) → value_ℚ ρ e +ℚ value_ℚ ρ f ≡ value_ℚ ρ (e ⊕ f)
unfolding value_ℚ
read_add ρ e f = refl

pub read_mul : (ρ : List ℚ) (e f : Expr) → value_ℚ ρ e *ℚ value_ℚ ρ f ≡ value_ℚ ρ (e ⊗ f)
unfolding value_ℚ
read_mul ρ e f = refl

pub read_neg : (ρ : List ℚ) (e : Expr) → neg_ℚ (value_ℚ ρ e) ≡ value_ℚ ρ (⊖ e)
unfolding value_ℚ
read_neg ρ e = refl

pub read_sub : (ρ : List ℚ) (e f : Expr) → value_ℚ ρ e -ℚ value_ℚ ρ f ≡ value_ℚ ρ (e ⊝ f)
unfolding value_ℚ
read_sub ρ e f = refl

-- where there are numerals `read_nat ρ` is listed beside `reads`
pub read_nat : (ρ : List ℚ) (n : ℕ) → of_ℤ (pos n) ≡ value_ℚ ρ (nat n)
unfolding value_ℚ
read_nat ρ n = refl

pub ruleset reads = (read_add, read_mul, read_neg)

-- `ring (a ∷ b ∷ []) (λ ρ p q. simp (p, q, reads) (same_form _ _ _ refl))`
pub ring : {P : Type 0} (ρ : List ℚ) → ((ρ' : List ℚ) → Named (λ i. value_ℚ ρ' (var i)) 0 ρ P) → P
unfolding value_ℚ
ring ρ k = by_names rational ρ (k ρ)

pub same_form : (ρ : List ℚ) (e f : Expr) → normal e ≡ normal f → value_ℚ ρ e ≡ value_ℚ ρ f
unfolding value_ℚ
same_form ρ e f h = same_normal rational ρ e f h

-- ---- equations from equations
pub cancel_right : (x y z : ℚ) → x +ℚ z ≡ y +ℚ z → x ≡ y
cancel_right x y z e =
    let a : x ≡ (x +ℚ z) -ℚ z = ring (x ∷ z ∷ []) (λ ρ p q. simp (p, q, reads) (same_form _ _ _ refl)) in
    let b : (y +ℚ z) -ℚ z ≡ y = ring (y ∷ z ∷ []) (λ ρ p q. simp (p, q, reads) (same_form _ _ _ refl)) in
    a ∙ ap (λ w. w -ℚ z) e ∙ b

-- l - r is a - b times c
pub linear₁ : (c l r a b : ℚ) → a ≡ b → l +ℚ b *ℚ c ≡ r +ℚ a *ℚ c → l ≡ r
linear₁ c l r a b h e = cancel_right l r (b *ℚ c) (e ∙ ap (λ w. r +ℚ w *ℚ c) h)

pub linear₂ : (c l r a b c' a' b' : ℚ) → a ≡ b → a' ≡ b' → l +ℚ (b *ℚ c +ℚ b' *ℚ c') ≡ r +ℚ (a *ℚ c +ℚ a' *ℚ c') → l ≡ r
linear₂ c l r a b c' a' b' h h' e = cancel_right l r (b *ℚ c +ℚ b' *ℚ c') (e ∙ ap (λ w. r +ℚ (w *ℚ c +ℚ a' *ℚ c')) h ∙ ap (λ w. r +ℚ (b *ℚ c +ℚ w *ℚ c')) h')

-- ---- order
-- y is x and what is not negative
pub ≤ℚ_by : (x y s : ℚ) → NonNegative s → y ≡ x +ℚ s → x ≤ℚ y
≤ℚ_by x y s h e = sub-≤ℚ x y (subst NonNegative (a ∙ ap (λ w. w -ℚ x) (sym e)) h)
  where
    a : s ≡ (x +ℚ s) -ℚ x
    a = ring (x ∷ s ∷ []) (λ ρ p q. simp (p, q, reads) (same_form _ _ _ refl))

pub ≤ℚ_trans : (x y z : ℚ) → x ≤ℚ y → y ≤ℚ z → x ≤ℚ z
≤ℚ_trans x y z h k = ≤ℚ_by x z _ (NonNegative-+ℚ _ _ (≤ℚ-sub x y h) (≤ℚ-sub y z k))
    (ring (x ∷ y ∷ z ∷ []) (λ ρ p q r. simp (p, q, r, reads) (same_form _ _ _ refl)))

pub +ℚ-≤ℚ : (x x' y y' : ℚ) → x ≤ℚ x' → y ≤ℚ y' → (x +ℚ y) ≤ℚ (x' +ℚ y')
+ℚ-≤ℚ x x' y y' h k = ≤ℚ_by _ _ _ (NonNegative-+ℚ _ _ (≤ℚ-sub x x' h) (≤ℚ-sub y y' k))
    (ring (x ∷ x' ∷ y ∷ y' ∷ []) (λ ρ p p' q q'. simp (p, p', q, q', reads) (same_form _ _ _ refl)))

pub *ℚ-≤ℚ : (x y z : ℚ) → x ≤ℚ y → NonNegative z → (x *ℚ z) ≤ℚ (y *ℚ z)
*ℚ-≤ℚ x y z h k = ≤ℚ_by _ _ _ (NonNegative-*ℚ _ _ (≤ℚ-sub x y h) k)
    (ring (x ∷ y ∷ z ∷ []) (λ ρ p q r. simp (p, q, r, reads) (same_form _ _ _ refl)))

pub neg_ℚ-≤ℚ : (x y : ℚ) → x ≤ℚ y → neg_ℚ y ≤ℚ neg_ℚ x
neg_ℚ-≤ℚ x y h = ≤ℚ_by _ _ _ (≤ℚ-sub x y h)
    (ring (x ∷ y ∷ []) (λ ρ p q. simp (p, q, reads) (same_form _ _ _ refl)))
