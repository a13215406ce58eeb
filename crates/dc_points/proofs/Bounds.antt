-- What the outcome of a linear problem over the rational numbers says of its duals.
use Rattle.std.specs.Prelude.{◌≡◌, ◌↔◌, ℕ, pos, [], ◌∷◌}
use Rattle.std.proofs.Common.{refl, sym, ◌∙◌, ap, subst}
use Rattle.dc_math.specs.Rational.{ℚ, ◌+ℚ◌, ◌*ℚ◌, ◌-ℚ◌, of_ℤ, ◌≤ℚ◌, ◌<ℚ◌, <ℚ-≤ℚ, <ℚ-not, ≤ℚ-sub, NonNegative, NonNegative-+ℚ, NonNegative-*ℚ}
use Rattle.dc_math.specs.RationalRing.{ring, reads, read_nat, same_form, *ℚ-≤ℚ, +ℚ-≤ℚ, ≤ℚ_trans, linear₁}
use Rattle.dc_math.specs.Inverse.{inverse, *ℚ-inverse}
use Rattle.dc_math.specs.Order.{Positive_nonzero, inverse_positive, one_positive, <ℚ_by}
use Rattle.dc_math.specs.Sums.{sum_ℚ, sum_ℚ_same, sum_ℚ-*ℚ, sum_ℚ-+ℚ}
use Rattle.dc_lp.specs.Linear.{Linear, combined, combined_right, cost_of, IsSolution, IsDual, IsRefutation, IsRay}
use Rattle.dc_lp.proofs.Duality.{weak, ray}

-- no dual is worth more than v
abbrev pub DualsAtMost : Linear ℚ → ℚ → Type 0
DualsAtMost p v = (y : ℕ → ℚ) → IsDual p y → combined_right p y ≤ℚ v

-- where a solution and a dual have one value, that is the least such number
pub best-least : (p : Linear ℚ) (x y : ℕ → ℚ) → IsSolution p x → IsDual p y → cost_of p x ≡ combined_right p y → (v : ℚ) → DualsAtMost p v ↔ (cost_of p x ≤ℚ v)
best-least p x y s d e v = (λ h. subst (λ w. w ≤ℚ v) (sym e) (h y d), λ h w k. ≤ℚ_trans _ _ _ (weak p w k x s) h)

-- where there is a dual, no ray goes from a solution
pub dual-no_ray : (p : Linear ℚ) (x y r : ℕ → ℚ) → IsSolution p x → IsDual p y → IsRay p r → ⊥
dual-no_ray p x y r s d k = (let z = ray p r k x (combined_right p y) s in <ℚ-not _ _ z.2 (weak p y d z.0 z.1))

-- a dual goes on along a refutation, so there is no such number
module _ (p : Linear ℚ) (y r : ℕ → ℚ) (d : IsDual p y) (h : IsRefutation p r) where
  farther : ℚ → ℕ → ℚ
  farther t i = y i +ℚ r i *ℚ t

  spread : (m : ℕ) (g : ℕ → ℚ) (t : ℚ) → sum_ℚ m (λ i. farther t i *ℚ g i) ≡ sum_ℚ m (λ i. y i *ℚ g i) +ℚ sum_ℚ m (λ i. r i *ℚ g i) *ℚ t
  unfolding farther
  spread m g t =
      sum_ℚ_same m (λ i. farther t i *ℚ g i) (λ i. y i *ℚ g i +ℚ (r i *ℚ g i) *ℚ t) (λ i l. apart (y i) (r i) (g i))
      ∙ sum_ℚ-+ℚ m (λ i. y i *ℚ g i) (λ i. (r i *ℚ g i) *ℚ t)
      ∙ ap (λ x. sum_ℚ m (λ i. y i *ℚ g i) +ℚ x) (sum_ℚ-*ℚ m (λ i. r i *ℚ g i) t)
    where
      apart : (a b g : ℚ) → (a +ℚ b *ℚ t) *ℚ g ≡ a *ℚ g +ℚ (b *ℚ g) *ℚ t
      apart a b g = ring (a ∷ b ∷ g ∷ t ∷ []) (λ ρ p q u v. simp (p, q, u, v, reads) (same_form _ _ _ refl))

  farther-dual : (t : ℚ) → NonNegative t → IsDual p (farther t)
  farther-dual t n = record { prices = λ j l. subst (λ x. x ≤ℚ p.cost j) (sym (spread p.equations (λ i. p.coefficient i j) t)) (lower (combined p y j) (combined p r j) (p.cost j) (d.prices j l) (h.prices j l)) }
    where
      lower : (a b c : ℚ) → a ≤ℚ c → b ≤ℚ of_ℤ (pos 0) → (a +ℚ b *ℚ t) ≤ℚ c
      lower a b c k m = subst (λ x. (a +ℚ b *ℚ t) ≤ℚ x) (nothing c) (+ℚ-≤ℚ _ _ _ _ k (*ℚ-≤ℚ b (of_ℤ (pos 0)) t m n))
        where
          nothing : (c : ℚ) → c +ℚ of_ℤ (pos 0) *ℚ t ≡ c
          nothing c = ring (c ∷ t ∷ []) (λ ρ p q. simp (p, q, read_nat ρ, reads) (same_form _ _ _ refl))

  -- far enough: worth 1 more than the number
  pub refuted-no_bound : (v : ℚ) → DualsAtMost p v → ⊥
  refuted-no_bound v b = <ℚ-not _ _ passes (b (farther far) (farther-dual far far-nonnegative))
    where
      gap : ℚ
      gap = (v -ℚ combined_right p y) +ℚ of_ℤ (pos 1)

      far : ℚ
      far = gap *ℚ inverse (combined_right p r)

      far-nonnegative : NonNegative far
      far-nonnegative = NonNegative-*ℚ _ _ (NonNegative-+ℚ _ _ (≤ℚ-sub _ _ (b y d)) (<ℚ-≤ℚ _ _ one_positive)) (<ℚ-≤ℚ _ _ (inverse_positive _ h.right_side))

      lands : (s a i : ℚ) → s *ℚ i ≡ of_ℤ (pos 1) → a +ℚ s *ℚ (((v -ℚ a) +ℚ of_ℤ (pos 1)) *ℚ i) ≡ v +ℚ of_ℤ (pos 1)
      lands s a i e = linear₁ ((v -ℚ a) +ℚ of_ℤ (pos 1)) _ _ _ _ e (ring (s ∷ a ∷ i ∷ v ∷ []) (λ ρ p q u w. simp (p, q, u, w, read_nat ρ, reads) (same_form _ _ _ refl)))

      passes : v <ℚ combined_right p (farther far)
      passes = <ℚ_by _ _ (of_ℤ (pos 1)) one_positive (spread p.equations p.right_side far ∙ lands (combined_right p r) (combined_right p y) (inverse (combined_right p r)) (*ℚ-inverse _ (Positive_nonzero _ h.right_side)))
