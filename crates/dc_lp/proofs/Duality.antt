-- Weak duality, the easy direction of Farkas' lemma, and what a ray shows.
use Rattle.std.specs.Prelude.{◌≡◌, ℕ, ◌<◌, pos, [], ◌∷◌}
use Rattle.std.proofs.Common.{refl, sym, ◌∙◌, ap, subst, inl, inr}
use Rattle.dc_math.specs.Rational.{ℚ, ◌+ℚ◌, ◌*ℚ◌, ◌-ℚ◌, neg_ℚ, of_ℤ, ◌≤ℚ◌, ◌<ℚ◌, <ℚ-≤ℚ, <ℚ-not, ≤ℚ_or, ≤ℚ-sub, *ℚ_comm, zero-*ℚ, NonNegative, NonNegative-+ℚ, NonNegative-*ℚ}
use Rattle.dc_math.specs.RationalRing.{ring, reads, read_nat, same_form, *ℚ-≤ℚ, linear₁}
use Rattle.dc_math.specs.Inverse.{inverse, *ℚ-inverse}
use Rattle.dc_math.specs.Order.{Positive, Positive_nonzero, inverse_positive, one_positive, <ℚ-sub, <ℚ_by, zero-minus}
use Rattle.dc_math.specs.Sums.{sum_ℚ, sum_ℚ_same, sum_ℚ_swap, sum_ℚ_zero, sum_ℚ-*ℚ, sum_ℚ-+ℚ, sum_ℚ-≤ℚ}
use Rattle.dc_lp.specs.Linear.{Linear, left_side, combined, combined_right, cost_of, IsSolution, IsRay}
use Rattle.dc_lp.specs.Laws.{WeakDuality, BestByDual, RefutationExcludes, RayGoesOn}

around : (a x y : ℚ) → (a *ℚ x) *ℚ y ≡ (y *ℚ a) *ℚ x
around a x y = ring (a ∷ x ∷ y ∷ []) (λ ρ p q r. simp (p, q, r, reads) (same_form _ _ _ refl))

-- the combination of the right sides is the sum of the columns' prices times x
exchange : (p : Linear ℚ) (x y : ℕ → ℚ) → ((i : ℕ) → i < p.equations → left_side p x i ≡ p.right_side i) → combined_right p y ≡ sum_ℚ p.columns (λ j. combined p y j *ℚ x j)
exchange p x y e =
    sum_ℚ_same p.equations (λ i. y i *ℚ p.right_side i) (λ i. sum_ℚ p.columns (λ j. (y i *ℚ p.coefficient i j) *ℚ x j)) row
    ∙ sum_ℚ_swap p.equations p.columns (λ i j. (y i *ℚ p.coefficient i j) *ℚ x j)
    ∙ sum_ℚ_same p.columns (λ j. sum_ℚ p.equations (λ i. (y i *ℚ p.coefficient i j) *ℚ x j)) (λ j. combined p y j *ℚ x j) (λ j l. sum_ℚ-*ℚ p.equations (λ i. y i *ℚ p.coefficient i j) (x j))
  where
    row : (i : ℕ) → i < p.equations → y i *ℚ p.right_side i ≡ sum_ℚ p.columns (λ j. (y i *ℚ p.coefficient i j) *ℚ x j)
    row i l =
        ap (λ z. y i *ℚ z) (sym (e i l)) ∙ *ℚ_comm (y i) (left_side p x i) ∙ sym (sum_ℚ-*ℚ p.columns (λ j. p.coefficient i j *ℚ x j) (y i))
        ∙ sum_ℚ_same p.columns (λ j. (p.coefficient i j *ℚ x j) *ℚ y i) (λ j. (y i *ℚ p.coefficient i j) *ℚ x j) (λ j k. around (p.coefficient i j) (x j) (y i))

pub weak : WeakDuality
weak p y d x s =
    subst (λ z. z ≤ℚ cost_of p x) (sym (exchange p x y s.equations))
    (sum_ℚ-≤ℚ p.columns (λ j. combined p y j *ℚ x j) (λ j. p.cost j *ℚ x j) (λ j l. *ℚ-≤ℚ (combined p y j) (p.cost j) (x j) (d.prices j l) (s.signs j l)))

pub best : BestByDual
best p x y d e z s = subst (λ v. v ≤ℚ cost_of p z) (sym e) (weak p y d z s)

pub excludes : RefutationExcludes
excludes p y h x s = <ℚ-not _ _ h.right_side (subst (λ z. z ≤ℚ of_ℤ (pos 0)) (sym (exchange p x y s.equations)) below)
  where
    nothing : sum_ℚ p.columns (λ j. of_ℤ (pos 0) *ℚ x j) ≡ of_ℤ (pos 0)
    nothing = sum_ℚ_zero p.columns (λ j. of_ℤ (pos 0) *ℚ x j) (λ j l. zero-*ℚ (x j))

    below : sum_ℚ p.columns (λ j. combined p y j *ℚ x j) ≤ℚ of_ℤ (pos 0)
    below =
        subst (λ z. sum_ℚ p.columns (λ j. combined p y j *ℚ x j) ≤ℚ z) nothing
        (sum_ℚ-≤ℚ p.columns (λ j. combined p y j *ℚ x j) (λ j. of_ℤ (pos 0) *ℚ x j) (λ j l. *ℚ-≤ℚ (combined p y j) (of_ℤ (pos 0)) (x j) (h.prices j l) (s.signs j l)))

-- ---- along a ray
spread : (a x r t : ℚ) → a *ℚ (x +ℚ r *ℚ t) ≡ a *ℚ x +ℚ (a *ℚ r) *ℚ t
spread a x r t = ring (a ∷ x ∷ r ∷ t ∷ []) (λ ρ p q u v. simp (p, q, u, v, reads) (same_form _ _ _ refl))

along : (n : ℕ) (a x r : ℕ → ℚ) (t : ℚ) → sum_ℚ n (λ j. a j *ℚ (x j +ℚ r j *ℚ t)) ≡ sum_ℚ n (λ j. a j *ℚ x j) +ℚ sum_ℚ n (λ j. a j *ℚ r j) *ℚ t
along n a x r t =
    sum_ℚ_same n (λ j. a j *ℚ (x j +ℚ r j *ℚ t)) (λ j. a j *ℚ x j +ℚ (a j *ℚ r j) *ℚ t) (λ j l. spread (a j) (x j) (r j) t)
    ∙ sum_ℚ-+ℚ n (λ j. a j *ℚ x j) (λ j. (a j *ℚ r j) *ℚ t)
    ∙ ap (λ z. sum_ℚ n (λ j. a j *ℚ x j) +ℚ z) (sum_ℚ-*ℚ n (λ j. a j *ℚ r j) t)

module _ (p : Linear ℚ) (r : ℕ → ℚ) (h : IsRay p r) (x : ℕ → ℚ) (s : IsSolution p x) where
  farther : ℚ → ℕ → ℚ
  farther t j = x j +ℚ r j *ℚ t

  nothing_more : (b t : ℚ) → b +ℚ of_ℤ (pos 0) *ℚ t ≡ b
  nothing_more b t = ring (b ∷ t ∷ []) (λ ρ p q. simp (p, q, read_nat ρ, reads) (same_form _ _ _ refl))

  farther-solution : (t : ℚ) → NonNegative t → IsSolution p (farther t)
  unfolding farther
  farther-solution t n = record {
    signs = λ j l. NonNegative-+ℚ (x j) (r j *ℚ t) (s.signs j l) (NonNegative-*ℚ (r j) t (h.signs j l) n);
    equations = λ i l. along p.columns (p.coefficient i) x r t ∙ ap (λ z. z +ℚ left_side p r i *ℚ t) (s.equations i l) ∙ ap (λ z. p.right_side i +ℚ z *ℚ t) (h.equations i l) ∙ nothing_more (p.right_side i) t;
  }

  farther-cost : (t : ℚ) → cost_of p (farther t) ≡ cost_of p x +ℚ cost_of p r *ℚ t
  unfolding farther
  farther-cost t = along p.columns p.cost x r t

  slope : ℚ
  slope = neg_ℚ (cost_of p r)

  slope-positive : Positive slope
  unfolding slope
  slope-positive = subst Positive (zero-minus (cost_of p r)) (<ℚ-sub (cost_of p r) (of_ℤ (pos 0)) h.falls)

  -- far enough: the cost passes the bound by 1
  enough : ℚ → ℚ
  enough bound = (cost_of p x -ℚ bound +ℚ of_ℤ (pos 1)) *ℚ inverse slope

  lands : (c v b i : ℚ) → neg_ℚ c *ℚ i ≡ of_ℤ (pos 1) → v +ℚ c *ℚ ((v -ℚ b +ℚ of_ℤ (pos 1)) *ℚ i) +ℚ of_ℤ (pos 1) ≡ b
  lands c v b i e = linear₁ (neg_ℚ (v -ℚ b +ℚ of_ℤ (pos 1))) _ _ _ _ e (ring (c ∷ v ∷ b ∷ i ∷ []) (λ ρ p q u w. simp (p, q, u, w, read_nat ρ, reads) (same_form _ _ _ refl)))

  enough-lands : (bound : ℚ) → bound ≡ cost_of p (farther (enough bound)) +ℚ of_ℤ (pos 1)
  unfolding enough slope
  enough-lands bound =
      sym (ap (λ z. z +ℚ of_ℤ (pos 1)) (farther-cost (enough bound)) ∙ lands (cost_of p r) (cost_of p x) bound (inverse slope) (*ℚ-inverse slope (Positive_nonzero slope slope-positive)))

  enough-nonnegative : (bound : ℚ) → bound ≤ℚ cost_of p x → NonNegative (enough bound)
  unfolding enough
  enough-nonnegative bound l =
      NonNegative-*ℚ _ _ (NonNegative-+ℚ _ _ (≤ℚ-sub bound (cost_of p x) l) (<ℚ-≤ℚ _ _ one_positive)) (<ℚ-≤ℚ _ _ (inverse_positive slope slope-positive))

  pub goes_on : (bound : ℚ) → (z : ℕ → ℚ) × IsSolution p z × (cost_of p z <ℚ bound)
  goes_on bound = elim (≤ℚ_or bound (cost_of p x)) [
    | inl l ↦ (farther (enough bound), farther-solution (enough bound) (enough-nonnegative bound l), <ℚ_by _ _ (of_ℤ (pos 1)) one_positive (enough-lands bound))
    | inr l ↦ (x, s, l)
  ]

pub ray : RayGoesOn
ray p r h x bound s = goes_on p r h x s bound
