-- The two problems of a list of atoms, in vectors: where the atoms hold there is a refutation of the empty problem and a dual of the problem
-- of a sum, and back.
use Rattle.std.specs.Prelude.{◌≡◌, ◌≢◌, ℕ, ◌<◌, eqb, if◌then◌else◌, List, [], ◌∷◌, length, ℤ, pos, negsuc}
use Rattle.std.proofs.Common.{refl, sym, ◌∙◌, ap, ap₂, subst, subst₂, arith}
use Rattle.std.proofs.lemmas.Bool.{lt-ltb, eq-eqb, ne_eqb}
use Rattle.dc_math.specs.Rational.{ℚ, ◌+ℚ◌, ◌*ℚ◌, neg_ℚ, of_ℤ, ◌≤ℚ◌, ◌<ℚ◌, zero-*ℚ, ≤ℚ-sub, sub-≤ℚ, NonNegative, *ℚ-zero}
use Rattle.dc_math.specs.RationalRing.{ring, reads, read_nat, same_form, linear₁}
use Rattle.dc_math.specs.RationalField.{NonNegative-neg_ℚ, +ℚ-neg_ℚ}
use Rattle.dc_math.specs.Inverse.{inverse, *ℚ-inverse}
use Rattle.dc_math.specs.Signs.{minus_one, negated_positive}
use Rattle.dc_math.specs.Order.{Positive, Positive_nonzero, one_positive, <ℚ_irrefl, <ℚ_by, ≤ℚ-*ℚ_cancel}
use Rattle.dc_math.specs.Linear.{from₁, follows, times}
use Rattle.dc_math.specs.Sums.{sum_ℚ, sum_ℚ_last, sum_ℚ_same, sum_ℚ_zero, sum_ℚ-*ℚ, sum_ℚ-neg_ℚ}
use Rattle.dc_affine.specs.declared.atom.Atom.{Atom}
use Rattle.dc_lp.specs.Linear.{Linear, combined, combined_right, IsDual, IsRefutation, IsRay}
use Rattle.dc_points.specs.Stated.{rational, atom_number, coefficient_of, place_entry, empty_problem, sum_problem}
use Rattle.dc_points.proofs.Coordinates.{HoldAt}
use Rattle.dc_points.proofs.Bounds.{DualsAtMost}

-- ---- sums with factors that are negated, or all multiplied
pub weighed-neg_ℚ : (n : ℕ) (z g : ℕ → ℚ) → sum_ℚ n (λ i. neg_ℚ (z i) *ℚ g i) ≡ neg_ℚ (sum_ℚ n (λ i. z i *ℚ g i))
weighed-neg_ℚ n z g = sum_ℚ_same n (λ i. neg_ℚ (z i) *ℚ g i) (λ i. neg_ℚ (z i *ℚ g i)) (λ i l. out (z i) (g i)) ∙ sum_ℚ-neg_ℚ n (λ i. z i *ℚ g i)
  where
    out : (x c : ℚ) → neg_ℚ x *ℚ c ≡ neg_ℚ (x *ℚ c)
    out x c = ring (x ∷ c ∷ []) (λ ρ p q. simp (p, q, reads) (same_form _ _ _ refl))

pub weighed-*ℚ : (n : ℕ) (z g : ℕ → ℚ) (k : ℚ) → sum_ℚ n (λ i. (z i *ℚ k) *ℚ g i) ≡ sum_ℚ n (λ i. z i *ℚ g i) *ℚ k
weighed-*ℚ n z g k = sum_ℚ_same n (λ i. (z i *ℚ k) *ℚ g i) (λ i. (z i *ℚ g i) *ℚ k) (λ i l. out (z i) (g i)) ∙ sum_ℚ-*ℚ n (λ i. z i *ℚ g i) k
  where
    out : (x c : ℚ) → (x *ℚ k) *ℚ c ≡ (x *ℚ c) *ℚ k
    out x c = ring (x ∷ c ∷ k ∷ []) (λ ρ p q r. simp (p, q, r, reads) (same_form _ _ _ refl))

module _ (n : ℕ) (hyps : List Atom) where
  -- the linear part of an atom at a vector, and its constant
  abbrev linear_part : ℕ → (ℕ → ℚ) → ℚ
  linear_part j z = sum_ℚ n (λ i. z i *ℚ of_ℤ (coefficient_of (atom_number hyps j) i))

  abbrev constant_part : ℕ → ℚ
  constant_part j = of_ℤ ((atom_number hyps j).c0)

  pub entry-inside : (i j : ℕ) → i < n → place_entry n hyps i j ≡ coefficient_of (atom_number hyps j) i
  entry-inside i j l = rw (lt-ltb i n l) refl

  -- ---- the empty problem
  abbrev empty : Linear ℚ
  empty = rational (empty_problem hyps n)

  pub inside : {A : Type 0} (i : ℕ) (x y : A) → i < n → (if eqb i n then x else y) ≡ y
  inside i x y l = rw (ne_eqb i n (omega arith)) refl

  pub last : {A : Type 0} (x y : A) → (if eqb n n then x else y) ≡ x
  last x y = rw (eq-eqb n n refl) refl

  empty-combined : (y : ℕ → ℚ) (j : ℕ) → combined empty y j ≡ linear_part j y +ℚ y n *ℚ constant_part j
  empty-combined y j =
      sum_ℚ_last n (λ i. y i *ℚ empty.coefficient i j)
      ∙ ap₂ ◌+ℚ◌
      (sum_ℚ_same n (λ i. y i *ℚ empty.coefficient i j) (λ i. y i *ℚ of_ℤ (coefficient_of (atom_number hyps j) i)) (λ i l. ap (λ x. y i *ℚ of_ℤ x) (inside i ((atom_number hyps j).c0) (place_entry n hyps i j) l ∙ entry-inside i j l)))
      (ap (λ x. y n *ℚ of_ℤ x) (last ((atom_number hyps j).c0) (place_entry n hyps n j)))

  empty-right : (y : ℕ → ℚ) → combined_right empty y ≡ neg_ℚ (y n)
  empty-right y =
      sum_ℚ_last n (λ i. y i *ℚ empty.right_side i)
      ∙ ap₂ ◌+ℚ◌
      (sum_ℚ_zero n (λ i. y i *ℚ empty.right_side i) (λ i l. ap (λ x. y i *ℚ of_ℤ x) (inside i (negsuc 0) (pos 0) l) ∙ *ℚ-zero (y i)))
      (ap (λ x. y n *ℚ x) (ap of_ℤ (last (negsuc 0) (pos 0)) ∙ minus_one))
      ∙ negated (y n)
    where
      negated : (x : ℚ) → of_ℤ (pos 0) +ℚ x *ℚ neg_ℚ (of_ℤ (pos 1)) ≡ neg_ℚ x
      negated x = ring (x ∷ []) (λ ρ p. simp (p, read_nat ρ, reads) (same_form _ _ _ refl))

  -- where the last part is negative, the right side is positive
  pub negative-right : (y : ℕ → ℚ) → y n <ℚ of_ℤ (pos 0) → Positive (combined_right empty y)
  negative-right y l = subst Positive (sym (empty-right y)) (negated_positive (y n) l)

  -- no column costs, so the cost doesn't fall
  pub empty-no_ray : (r : ℕ → ℚ) → IsRay empty r → ⊥
  empty-no_ray r h = <ℚ_irrefl (of_ℤ (pos 0)) (subst (λ x. x <ℚ of_ℤ (pos 0)) (sum_ℚ_zero (length hyps) (λ j. of_ℤ (pos 0) *ℚ r j) (λ j l. zero-*ℚ (r j))) h.falls)

  -- the negated coordinates, and -1 behind them
  abbrev refutation_of : (ℕ → ℚ) → ℕ → ℚ
  refutation_of z i = if eqb i n then neg_ℚ (of_ℤ (pos 1)) else neg_ℚ (z i)

  pub holds-refutes : (z : ℕ → ℚ) → HoldAt n hyps z → IsRefutation empty (refutation_of z)
  holds-refutes z h = record {
    prices = λ j l. subst (λ x. x ≤ℚ of_ℤ (pos 0)) (sym (empty-combined (refutation_of z) j ∙ ap₂ (λ s k. s +ℚ k *ℚ constant_part j) (negated j) (last _ _))) (below (constant_part j) (linear_part j z) (h j l));
    right_side = subst Positive (sym (empty-right (refutation_of z) ∙ ap neg_ℚ (last _ _) ∙ twice)) one_positive;
  }
    where
      negated : (j : ℕ) → linear_part j (refutation_of z) ≡ neg_ℚ (linear_part j z)
      negated j =
          sum_ℚ_same n (λ i. refutation_of z i *ℚ of_ℤ (coefficient_of (atom_number hyps j) i)) (λ i. neg_ℚ (z i) *ℚ of_ℤ (coefficient_of (atom_number hyps j) i)) (λ i l. ap (λ x. x *ℚ of_ℤ (coefficient_of (atom_number hyps j) i)) (inside i _ _ l))
          ∙ weighed-neg_ℚ n z (λ i. of_ℤ (coefficient_of (atom_number hyps j) i))

      below : (c s : ℚ) → NonNegative (c +ℚ s) → (neg_ℚ s +ℚ neg_ℚ (of_ℤ (pos 1)) *ℚ c) ≤ℚ of_ℤ (pos 0)
      below c s h = from₁ h (ring (c ∷ s ∷ []) (λ ρ p q. simp (p, q, read_nat ρ, reads) (follows _ (times 1 _ _ ∷ []) _ _ refl)))

      twice : neg_ℚ (neg_ℚ (of_ℤ (pos 1))) ≡ of_ℤ (pos 1)
      twice = ring [] (λ ρ. simp (read_nat ρ, reads) (same_form _ _ _ refl))

  module _ (y : ℕ → ℚ) (r : IsRefutation empty y) where
    refuting_last : Positive (neg_ℚ (y n))
    refuting_last = subst Positive (empty-right y) r.right_side

    pub refuting_negative : y n <ℚ of_ℤ (pos 0)
    refuting_negative = <ℚ_by (y n) (of_ℤ (pos 0)) (neg_ℚ (y n)) refuting_last (sym (+ℚ-neg_ℚ (y n)))

    pub refuting_nonzero : y n ≢ of_ℤ (pos 0)
    refuting_nonzero e = Positive_nonzero _ refuting_last (ap neg_ℚ e ∙ ring [] (λ ρ. simp (read_nat ρ, reads) (same_form _ _ _ refl)))

    -- the vector that a refutation names
    pub refutes-holds : HoldAt n hyps (λ i. y i *ℚ inverse (y n))
    refutes-holds j l =
        subst (λ s. NonNegative (constant_part j +ℚ s)) (sym (weighed-*ℚ n y (λ i. of_ℤ (coefficient_of (atom_number hyps j) i)) (inverse (y n))))
        (turned (constant_part j) (linear_part j y) (y n) (inverse (y n)) (*ℚ-inverse (y n) refuting_nonzero) (subst (λ x. x ≤ℚ of_ℤ (pos 0)) (empty-combined y j) (r.prices j l)) refuting_last)
      where
        turned : (c s y i : ℚ) → y *ℚ i ≡ of_ℤ (pos 1) → (s +ℚ y *ℚ c) ≤ℚ of_ℤ (pos 0) → Positive (neg_ℚ y) → NonNegative (c +ℚ s *ℚ i)
        turned c s y i e h p =
            ≤ℚ-*ℚ_cancel (of_ℤ (pos 0)) (c +ℚ s *ℚ i) (neg_ℚ y)
            (subst₂ (λ a b. a ≤ℚ b) (sym (zero-*ℚ (neg_ℚ y)))
            (sym (linear₁ (neg_ℚ s) _ _ _ _ e (ring (c ∷ s ∷ y ∷ i ∷ []) (λ ρ p q u v. simp (p, q, u, v, read_nat ρ, reads) (same_form _ _ _ refl)))))
            (NonNegative-neg_ℚ (s +ℚ y *ℚ c) h))
            p

  -- ---- the problem of a sum
  module _ (f : ℕ → ℤ) where
    abbrev sums : Linear ℚ
    sums = rational (sum_problem hyps n f)

    sums-combined : (y : ℕ → ℚ) (j : ℕ) → combined sums y j ≡ linear_part j y
    sums-combined y j = sum_ℚ_same n (λ i. y i *ℚ sums.coefficient i j) (λ i. y i *ℚ of_ℤ (coefficient_of (atom_number hyps j) i)) (λ i l. ap (λ x. y i *ℚ of_ℤ x) (entry-inside i j l))

    pub dual-holds : (y : ℕ → ℚ) → IsDual sums y → HoldAt n hyps (λ i. neg_ℚ (y i))
    dual-holds y d j l =
        subst (λ s. NonNegative (constant_part j +ℚ s)) (sym (weighed-neg_ℚ n y (λ i. of_ℤ (coefficient_of (atom_number hyps j) i))))
        (≤ℚ-sub (linear_part j y) (constant_part j) (subst (λ x. x ≤ℚ constant_part j) (sums-combined y j) (d.prices j l)))

    pub holds-dual : (z : ℕ → ℚ) → HoldAt n hyps z → IsDual sums (λ i. neg_ℚ (z i))
    holds-dual z h = record {
      prices = λ j l. subst (λ x. x ≤ℚ constant_part j) (sym (sums-combined (λ i. neg_ℚ (z i)) j ∙ weighed-neg_ℚ n z (λ i. of_ℤ (coefficient_of (atom_number hyps j) i)))) (below (constant_part j) (linear_part j z) (h j l));
    }
      where
        below : (c s : ℚ) → NonNegative (c +ℚ s) → neg_ℚ s ≤ℚ c
        below c s h = from₁ h (ring (c ∷ s ∷ []) (λ ρ p q. simp (p, q, read_nat ρ, reads) (follows _ (times 1 _ _ ∷ []) _ _ refl)))

    -- the number and the sum's value are at least 0 together wherever the atoms hold: no dual is worth more than the number
    abbrev pub AtLeast : ℚ → Type 0
    AtLeast v = (z : ℕ → ℚ) → HoldAt n hyps z → NonNegative (v +ℚ sum_ℚ n (λ i. z i *ℚ of_ℤ (f i)))

    pub at_least-duals : (v : ℚ) → AtLeast v → DualsAtMost sums v
    at_least-duals v h y d = sub-≤ℚ _ _ (subst (λ s. NonNegative (v +ℚ s)) (weighed-neg_ℚ n y (λ i. of_ℤ (f i))) (h (λ i. neg_ℚ (y i)) (dual-holds y d)))

    pub duals-at_least : (v : ℚ) → DualsAtMost sums v → AtLeast v
    duals-at_least v h z k = above (sum_ℚ n (λ i. z i *ℚ of_ℤ (f i))) (subst (λ s. s ≤ℚ v) (weighed-neg_ℚ n z (λ i. of_ℤ (f i))) (h (λ i. neg_ℚ (z i)) (holds-dual z k)))
      where
        above : (s : ℚ) → neg_ℚ s ≤ℚ v → NonNegative (v +ℚ s)
        above s h = from₁ h (ring (s ∷ v ∷ []) (λ ρ p q. simp (p, q, read_nat ρ, reads) (follows _ (times 1 _ _ ∷ []) _ _ refl)))
