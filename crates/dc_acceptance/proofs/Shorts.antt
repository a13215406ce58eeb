-- Sums over the columns of a problem in pairs, over its unknowns and its multipliers.
use Rattle.std.specs.Prelude.{◌≡◌, ℕ, zero, suc, ◌+◌, ◌*◌, ◌-◌, ◌≤◌, ◌<◌, if◌then◌else◌, [], ◌∷◌, ℤ, pos, neg_ℤ}
use Rattle.std.proofs.Common.{refl, sym, ◌∙◌, ap, ap₂, arith}
use Rattle.std.proofs.lemmas.Bool.{lt-ltb, le-ltb}
use Rattle.dc_math.specs.Rational.{ℚ, ◌+ℚ◌, ◌*ℚ◌, ◌-ℚ◌, neg_ℚ, of_ℤ, zero-*ℚ, zero-+ℚ, +ℚ-zero}
use Rattle.dc_math.specs.RationalRing.{ring, reads, read_nat, same_form}
use Rattle.dc_math.specs.Order.{of_ℤ-neg_ℤ}
use Rattle.dc_math.specs.Sums.{sum_ℚ, sum_ℚ_none, sum_ℚ_first, sum_ℚ_same, sum_ℚ_zero}
use Rattle.dc_lp.specs.Linear.{Linear, left_side, cost_of}
use Rattle.dc_points.specs.Stated.{rational}
use Rattle.dc_cert.specs.declared.sparse.Sparse.{Sparse}
use Rattle.dc_clauses.specs.Lines.{at}
use Rattle.dc_clauses.specs.Mains.{multipliers, short_column, short_coefficient, short_value}
use Rattle.dc_mainlines.specs.Paired.{IsPaired}
use Rattle.dc_mainlines.proofs.Pairs.{behind, behind-is, plus_index, minus_index, sum_split}
use Rattle.dc_session.specs.Made.{AreItemsOf, unknown_in, multiplier_in}
use Rattle.dc_acceptance.proofs.Items.{item_at}

-- a sum over columns, of which those of an unknown are each other's negatives
pub pair_sum : (u n : ℕ) (c x : ℕ → ℚ) → ((k : ℕ) → k < u → c (behind k 1) ≡ neg_ℚ (c (behind k 0)))
    → sum_ℚ (behind u n) (λ j. c j *ℚ x j) ≡ sum_ℚ u (λ k. c (behind k 0) *ℚ (x (behind k 0) -ℚ x (behind k 1))) +ℚ sum_ℚ n (λ k. c (behind u k) *ℚ x (behind u k))
pair_sum zero n c x h = sym (zero-+ℚ _) ∙ ap (λ z. z +ℚ sum_ℚ n (λ k. c k *ℚ x k)) (sym (sum_ℚ_none (λ k. c (behind k 0) *ℚ (x (behind k 0) -ℚ x (behind k 1)))))
pair_sum (suc u) n c x h =
    sum_ℚ_first (suc (behind u n)) (λ j. c j *ℚ x j)
    ∙ ap (λ z. c 0 *ℚ x 0 +ℚ z) (sum_ℚ_first (behind u n) (λ j. c (suc j) *ℚ x (suc j)))
    ∙ ap (λ z. c 0 *ℚ x 0 +ℚ (c 1 *ℚ x 1 +ℚ z)) (pair_sum u n (λ j. c (suc (suc j))) (λ j. x (suc (suc j))) (λ k l. h (suc k) (omega arith)))
    ∙ shape (c 0) (c 1) (x 0) (x 1) _ _ (h 0 (omega arith))
    ∙ ap (λ z. z +ℚ sum_ℚ n (λ k. c (behind (suc u) k) *ℚ x (behind (suc u) k))) (sym (sum_ℚ_first u (λ k. c (behind k 0) *ℚ (x (behind k 0) -ℚ x (behind k 1)))))
  where
    turn : (c p q y z : ℚ) → c *ℚ p +ℚ (neg_ℚ c *ℚ q +ℚ (y +ℚ z)) ≡ (c *ℚ (p -ℚ q) +ℚ y) +ℚ z
    turn c p q y z = ring (c ∷ p ∷ q ∷ y ∷ z ∷ []) (λ ρ i j k l m. simp (i, j, k, l, m, reads) (same_form _ _ _ refl))

    shape : (c d p q y z : ℚ) → d ≡ neg_ℚ c → c *ℚ p +ℚ (d *ℚ q +ℚ (y +ℚ z)) ≡ (c *ℚ (p -ℚ q) +ℚ y) +ℚ z
    shape c d p q y z e = ap (λ w. c *ℚ p +ℚ (w *ℚ q +ℚ (y +ℚ z))) e ∙ turn c p q y z

module _ (m : Linear ℤ) (u : ℕ) (h : IsPaired m u) where
  pub columns_are : m.columns ≡ behind u (multipliers m u)
  columns_are = let l = h.room in let e = behind-is u (multipliers m u) in omega arith

  pub short_plus : (k : ℕ) → k < u → short_column m u k ≡ k * 2
  short_plus k l = ap (λ b. if b then k * 2 else u + k) (lt-ltb k u l)

  pub short_times : (k : ℕ) → short_column m u (u + k) ≡ behind u k
  short_times k = ap (λ b. if b then (u + k) * 2 else u + (u + k)) (le-ltb (u + k) u (omega arith)) ∙ (let e = behind-is u k in let g : u + (u + k) ≡ behind u k = omega arith in g)

  module _ (x : ℕ → ℚ) (unknown lambda : Sparse) (hu : AreItemsOf u (unknown_in x) unknown) (hl : AreItemsOf (multipliers m u) (multiplier_in u x) lambda) where
    pub unknown_at : (k : ℕ) → k < u → at unknown k ≡ x (behind k 0) -ℚ x (behind k 1)
    unknown_at k l = item_at u (unknown_in x) unknown hu k l ∙ ap₂ (λ i j. x i -ℚ x j) (sym (plus_index k)) (sym (minus_index k))

    pub lambda_at : (k : ℕ) → k < multipliers m u → at lambda k ≡ x (behind u k)
    lambda_at k l = item_at (multipliers m u) (multiplier_in u x) lambda hl k l ∙ ap x (sym (behind-is u k))

    -- a sum over the columns
    pub whole_sum : (c : ℕ → ℤ) → ((k : ℕ) → k < u → c (suc (k * 2)) ≡ neg_ℤ (c (k * 2)))
        → sum_ℚ m.columns (λ j. of_ℤ (c j) *ℚ x j) ≡ sum_ℚ u (λ k. of_ℤ (c (k * 2)) *ℚ at unknown k) +ℚ sum_ℚ (multipliers m u) (λ k. of_ℤ (c (behind u k)) *ℚ at lambda k)
    whole_sum c g =
        ap (λ n. sum_ℚ n (λ j. of_ℤ (c j) *ℚ x j)) columns_are
        ∙ pair_sum u (multipliers m u) (λ j. of_ℤ (c j)) x
        (λ k l. ap (λ j. of_ℤ (c j)) (minus_index k) ∙ ap of_ℤ (g k l) ∙ of_ℤ-neg_ℤ (c (k * 2)) ∙ ap (λ j. neg_ℚ (of_ℤ (c j))) (sym (plus_index k)))
        ∙ ap₂ ◌+ℚ◌
        (sum_ℚ_same u _ _ (λ k l. ap₂ (λ j z. of_ℤ (c j) *ℚ z) (plus_index k) (sym (unknown_at k l))))
        (sum_ℚ_same (multipliers m u) _ _ (λ k l. ap (λ z. of_ℤ (c (behind u k)) *ℚ z) (sym (lambda_at k l))))

    value_plus : (k : ℕ) → k < u → short_value m u unknown lambda k ≡ at unknown k
    value_plus k l = ap (λ b. if b then at unknown k else at lambda (k - u)) (lt-ltb k u l)

    value_times : (k : ℕ) → short_value m u unknown lambda (u + k) ≡ at lambda k
    value_times k =
        ap (λ b. if b then at unknown (u + k) else at lambda ((u + k) - u)) (le-ltb (u + k) u (omega arith)) ∙ ap (at lambda) (let e : (u + k) - u ≡ k = omega arith in e)

    -- the same as a sum over the short columns
    short_sum : (i : ℕ)
        → sum_ℚ (u + multipliers m u) (λ k. of_ℤ (short_coefficient m u i k) *ℚ short_value m u unknown lambda k)
        ≡ sum_ℚ u (λ k. of_ℤ (m.coefficient i (k * 2)) *ℚ at unknown k) +ℚ sum_ℚ (multipliers m u) (λ k. of_ℤ (m.coefficient i (behind u k)) *ℚ at lambda k)
    short_sum i =
        sum_split u (multipliers m u) (λ k. of_ℤ (short_coefficient m u i k) *ℚ short_value m u unknown lambda k)
        ∙ ap₂ ◌+ℚ◌
        (sum_ℚ_same u _ _ (λ k l. ap₂ (λ j z. of_ℤ (m.coefficient i j) *ℚ z) (short_plus k l) (value_plus k l)))
        (sum_ℚ_same (multipliers m u) _ _ (λ k l. ap₂ (λ j z. of_ℤ (m.coefficient i j) *ℚ z) (short_times k) (value_times k)))

    pub left_is : (i : ℕ) → sum_ℚ (u + multipliers m u) (λ k. of_ℤ (short_coefficient m u i k) *ℚ short_value m u unknown lambda k) ≡ left_side (rational m) x i
    left_is i = short_sum i ∙ sym (whole_sum (m.coefficient i) (λ k l. h.minus i k l))

    -- ---- the cost is unknown 0
    cost_sum : (n : ℕ) (a : ℕ → ℚ) → 1 ≤ n → n ≤ u → sum_ℚ n (λ k. of_ℤ (m.cost (k * 2)) *ℚ a k) ≡ a 0
    cost_sum zero a l g = absurd (omega arith)
    cost_sum (suc n) a l g =
        sum_ℚ_first n (λ k. of_ℤ (m.cost (k * 2)) *ℚ a k)
        ∙ ap₂ (λ y z. y *ℚ a 0 +ℚ z) (ap of_ℤ (ap m.cost (let e : 0 * 2 ≡ 0 = omega arith in e) ∙ h.first))
        (sum_ℚ_zero n (λ k. of_ℤ (m.cost (suc k * 2)) *ℚ a (suc k)) (λ k f. ap (λ z. of_ℤ z *ℚ a (suc k)) (h.others (suc k) (omega arith) (omega arith)) ∙ zero-*ℚ (a (suc k))))
        ∙ one_term (a 0)
      where
        one_term : (y : ℚ) → of_ℤ (pos 1) *ℚ y +ℚ of_ℤ (pos 0) ≡ y
        one_term y = ring (y ∷ []) (λ ρ i. simp (i, read_nat ρ, reads) (same_form _ _ _ refl))

    pub cost_is : cost_of (rational m) x ≡ at unknown 0
    cost_is =
        whole_sum m.cost (λ k l. h.minus_cost k l)
        ∙ ap₂ ◌+ℚ◌ (cost_sum u (at unknown) h.some (omega arith))
        (sum_ℚ_zero (multipliers m u) (λ k. of_ℤ (m.cost (behind u k)) *ℚ at lambda k)
        (λ k l. ap (λ z. of_ℤ z *ℚ at lambda k) (h.multipliers (behind u k) (let e = behind-is u k in omega arith)) ∙ zero-*ℚ (at lambda k)))
        ∙ +ℚ-zero (at unknown 0)
