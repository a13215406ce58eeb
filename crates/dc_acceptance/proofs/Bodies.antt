-- Clauses 7 to 13 of what is made, by the end of the run of the main problem.
use Rattle.std.specs.Prelude.{◌≡◌, ℕ, suc, ◌+◌, ◌*◌, ◌-◌, ◌≤◌, ◌<◌, ◌⊎◌, true, if◌then◌else◌, List, [], ◌∷◌, ◌++◌, map, length, ℤ, pos, neg_ℤ, Some}
use Rattle.std.specs.List.{range_with_len}
use Rattle.std.specs.Option.{option_map}
use Rattle.std.proofs.Common.{refl, sym, ◌∙◌, ap, subst, arith, inl, inr}
use Rattle.std.proofs.lemmas.Bool.{cases_lt, lt-ltb, le-ltb}
use Rattle.dc_math.specs.Rational.{ℚ, ◌*ℚ◌, neg_ℚ, of_ℤ, ◌≤ℚ◌, ◌<ℚ◌, NonNegative, *ℚ_comm, ≤ℚ_antisymm}
use Rattle.dc_math.specs.RationalRing.{ring, reads, same_form, neg_ℚ-≤ℚ}
use Rattle.dc_math.specs.Order.{of_ℤ-neg_ℤ, *ℚ-neg_ℚ}
use Rattle.dc_math.specs.Tests.{eq_ℚ, is_positive, eq_ℚ-true, lt_ℚ-true}
use Rattle.dc_math.specs.Sums.{sum_ℚ, sum_ℚ_same, sum_ℚ-neg_ℚ}
use Rattle.dc_frac.specs.declared.Frac.{Frac}
use Rattle.dc_frac.specs.Value.{value}
use Rattle.dc_cert.specs.Vectors.{in_range}
use Rattle.dc_lp.specs.Linear.{Linear, left_side, combined}
use Rattle.dc_lp.specs.Tables.{Table}
use Rattle.dc_pivots.specs.declared.Ending.{Ending}
use Rattle.dc_pivots.specs.declared.Ending.TheVariants.{Optimal, Infeasible, Unbounded}
use Rattle.dc_pivots.specs.Outcomes.{Shows}
use Rattle.dc_pivots.proofs.Rationals.{ends_right_rational}
use Rattle.dc_simplex.specs.Outcomes.{solution_at, direction_at, multiplier_at}
use Rattle.dc_simplex.specs.Ends.{ComesTo}
use Rattle.dc_points.specs.Stated.{rational}
use Rattle.dc_cert.specs.declared.sparse.Item.{Item}
use Rattle.dc_cert.specs.declared.sparse.Sparse.{Sparse}
use Rattle.dc_cert.specs.declared.certificate.Body.{Body}
use Rattle.dc_cert.specs.declared.certificate.Body.TheVariants.{Threshold, Nothing, Vacuous}
use Rattle.dc_clauses.specs.Steps.{counted}
use Rattle.dc_clauses.specs.Lines.{at, is, is_at_most}
use Rattle.dc_clauses.specs.Mains.{multipliers, short_column, short_coefficient, short_value, price_fold, right_fold, range_steps, sign_step, sign_steps, equation_test, equation_tests, price_test, price_tests, threshold_tests, ray_tests, fall_tests, claim_steps}
use Rattle.dc_mainlines.specs.Paired.{IsPaired}
use Rattle.dc_mainlines.proofs.Pairs.{behind, behind-is}
use Rattle.dc_session.specs.Made.{AreItemsOf, unknown_in, multiplier_in, IsThreshold, IsVacuous, IsBodyOf}
use Rattle.dc_acceptance.proofs.Passing.{Passes, AllPass, StepsPass, steps_both, all_pass, counted_pass, numbered_pass}
use Rattle.dc_acceptance.proofs.Sums.{is_passes, at_most_passes, equal_passes, positive_passes}
use Rattle.dc_acceptance.proofs.Items.{item_at, items_in_range, items_positive}
use Rattle.dc_acceptance.proofs.Shorts.{short_plus, short_times, lambda_at, left_is, cost_is}

-- what the table at the end of a run shows
pub shown_at_end : (p : Linear ℚ) (budget : ℕ) (e : Ending) (t : Table ℚ) → ComesTo p budget e t → Shows p t e
shown_at_end p budget e t h = let a = h.answer.0 in ends_right_rational p h.pivots (record { phase = a.phase; table = t }) e a.reaches.reached a.over

module _ (m : Linear ℤ) (u : ℕ) (h : IsPaired m u) where
  -- ---- signs
  signs_steps : (items : List Item) → AllPass (map (λ (i : Item). Some (is_positive (value i.value))) items) → StepsPass (map (sign_step m u) items)
  signs_steps [] k = tt
  signs_steps (i ∷ items) k = (k.0, signs_steps items k.1)

  -- ---- a solution, or a ray: its unknowns and its multipliers
  module _ (x : ℕ → ℚ) (unknown lambda : Sparse) (hu : AreItemsOf u (unknown_in x) unknown) (hl : AreItemsOf (multipliers m u) (multiplier_in u x) lambda) where
    unknown_range : in_range u unknown ≡ true
    unknown_range = items_in_range u (unknown_in x) unknown hu u (omega arith)

    lambda_range : in_range (multipliers m u) lambda ≡ true
    lambda_range = items_in_range (multipliers m u) (multiplier_in u x) lambda hl (multipliers m u) (omega arith)

    lambda_signs : ((j : ℕ) → j < m.columns → NonNegative (x j)) → StepsPass (map (sign_step m u) lambda.items)
    lambda_signs g =
        signs_steps lambda.items
        (items_positive (multipliers m u) (multiplier_in u x) lambda hl
        (λ k l. subst NonNegative (sym (lambda_at m u h x unknown lambda hu hl k l)) (g (behind u k) (let e = behind-is u k in let r = h.room in omega arith))))

    equations_pass : (right : ℕ → ℤ) → ((i : ℕ) → i < m.equations → left_side (rational m) x i ≡ of_ℤ (right i))
        → AllPass (map (equation_test m u right unknown lambda) (range_with_len 0 m.equations))
    equations_pass right g =
        numbered_pass (equation_test m u right unknown lambda) m.equations
        (λ i l. is_passes (u + multipliers m u) (short_coefficient m u i) (short_value m u unknown lambda) (right i) (left_is m u h x unknown lambda hu hl i ∙ g i l))

  -- ---- a dual, or a refutation
  module _ (y : ℕ → ℚ) (dual : Sparse) (hy : AreItemsOf m.equations y dual) where
    dual_range : in_range m.equations dual ≡ true
    dual_range = items_in_range m.equations y dual hy m.equations (omega arith)

    dual_sum : (c : ℕ → ℤ) → sum_ℚ m.equations (λ i. of_ℤ (c i) *ℚ at dual i) ≡ sum_ℚ m.equations (λ i. y i *ℚ of_ℤ (c i))
    dual_sum c = sum_ℚ_same m.equations _ _ (λ i l. ap (λ z. of_ℤ (c i) *ℚ z) (item_at m.equations y dual hy i l) ∙ *ℚ_comm (of_ℤ (c i)) (y i))

    minus_price : (k : ℕ) → k < u → combined (rational m) y (suc (k * 2)) ≡ neg_ℚ (combined (rational m) y (k * 2))
    minus_price k l =
        sum_ℚ_same m.equations (λ i. y i *ℚ of_ℤ (m.coefficient i (suc (k * 2)))) (λ i. neg_ℚ (y i *ℚ of_ℤ (m.coefficient i (k * 2))))
        (λ i g. ap (λ z. y i *ℚ z) (ap of_ℤ (h.minus i k l) ∙ of_ℤ-neg_ℤ (m.coefficient i (k * 2))) ∙ *ℚ-neg_ℚ (y i) (of_ℤ (m.coefficient i (k * 2))))
        ∙ sum_ℚ-neg_ℚ m.equations (λ i. y i *ℚ of_ℤ (m.coefficient i (k * 2)))

    module _ (cost : ℕ → ℤ) (minus_cost : (k : ℕ) → k < u → cost (suc (k * 2)) ≡ neg_ℤ (cost (k * 2))) (free : (j : ℕ) → u * 2 ≤ j → cost j ≡ pos 0)
        (prices : (j : ℕ) → j < m.columns → combined (rational m) y j ≤ℚ of_ℤ (cost j)) where
      -- a price of at most c, whose negation is at most minus c, is c
      squeezed : (p q c : ℚ) → p ≤ℚ c → q ≡ neg_ℚ p → q ≤ℚ neg_ℚ c → p ≡ c
      squeezed p q c a e b = ≤ℚ_antisymm p c a (opposite c p (subst (λ z. z ≤ℚ neg_ℚ c) e b))
        where
          twice : (a : ℚ) → neg_ℚ (neg_ℚ a) ≡ a
          twice a = ring (a ∷ []) (λ ρ i. simp (i, reads) (same_form _ _ _ refl))

          opposite : (c p : ℚ) → neg_ℚ p ≤ℚ neg_ℚ c → c ≤ℚ p
          opposite c p r = subst (λ z. z ≤ℚ p) (twice c) (subst (λ z. neg_ℚ (neg_ℚ c) ≤ℚ z) (twice p) (neg_ℚ-≤ℚ _ _ r))

      plus_price : (k : ℕ) → k < u → combined (rational m) y (k * 2) ≡ of_ℤ (cost (k * 2))
      plus_price k l =
          squeezed (combined (rational m) y (k * 2)) (combined (rational m) y (suc (k * 2))) (of_ℤ (cost (k * 2)))
          (prices (k * 2) (let r = h.room in omega arith)) (minus_price k l)
          (subst (λ z. combined (rational m) y (suc (k * 2)) ≤ℚ z) (ap of_ℤ (minus_cost k l) ∙ of_ℤ-neg_ℤ (cost (k * 2))) (prices (suc (k * 2)) (let r = h.room in omega arith)))

      price_sum : (k j : ℕ) → short_column m u k ≡ j → sum_ℚ m.equations (λ i. of_ℤ (short_coefficient m u i k) *ℚ at dual i) ≡ combined (rational m) y j
      price_sum k j e = dual_sum (λ i. short_coefficient m u i k) ∙ ap (combined (rational m) y) e

      price_passes : (k : ℕ) → k < u + multipliers m u → Passes (price_test m u cost dual k)
      price_passes k l = by (cases_lt k u)
        where
          unknown_price : k < u → Passes (is (price_fold m u dual k) (cost (short_column m u k)))
          unknown_price g =
              is_passes m.equations (λ i. short_coefficient m u i k) (at dual) (cost (short_column m u k))
              (price_sum k (k * 2) (short_plus m u h k g) ∙ plus_price k g ∙ ap (λ j. of_ℤ (cost j)) (sym (short_plus m u h k g)))

          other_price : u ≤ k → Passes (is_at_most (price_fold m u dual k) (pos 0))
          other_price g =
              let q : u + (k - u) ≡ k = omega arith in
              let j = behind u (k - u) in
              let b = behind-is u (k - u) in
              let r = h.room in
              at_most_passes m.equations (λ i. short_coefficient m u i k) (at dual) (pos 0)
              (subst (λ z. z ≤ℚ of_ℤ (pos 0)) (sym (price_sum k j (ap (short_column m u) (sym q) ∙ short_times m u h (k - u))))
              (subst (λ z. combined (rational m) y j ≤ℚ of_ℤ z) (free j (omega arith)) (prices j (omega arith))))

          by : (k < u) ⊎ (u ≤ k) → Passes (price_test m u cost dual k)
          by (inl g) = subst (λ b. Passes (if b then is (price_fold m u dual k) (cost (short_column m u k)) else is_at_most (price_fold m u dual k) (pos 0))) (sym (lt-ltb k u g)) (unknown_price g)
          by (inr g) = subst (λ b. Passes (if b then is (price_fold m u dual k) (cost (short_column m u k)) else is_at_most (price_fold m u dual k) (pos 0))) (sym (le-ltb k u g)) (other_price g)

      prices_pass : AllPass (map (price_test m u cost dual) (range_with_len 0 (u + multipliers m u)))
      prices_pass = numbered_pass (price_test m u cost dual) (u + multipliers m u) price_passes

  -- ---- the steps in order
  in_order : (b : Body) → StepsPass (range_steps m u b) → StepsPass (sign_steps m u b) → AllPass (equation_tests m u b) → AllPass (price_tests m u b)
      → AllPass (threshold_tests m u b) → AllPass (ray_tests m u b) → AllPass (fall_tests m u b) → StepsPass (claim_steps m u b)
  in_order b r s e p t y f =
      let falls = counted 13 0 (fall_tests m u b) in
      let rays = counted 12 0 (ray_tests m u b) in
      let thresholds = counted 11 0 (threshold_tests m u b) in
      let prices = counted 10 0 (price_tests m u b) in
      let equations = counted 9 0 (equation_tests m u b) in
      steps_both (range_steps m u b) (sign_steps m u b ++ (equations ++ (prices ++ (thresholds ++ (rays ++ falls))))) r
      (steps_both (sign_steps m u b) (equations ++ (prices ++ (thresholds ++ (rays ++ falls)))) s
      (steps_both equations (prices ++ (thresholds ++ (rays ++ falls))) (counted_pass 9 0 (equation_tests m u b) e)
      (steps_both prices (thresholds ++ (rays ++ falls)) (counted_pass 10 0 (price_tests m u b) p)
      (steps_both thresholds (rays ++ falls) (counted_pass 11 0 (threshold_tests m u b) t)
      (steps_both rays falls (counted_pass 12 0 (ray_tests m u b) y) (counted_pass 13 0 (fall_tests m u b) f))))))

  -- ---- by the end
  module _ (t : Table ℚ) where
    abbrev p : Linear ℚ
    p = rational m

    threshold_passes : Shows p t Optimal → (v : Frac) (unknown lambda dual : Sparse) → IsThreshold m u t v unknown lambda dual → StepsPass (claim_steps m u (Threshold v unknown lambda dual))
    threshold_passes s v unknown lambda dual b =
        let x = solution_at t in
        let y = multiplier_at p t (length t.basis + 1) in
        let body = Threshold v unknown lambda dual in
        let first : value v ≡ at unknown 0 = b.least ∙ sym s.cost ∙ cost_is m u h x unknown lambda b.unknown_is b.lambda_is in
        let right = equal_passes m.equations m.right_side (at dual) (value v) (dual_sum y dual b.dual_is m.right_side ∙ s.price ∙ sym b.least) in
        in_order body
        (unknown_range x unknown lambda b.unknown_is b.lambda_is, (lambda_range x unknown lambda b.unknown_is b.lambda_is, (dual_range y dual b.dual_is, tt)))
        (lambda_signs x unknown lambda b.unknown_is b.lambda_is s.solution.signs)
        (equations_pass x unknown lambda b.unknown_is b.lambda_is m.right_side s.solution.equations)
        (prices_pass y dual b.dual_is m.cost (λ k l. h.minus_cost k l) (λ j l. h.multipliers j l) s.dual.prices)
        (all_pass (Some (eq_ℚ (value v) (at unknown 0)) ∷ option_map (λ r. eq_ℚ (value v) r) (right_fold m u dual) ∷ []) (eq_ℚ-true (value v) (at unknown 0) first, (right, tt)), tt)
        tt tt

    none_passes : Shows p t Infeasible → (dual : Sparse) → AreItemsOf m.equations (multiplier_at p t (length t.basis)) dual → StepsPass (claim_steps m u (Nothing dual))
    none_passes s dual b =
        let y = multiplier_at p t (length t.basis) in
        in_order (Nothing dual) (dual_range y dual b, tt) tt tt
        (prices_pass y dual b (λ j. pos 0) (λ k l. refl) (λ j l. refl) s.prices)
        (positive_passes m.equations m.right_side (at dual) (subst (λ z. of_ℤ (pos 0) <ℚ z) (sym (dual_sum y dual b m.right_side)) s.right_side), tt)
        tt tt

    vacuous_passes : (j : ℕ) → Shows p t (Unbounded j) → (unknown lambda ray_unknown ray_lambda : Sparse) → IsVacuous m u t j unknown lambda ray_unknown ray_lambda
        → StepsPass (claim_steps m u (Vacuous unknown lambda ray_unknown ray_lambda))
    vacuous_passes j s unknown lambda ray_unknown ray_lambda b =
        let x = solution_at t in
        let r = direction_at t j in
        let falls = subst (λ z. z <ℚ of_ℤ (pos 0)) (cost_is m u h r ray_unknown ray_lambda b.ray_unknown_is b.ray_lambda_is) s.ray.falls in
        in_order (Vacuous unknown lambda ray_unknown ray_lambda) (
          unknown_range x unknown lambda b.unknown_is b.lambda_is,
          (
            lambda_range x unknown lambda b.unknown_is b.lambda_is,
            (unknown_range r ray_unknown ray_lambda b.ray_unknown_is b.ray_lambda_is, (lambda_range r ray_unknown ray_lambda b.ray_unknown_is b.ray_lambda_is, tt)),
          ),
        )
        (steps_both (map (sign_step m u) lambda.items) (map (sign_step m u) ray_lambda.items)
        (lambda_signs x unknown lambda b.unknown_is b.lambda_is s.solution.signs)
        (lambda_signs r ray_unknown ray_lambda b.ray_unknown_is b.ray_lambda_is s.ray.signs))
        (equations_pass x unknown lambda b.unknown_is b.lambda_is m.right_side s.solution.equations)
        tt tt
        (equations_pass r ray_unknown ray_lambda b.ray_unknown_is b.ray_lambda_is (λ i. pos 0) s.ray.equations)
        (lt_ℚ-true (at ray_unknown 0) (of_ℤ (pos 0)) falls, tt)

    pub body_passes : (e : Ending) (b : Body) → Shows p t e → IsBodyOf m u t e b → StepsPass (claim_steps m u b)
    body_passes Optimal (Threshold v a l d) s k = threshold_passes s v a l d k
    body_passes Optimal (Nothing d) s k = absurd k
    body_passes Optimal (Vacuous a l r q) s k = absurd k
    body_passes Infeasible (Threshold v a l d) s k = absurd k
    body_passes Infeasible (Nothing d) s k = none_passes s d k
    body_passes Infeasible (Vacuous a l r q) s k = absurd k
    body_passes (Unbounded j) (Threshold v a l d) s k = absurd k
    body_passes (Unbounded j) (Nothing d) s k = absurd k
    body_passes (Unbounded j) (Vacuous a l r q) s k = vacuous_passes j s a l r q k
