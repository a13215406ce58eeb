-- What the clauses show of a problem in pairs.
use Rattle.std.specs.Prelude.{◌≡◌, ℕ, zero, suc, ◌+◌, ◌*◌, ◌-◌, ◌≤◌, ◌<◌, if◌then◌else◌, true, [], ◌∷◌, ◌++◌, map, ℤ, pos, neg_ℤ, Some}
use Rattle.std.proofs.Common.{refl, sym, ◌∙◌, ap, ap₂, subst, arith}
use Rattle.std.proofs.lemmas.Bool.{lt-ltb, le-ltb}
use Rattle.dc_math.specs.Rational.{ℚ, ◌+ℚ◌, ◌*ℚ◌, neg_ℚ, of_ℤ, ◌≤ℚ◌, ◌<ℚ◌, NonNegative, zero-*ℚ, *ℚ_comm}
use Rattle.dc_math.specs.RationalRing.{ring, reads, read_nat, same_form}
use Rattle.dc_math.specs.Order.{of_ℤ-neg_ℤ, ≤ℚ_same, *ℚ-neg_ℚ}
use Rattle.dc_math.specs.Sums.{sum_ℚ, sum_ℚ_first, sum_ℚ_same, sum_ℚ_zero, sum_ℚ-neg_ℚ}
use Rattle.dc_frac.specs.Value.{value}
use Rattle.dc_lp.specs.Linear.{Linear, left_side, combined, cost_of, IsSolution, IsRay, CostAtLeast}
use Rattle.dc_lp.specs.Folds.{folded}
use Rattle.dc_lp.proofs.FoldSums.{folded-sum}
use Rattle.dc_lp.proofs.Duality.{weak, excludes, ray}
use Rattle.dc_points.specs.Stated.{rational}
use Rattle.dc_cert.specs.declared.sparse.Sparse.{Sparse}
use Rattle.dc_cert.specs.declared.certificate.Body.{Body}
use Rattle.dc_cert.specs.declared.certificate.Body.TheVariants.{Threshold, Nothing, Vacuous}
use Rattle.dc_clauses.specs.Steps.{AllHold, counted}
use Rattle.dc_clauses.specs.Lines.{at, is, is_at_most}
use Rattle.dc_clauses.specs.Mains.{multipliers, short_column, short_coefficient, short_value, left_fold, price_fold, right_fold, range_steps, sign_steps, sign_step, equation_test, equation_tests, price_test, price_tests, threshold_tests, ray_tests, fall_tests, claim_steps}
use Rattle.dc_mainlines.specs.Paired.{IsPaired}
use Rattle.dc_mainlines.specs.Laws.{StepsShow, IsLeastCost}
use Rattle.dc_mainlines.proofs.Pairs.{behind, behind-is, plus_index, minus_index, Owner, first_of, second_of, after, owner, vector, vector_sign, sum_split, vector_sum}
use Rattle.dc_mainlines.proofs.Tested.{holds_first, holds_second, numbered, both_parts, is_sum, at_most_sum, equal_sum, positive_sum, same_number, negative_number, positive_items}

module _ (m : Linear ℤ) (u : ℕ) (h : IsPaired m u) where
  -- ---- columns
  columns_are : m.columns ≡ behind u (multipliers m u)
  columns_are = let l = h.room in let e = behind-is u (multipliers m u) in omega arith

  short_plus : (k : ℕ) → k < u → short_column m u k ≡ k * 2
  short_plus k l = ap (λ b. if b then k * 2 else u + k) (lt-ltb k u l)

  short_times : (k : ℕ) → short_column m u (u + k) ≡ behind u k
  short_times k = ap (λ b. if b then (u + k) * 2 else u + (u + k)) (le-ltb (u + k) u (omega arith)) ∙ (let e = behind-is u k in let g : u + (u + k) ≡ behind u k = omega arith in g)

  -- ---- vectors
  vector_of : Sparse → Sparse → ℕ → ℚ
  vector_of unknown lambda = vector u (at unknown) (at lambda)

  value_plus : (unknown lambda : Sparse) (k : ℕ) → k < u → short_value m u unknown lambda k ≡ at unknown k
  value_plus unknown lambda k l = ap (λ b. if b then at unknown k else at lambda (k - u)) (lt-ltb k u l)

  value_times : (unknown lambda : Sparse) (k : ℕ) → short_value m u unknown lambda (u + k) ≡ at lambda k
  value_times unknown lambda k =
      ap (λ b. if b then at unknown (u + k) else at lambda ((u + k) - u)) (le-ltb (u + k) u (omega arith)) ∙ ap (at lambda) (let e : (u + k) - u ≡ k = omega arith in e)

  -- a sum over the vector, whose minus columns are minus the plus columns
  whole_sum : (c : ℕ → ℤ) (unknown lambda : Sparse) → ((k : ℕ) → k < u → c (suc (k * 2)) ≡ neg_ℤ (c (k * 2)))
      → sum_ℚ m.columns (λ j. of_ℤ (c j) *ℚ vector_of unknown lambda j) ≡ sum_ℚ u (λ k. of_ℤ (c (k * 2)) *ℚ at unknown k) +ℚ sum_ℚ (multipliers m u) (λ k. of_ℤ (c (behind u k)) *ℚ at lambda k)
  unfolding vector_of
  whole_sum c unknown lambda g =
      ap (λ n. sum_ℚ n (λ j. of_ℤ (c j) *ℚ vector u (at unknown) (at lambda) j)) columns_are
      ∙ vector_sum u (multipliers m u) (λ j. of_ℤ (c j)) (at unknown) (at lambda)
      (λ k l. ap (λ j. of_ℤ (c j)) (minus_index k) ∙ ap of_ℤ (g k l) ∙ of_ℤ-neg_ℤ (c (k * 2)) ∙ ap (λ j. neg_ℚ (of_ℤ (c j))) (sym (plus_index k)))
      ∙ ap (λ z. z +ℚ sum_ℚ (multipliers m u) (λ k. of_ℤ (c (behind u k)) *ℚ at lambda k))
      (sum_ℚ_same u (λ k. of_ℤ (c (behind k 0)) *ℚ at unknown k) (λ k. of_ℤ (c (k * 2)) *ℚ at unknown k) (λ k l. ap (λ j. of_ℤ (c j) *ℚ at unknown k) (plus_index k)))

  -- the same as a sum over the short columns
  short_sum : (i : ℕ) (unknown lambda : Sparse)
      → sum_ℚ (u + multipliers m u) (λ k. of_ℤ (short_coefficient m u i k) *ℚ short_value m u unknown lambda k)
      ≡ sum_ℚ u (λ k. of_ℤ (m.coefficient i (k * 2)) *ℚ at unknown k) +ℚ sum_ℚ (multipliers m u) (λ k. of_ℤ (m.coefficient i (behind u k)) *ℚ at lambda k)
  short_sum i unknown lambda =
      sum_split u (multipliers m u) (λ k. of_ℤ (short_coefficient m u i k) *ℚ short_value m u unknown lambda k)
      ∙ ap₂ ◌+ℚ◌
      (sum_ℚ_same u _ _ (λ k l. ap₂ (λ j x. of_ℤ (m.coefficient i j) *ℚ x) (short_plus k l) (value_plus unknown lambda k l)))
      (sum_ℚ_same (multipliers m u) _ _ (λ k l. ap₂ (λ j x. of_ℤ (m.coefficient i j) *ℚ x) (short_times k) (value_times unknown lambda k)))

  -- ---- equations
  equation_holds : (right : ℕ → ℤ) (unknown lambda : Sparse) (i : ℕ) → equation_test m u right unknown lambda i ≡ Some true → left_side (rational m) (vector_of unknown lambda) i ≡ of_ℤ (right i)
  equation_holds right unknown lambda i e =
      whole_sum (m.coefficient i) unknown lambda (λ k l. h.minus i k l)
      ∙ sym (short_sum i unknown lambda)
      ∙ sym (folded-sum (u + multipliers m u) (short_coefficient m u i) (short_value m u unknown lambda) (of_ℤ (right i)) (is_sum (left_fold m u unknown lambda i) (right i) e))

  signs_hold : (unknown lambda : Sparse) → AllHold (map (sign_step m u) lambda.items) → (j : ℕ) → NonNegative (vector_of unknown lambda j)
  unfolding vector_of
  signs_hold unknown lambda g j = vector_sign u j (at unknown) (at lambda) (positive_items m u lambda.items g)

  solution : (unknown lambda : Sparse) → AllHold (map (sign_step m u) lambda.items) → ((i : ℕ) → i < m.equations → equation_test m u m.right_side unknown lambda i ≡ Some true) → IsSolution (rational m) (vector_of unknown lambda)
  solution unknown lambda g e = record { signs = λ j l. signs_hold unknown lambda g j; equations = λ i l. equation_holds m.right_side unknown lambda i (e i l) }

  -- ---- the cost is unknown 0
  cost_sum : (n : ℕ) (a : ℕ → ℚ) → 1 ≤ n → n ≤ u → sum_ℚ n (λ k. of_ℤ (m.cost (k * 2)) *ℚ a k) ≡ a 0
  cost_sum zero a l g = absurd (omega arith)
  cost_sum (suc n) a l g =
      sum_ℚ_first n (λ k. of_ℤ (m.cost (k * 2)) *ℚ a k)
      ∙ ap₂ (λ x y. x *ℚ a 0 +ℚ y) (ap of_ℤ (ap m.cost (let e : 0 * 2 ≡ 0 = omega arith in e) ∙ h.first))
      (sum_ℚ_zero n (λ k. of_ℤ (m.cost (suc k * 2)) *ℚ a (suc k)) (λ k f. ap (λ z. of_ℤ z *ℚ a (suc k)) (h.others (suc k) (omega arith) (omega arith)) ∙ zero-*ℚ (a (suc k))))
      ∙ shape (a 0)
    where
      shape : (x : ℚ) → of_ℤ (pos 1) *ℚ x +ℚ of_ℤ (pos 0) ≡ x
      shape x = ring (x ∷ []) (λ ρ i. simp (i, read_nat ρ, reads) (same_form _ _ _ refl))

  cost_is : (unknown lambda : Sparse) → cost_of (rational m) (vector_of unknown lambda) ≡ at unknown 0
  cost_is unknown lambda =
      whole_sum m.cost unknown lambda (λ k l. h.minus_cost k l)
      ∙ ap₂ ◌+ℚ◌ (cost_sum u (at unknown) h.some (omega arith))
      (sum_ℚ_zero (multipliers m u) (λ k. of_ℤ (m.cost (behind u k)) *ℚ at lambda k)
      (λ k l. ap (λ z. of_ℤ z *ℚ at lambda k) (h.multipliers (behind u k) (let e = behind-is u k in omega arith)) ∙ zero-*ℚ (at lambda k)))
      ∙ shape (at unknown 0)
    where
      shape : (x : ℚ) → x +ℚ of_ℤ (pos 0) ≡ x
      shape x = ring (x ∷ []) (λ ρ i. simp (i, read_nat ρ, reads) (same_form _ _ _ refl))

  -- ---- prices
  combined_is : (c : ℕ → ℤ) (dual : Sparse) (s : ℚ) → folded m.equations c (at dual) ≡ Some s → sum_ℚ m.equations (λ i. at dual i *ℚ of_ℤ (c i)) ≡ s
  combined_is c dual s e =
      sum_ℚ_same m.equations (λ i. at dual i *ℚ of_ℤ (c i)) (λ i. of_ℤ (c i) *ℚ at dual i) (λ i l. *ℚ_comm (at dual i) (of_ℤ (c i)))
      ∙ sym (folded-sum m.equations c (at dual) s e)

  price_at : (dual : Sparse) (k j : ℕ) (s : ℚ) → short_column m u k ≡ j → price_fold m u dual k ≡ Some s → combined (rational m) (at dual) j ≡ s
  price_at dual k j s e f = combined_is (λ i. m.coefficient i j) dual s (ap (λ n. folded m.equations (λ i. m.coefficient i n) (at dual)) (sym e) ∙ f)

  plus_price : (cost : ℕ → ℤ) (dual : Sparse) (k : ℕ) → k < u → price_test m u cost dual k ≡ Some true → combined (rational m) (at dual) (k * 2) ≡ of_ℤ (cost (k * 2))
  plus_price cost dual k l e =
      let t : is (price_fold m u dual k) (cost (short_column m u k)) ≡ Some true = subst (λ b. (if b then is (price_fold m u dual k) (cost (short_column m u k)) else is_at_most (price_fold m u dual k) (pos 0)) ≡ Some true) (lt-ltb k u l) e in
      price_at dual k (k * 2) (of_ℤ (cost (short_column m u k))) (short_plus k l) (is_sum (price_fold m u dual k) (cost (short_column m u k)) t) ∙ ap (λ j. of_ℤ (cost j)) (short_plus k l)

  minus_price : (dual : Sparse) (k : ℕ) → k < u → combined (rational m) (at dual) (suc (k * 2)) ≡ neg_ℚ (combined (rational m) (at dual) (k * 2))
  minus_price dual k l =
      sum_ℚ_same m.equations (λ i. at dual i *ℚ of_ℤ (m.coefficient i (suc (k * 2)))) (λ i. neg_ℚ (at dual i *ℚ of_ℤ (m.coefficient i (k * 2))))
      (λ i g. ap (λ z. at dual i *ℚ z) (ap of_ℤ (h.minus i k l) ∙ of_ℤ-neg_ℤ (m.coefficient i (k * 2))) ∙ *ℚ-neg_ℚ (at dual i) (of_ℤ (m.coefficient i (k * 2))))
      ∙ sum_ℚ-neg_ℚ m.equations (λ i. at dual i *ℚ of_ℤ (m.coefficient i (k * 2)))

  times_price : (cost : ℕ → ℤ) (dual : Sparse) (k : ℕ) → price_test m u cost dual (u + k) ≡ Some true → combined (rational m) (at dual) (behind u k) ≤ℚ of_ℤ (pos 0)
  times_price cost dual k e =
      let t : is_at_most (price_fold m u dual (u + k)) (pos 0) ≡ Some true = subst (λ b. (if b then is (price_fold m u dual (u + k)) (cost (short_column m u (u + k))) else is_at_most (price_fold m u dual (u + k)) (pos 0)) ≡ Some true) (le-ltb (u + k) u (omega arith)) e in
      let s = at_most_sum (price_fold m u dual (u + k)) (pos 0) t in
      subst (λ z. z ≤ℚ of_ℤ (pos 0)) (sym (price_at dual (u + k) (behind u k) s.0 (short_times k) s.1)) s.2

  -- each column's price is at most its cost, where minus columns cost minus what plus columns do, and multipliers nothing
  module _ (cost : ℕ → ℤ) (minus_cost : (k : ℕ) → k < u → cost (suc (k * 2)) ≡ neg_ℤ (cost (k * 2))) (free : (j : ℕ) → u * 2 ≤ j → cost j ≡ pos 0) (dual : Sparse)
      (e : (k : ℕ) → k < u + multipliers m u → price_test m u cost dual k ≡ Some true) where
    prices : (j : ℕ) → j < m.columns → combined (rational m) (at dual) j ≤ℚ of_ℤ (cost j)
    prices j l = by (owner u j)
      where
        by : Owner u j → combined (rational m) (at dual) j ≤ℚ of_ℤ (cost j)
        by (first_of k g q) = subst (λ n. combined (rational m) (at dual) n ≤ℚ of_ℤ (cost n)) (sym q) (≤ℚ_same _ _ (plus_price cost dual k g (e k (omega arith))))
        by (second_of k g q) =
            subst (λ n. combined (rational m) (at dual) n ≤ℚ of_ℤ (cost n)) (sym q)
            (≤ℚ_same _ _ (minus_price dual k g ∙ ap neg_ℚ (plus_price cost dual k g (e k (omega arith))) ∙ sym (ap of_ℤ (minus_cost k g) ∙ of_ℤ-neg_ℤ (cost (k * 2)))))
        by (after g) =
            let q : behind u (j - u * 2) ≡ j = let b = behind-is u (j - u * 2) in omega arith in
            let r : u + (j - u * 2) < u + multipliers m u = let b = h.room in omega arith in
            subst (λ z. combined (rational m) (at dual) j ≤ℚ of_ℤ z) (sym (free j g))
            (subst (λ n. combined (rational m) (at dual) n ≤ℚ of_ℤ (pos 0)) q (times_price cost dual (j - u * 2) (e (u + (j - u * 2)) r)))

  -- ---- a threshold
  module _ (t : ℚ) (unknown lambda dual : Sparse)
      (signs : AllHold (map (sign_step m u) lambda.items))
      (equations : (i : ℕ) → i < m.equations → equation_test m u m.right_side unknown lambda i ≡ Some true)
      (priced : (k : ℕ) → k < u + multipliers m u → price_test m u m.cost dual k ≡ Some true)
      (same : t ≡ at unknown 0) (right : right_fold m u dual ≡ Some t) where
    least_cost : IsLeastCost (rational m) t
    least_cost = (
      vector_of unknown lambda,
      solution unknown lambda signs equations,
      cost_is unknown lambda ∙ sym same,
      subst (CostAtLeast (rational m)) (combined_is m.right_side dual t right)
          (weak (rational m) (at dual) (record { prices = prices m.cost (λ k l. h.minus_cost k l) (λ j l. h.multipliers j l) dual priced })),
    )

  -- ---- none
  no_solution : (dual : Sparse) → ((k : ℕ) → k < u + multipliers m u → price_test m u (λ j. pos 0) dual k ≡ Some true)
      → (s : ℚ) → right_fold m u dual ≡ Some s → of_ℤ (pos 0) <ℚ s → (x : ℕ → ℚ) → ¬ IsSolution (rational m) x
  no_solution dual e s f g x = excludes (rational m) (at dual) (record {
    prices = prices (λ j. pos 0) (λ k l. refl) (λ j l. refl) dual e;
    right_side = subst (λ z. of_ℤ (pos 0) <ℚ z) (sym (combined_is m.right_side dual s f)) g;
  }) x

  -- ---- every
  ray_of : (unknown lambda : Sparse) → AllHold (map (sign_step m u) lambda.items) → ((i : ℕ) → i < m.equations → equation_test m u (λ i. pos 0) unknown lambda i ≡ Some true)
      → at unknown 0 <ℚ of_ℤ (pos 0) → IsRay (rational m) (vector_of unknown lambda)
  ray_of unknown lambda g e f = record {
    signs = λ j l. signs_hold unknown lambda g j;
    equations = λ i l. equation_holds (λ i. pos 0) unknown lambda i (e i l);
    falls = subst (λ z. z <ℚ of_ℤ (pos 0)) (sym (cost_is unknown lambda)) f;
  }

-- ---- the steps in order
module _ (m : Linear ℤ) (u : ℕ) (b : Body) (a : AllHold (claim_steps m u b)) where
  after_7 : AllHold (sign_steps m u b ++ (counted 9 0 (equation_tests m u b) ++ (counted 10 0 (price_tests m u b) ++ (counted 11 0 (threshold_tests m u b) ++ (counted 12 0 (ray_tests m u b) ++ counted 13 0 (fall_tests m u b))))))
  after_7 = holds_second (range_steps m u b) _ a

  after_8 : AllHold (counted 9 0 (equation_tests m u b) ++ (counted 10 0 (price_tests m u b) ++ (counted 11 0 (threshold_tests m u b) ++ (counted 12 0 (ray_tests m u b) ++ counted 13 0 (fall_tests m u b)))))
  after_8 = holds_second (sign_steps m u b) _ after_7

  after_9 : AllHold (counted 10 0 (price_tests m u b) ++ (counted 11 0 (threshold_tests m u b) ++ (counted 12 0 (ray_tests m u b) ++ counted 13 0 (fall_tests m u b))))
  after_9 = holds_second (counted 9 0 (equation_tests m u b)) _ after_8

  after_10 : AllHold (counted 11 0 (threshold_tests m u b) ++ (counted 12 0 (ray_tests m u b) ++ counted 13 0 (fall_tests m u b)))
  after_10 = holds_second (counted 10 0 (price_tests m u b)) _ after_9

  after_11 : AllHold (counted 12 0 (ray_tests m u b) ++ counted 13 0 (fall_tests m u b))
  after_11 = holds_second (counted 11 0 (threshold_tests m u b)) _ after_10

  signs_of : AllHold (sign_steps m u b)
  signs_of = holds_first (sign_steps m u b) _ after_7

  equations_of : AllHold (counted 9 0 (equation_tests m u b))
  equations_of = holds_first (counted 9 0 (equation_tests m u b)) _ after_8

  prices_of : AllHold (counted 10 0 (price_tests m u b))
  prices_of = holds_first (counted 10 0 (price_tests m u b)) _ after_9

  threshold_of : AllHold (counted 11 0 (threshold_tests m u b))
  threshold_of = holds_first (counted 11 0 (threshold_tests m u b)) _ after_10

  rays_of : AllHold (counted 12 0 (ray_tests m u b))
  rays_of = holds_first (counted 12 0 (ray_tests m u b)) _ after_11

  fall_of : AllHold (counted 13 0 (fall_tests m u b))
  fall_of = holds_second (counted 12 0 (ray_tests m u b)) _ after_11

pub steps_show : StepsShow
steps_show m u (Threshold t unknown lambda dual) h a =
    let b = Threshold t unknown lambda dual in
    let e = both_parts _ _ (threshold_of m u b a).0 in
    least_cost m u h (value t) unknown lambda dual (signs_of m u b a)
    (numbered 9 m.equations (equation_test m u m.right_side unknown lambda) (equations_of m u b a))
    (numbered 10 (u + multipliers m u) (price_test m u m.cost dual) (prices_of m u b a))
    (same_number (value t) (at unknown 0) e.0) (equal_sum (right_fold m u dual) (value t) e.1)
steps_show m u (Nothing dual) h a =
    let b = Nothing dual in
    let e = positive_sum (right_fold m u dual) (threshold_of m u b a).0 in
    no_solution m u h dual (numbered 10 (u + multipliers m u) (price_test m u (λ j. pos 0) dual) (prices_of m u b a)) e.0 e.1 e.2
steps_show m u (Vacuous unknown lambda ray_unknown ray_lambda) h a =
    let b = Vacuous unknown lambda ray_unknown ray_lambda in
    let s = solution m u h unknown lambda (holds_first (map (sign_step m u) lambda.items) (map (sign_step m u) ray_lambda.items) (signs_of m u b a))
    (numbered 9 m.equations (equation_test m u m.right_side unknown lambda) (equations_of m u b a)) in
    let r = ray_of m u h ray_unknown ray_lambda (holds_second (map (sign_step m u) lambda.items) (map (sign_step m u) ray_lambda.items) (signs_of m u b a))
    (numbered 12 m.equations (equation_test m u (λ i. pos 0) ray_unknown ray_lambda) (rays_of m u b a)) (negative_number (at ray_unknown 0) (fall_of m u b a).0) in
    (vector_of m u h unknown lambda, s, ray (rational m) (vector_of m u h ray_unknown ray_lambda) r)
