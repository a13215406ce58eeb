-- The first tableau, as functions.
use Rattle.std.proofs.Common.{◌≡◌, ◌≢◌, ℕ, zero, suc, ◌+◌, ◌<◌, ◌≤◌, inl, inr, ◌==◌, true, cond, nat_lt, refl, sym, ◌∙◌, ap, arith, eq-eqb}
use Rattle.std.proofs.lemmas.Bool.{ne_eqb, cases_Bool, cases_eq, lt-ltb, le-ltb}
use Rattle.dc_math.specs.Field.{Field, sum_to, minus, nonneg}
use Rattle.dc_lp.specs.Linear.{Linear}
use Rattle.dc_lp.specs.Tables.{signed, start_entry, start_value, minus_sum}
use Rattle.dc_pivots.proofs.Ties.{IsTied, IsPriced}
use Rattle.dc_math.specs.FieldSums.{neg_back, neg_zero, neg_add, mul_neg, sum-same, sum-mul}
use Rattle.dc_math.specs.FieldOrder.{nonneg_zero, nonneg_one, zero-times, sum-zero, sum-unit}

module _ (Q : Type 0) (F : Field Q) (p : Linear Q) where
  abbrev m : ℕ
  m = p.equations

  abbrev n : ℕ
  n = p.columns

  unit-one : (i l : ℕ) → (n + l == n + i) ≡ (l == i)
  unit-one i l = elim (cases_eq l i) [
    | inl e ↦ (let f : n + l ≡ n + i = omega arith in eq-eqb (n + l) (n + i) f ∙ sym (eq-eqb l i e))
    | inr ne ↦ (let f : n + l ≢ n + i = omega arith in ne_eqb (n + l) (n + i) f ∙ sym (ne_eqb l i ne))
  ]

  turn : (i l : ℕ) → (l == i) ≡ (i == l)
  turn i l = elim (cases_eq l i) [
    | inl e ↦ eq-eqb l i e ∙ sym (eq-eqb i l (sym e))
    | inr ne ↦ ne_eqb l i ne ∙ sym (ne_eqb i l (λ e. ne (sym e)))
  ]

  pub entry-artificial : (i l : ℕ) → l < m → start_entry Q F p i (n + l) ≡ cond (l == i) F.one F.zero_q
  unfolding start_entry
  entry-artificial i l lt = (let up : n ≤ n + l = omega arith in let low : n + l < n + m = omega arith in
      rw (le-ltb (n + l) n up, lt-ltb (n + l) (n + m) low) (ap (λ b. cond b F.one F.zero_q) (unit-one i l)))

  pub entry-right : (i : ℕ) → start_entry Q F p i (n + m) ≡ signed Q F p i (p.right_side i)
  unfolding start_entry
  entry-right i = (let up : n ≤ n + m = omega arith in let same : n + m ≤ n + m = omega arith in
      rw (le-ltb (n + m) n up, le-ltb (n + m) (n + m) same) refl)

  pub value-row : (i k : ℕ) → i < m → start_value Q F p i k ≡ start_entry Q F p i k
  unfolding start_value
  value-row i k l = rw (lt-ltb i m l) refl

  pub value-first : (k : ℕ) → start_value Q F p m k ≡ minus_sum Q F p k m
  unfolding start_value
  value-first k = (let same : m ≤ m = omega arith in rw (le-ltb m m same, eq-eqb m m refl) refl)

  pub value-last : (l : ℕ) → start_value Q F p (m + 1) (n + l) ≡ F.zero_q
  unfolding start_value
  value-last l = (let up : m ≤ m + 1 = omega arith in let ne : m + 1 ≢ m = omega arith in let far : n ≤ n + l = omega arith in
      rw (le-ltb (m + 1) m up, ne_eqb (m + 1) m ne, le-ltb (n + l) n far) refl)

  minus_sum-is : (k x : ℕ) → minus_sum Q F p k x ≡ F.neg (sum_to Q F x (λ i. start_entry Q F p i k))
  unfolding minus_sum sum_to
  minus_sum-is k zero = sym (neg_zero Q F)
  minus_sum-is k (suc x) = ap (λ w. minus Q F w (start_entry Q F p x k)) (minus_sum-is k x) ∙ sym (neg_add Q F (sum_to Q F x (λ i. start_entry Q F p i k)) (start_entry Q F p x k))

  abbrev pub start_basis : ℕ → ℕ
  start_basis i = n + i

  pub tied-start : IsTied Q F m n (start_entry Q F p) (start_value Q F p) start_basis
  tied-start = record {
    combines = λ i k l. value-row i k l ∙ sym (
        sum-same Q F m (λ x. F.mul (start_value Q F p i (n + x)) (start_entry Q F p x k)) (λ x. F.mul (start_entry Q F p x k) (start_value Q F p i (n + x)))
        (λ x lx. F.mul_comm (start_value Q F p i (n + x)) (start_entry Q F p x k))
        ∙ sum-unit Q F m i (λ x. start_entry Q F p x k) (λ x. start_value Q F p i (n + x)) l (λ x lx. value-row i (n + x) l ∙ entry-artificial i x lx));
    restores = λ l k ll. sym (
        sum-same Q F m (λ i. F.mul (start_entry Q F p l (n + i)) (start_value Q F p i k)) (λ i. F.mul (start_value Q F p i k) (start_entry Q F p l (n + i)))
        (λ i li. F.mul_comm (start_entry Q F p l (n + i)) (start_value Q F p i k))
        ∙ sum-unit Q F m l (λ i. start_value Q F p i k) (λ i. start_entry Q F p l (n + i)) ll (λ i li. entry-artificial l i li)
        ∙ value-row l k ll);
    units = λ i h li lh. value-row i (n + h) li ∙ entry-artificial i h lh ∙ ap (λ b. cond b F.one F.zero_q) (turn i h);
  }

  -- the costs of phase one: 1 in artificial columns
  unfoldable pub first_costs : ℕ → Q
  first_costs k = cond (nat_lt k n) F.zero_q (cond (nat_lt k (n + m)) F.one F.zero_q)

  pub first_costs-real : (k : ℕ) → k < n → first_costs k ≡ F.zero_q
  unfolding first_costs
  first_costs-real k l = rw (lt-ltb k n l) refl

  pub first_costs-artificial : (k : ℕ) → n ≤ k → k < n + m → first_costs k ≡ F.one
  unfolding first_costs
  first_costs-artificial k up l = rw (le-ltb k n up, lt-ltb k (n + m) l) refl

  pub first_costs-right : first_costs (n + m) ≡ F.zero_q
  unfolding first_costs
  first_costs-right = (let up : n ≤ n + m = omega arith in let same : n + m ≤ n + m = omega arith in rw (le-ltb (n + m) n up, le-ltb (n + m) (n + m) same) refl)

  pub first_costs-nonneg : (k : ℕ) → nonneg Q F (first_costs k) ≡ true
  unfolding first_costs
  first_costs-nonneg k = elim (cases_Bool (nat_lt k n)) [
    | inl b ↦ rw b (nonneg_zero Q F)
    | inr b ↦ elim (cases_Bool (nat_lt k (n + m))) [ inl e ↦ rw (b, e) (nonneg_one Q F) | inr e ↦ rw (b, e) (nonneg_zero Q F) ]
  ]

  sum-minus_one : (f : ℕ → Q) → sum_to Q F m (λ l. F.mul (F.neg F.one) (f l)) ≡ F.neg (sum_to Q F m f)
  sum-minus_one f = sum-same Q F m (λ l. F.mul (F.neg F.one) (f l)) (λ l. F.mul (f l) (F.neg F.one)) (λ l ll. F.mul_comm (F.neg F.one) (f l))
      ∙ sum-mul Q F m f (F.neg F.one) ∙ mul_neg Q F (sum_to Q F m f) F.one ∙ ap F.neg (F.mul_one (sum_to Q F m f))

  -- the costs of phase one at the start, and those of phase two
  pub priced-first : IsPriced Q F m n (start_entry Q F p) (start_value Q F p) start_basis first_costs (λ k. F.add (start_value Q F p m k) (first_costs k)) (λ l. F.neg F.one)
  priced-first = record {
    combines = λ k. F.add_comm (start_value Q F p m k) (first_costs k)
        ∙ ap (F.add (first_costs k)) (value-first k ∙ minus_sum-is k m ∙ sym (sum-minus_one (λ l. start_entry Q F p l k)));
    prices = λ k. (let total : Q = sum_to Q F m (λ i. start_entry Q F p i k) in
        ap (F.add (F.add (start_value Q F p m k) (first_costs k))) (sum-same Q F m (λ i. F.mul (first_costs (n + i)) (start_value Q F p i k)) (λ i. start_entry Q F p i k)
        (λ i l. ap (λ x. F.mul x (start_value Q F p i k)) (first_costs-artificial (n + i) (omega arith) (omega arith)) ∙ F.mul_comm F.one (start_value Q F p i k) ∙ F.mul_one (start_value Q F p i k) ∙ value-row i k l))
        ∙ ap (λ x. F.add (F.add x (first_costs k)) total) (value-first k ∙ minus_sum-is k m)
        ∙ ap (λ x. F.add x total) (F.add_comm (F.neg total) (first_costs k)) ∙ F.add_assoc (first_costs k) (F.neg total) total
        ∙ ap (F.add (first_costs k)) (neg_back Q F total) ∙ F.add_zero (first_costs k));
  }

  abbrev pub last_costs : ℕ → Q
  last_costs k = start_value Q F p (m + 1) k

  pub priced-last : IsPriced Q F m n (start_entry Q F p) (start_value Q F p) start_basis last_costs (λ k. start_value Q F p (m + 1) k) (λ l. F.zero_q)
  priced-last = record {
    combines = λ k. sym (ap (F.add (last_costs k)) (sum-zero Q F m (λ l. F.mul F.zero_q (start_entry Q F p l k)) (λ l ll. zero-times Q F F.zero_q (start_entry Q F p l k) refl)) ∙ F.add_zero (last_costs k));
    prices = λ k. ap (F.add (last_costs k)) (sum-zero Q F m (λ i. F.mul (last_costs (n + i)) (start_value Q F p i k)) (λ i l. zero-times Q F (last_costs (n + i)) (start_value Q F p i k) (value-last i))) ∙ F.add_zero (last_costs k);
  }

  pub feasible-start : (i : ℕ) → i < m → nonneg Q F (start_value Q F p i (n + m)) ≡ true
  feasible-start i l = ap (nonneg Q F) (value-row i (n + m) l ∙ entry-right i) ∙ elim (cases_Bool (nonneg Q F (p.right_side i))) [
    | inl b ↦ rw b b
    | inr b ↦ rw b (F.nonneg_neg (p.right_side i) b)
  ]
