-- What the end of a run shows, over any ordered field.
use Rattle.std.proofs.Common.{◌≡◌, ◌≢◌, ℕ, zero, suc, ◌+◌, ◌<◌, ◌≤◌, ◌⊎◌, inl, inr, ◌==◌, Bool, true, false, cond, length, slice_index, Option, Some, None, refl, sym, ◌∙◌, ap, subst, arith, eq-eqb}
use Rattle.std.proofs.lemmas.Bool.{ne_eqb, cases_Bool, cases_eq, cases_lt, eqb-true, lt-ltb, le-ltb, not-true}
use Rattle.dc_math.specs.Field.{Field, sum_to, minus, nonneg, is_negative}
use Rattle.dc_pivots.proofs.Rows.{Rows}
use Rattle.dc_lp.specs.Linear.{Linear}
use Rattle.dc_lp.specs.Tables.{Table, at, right, entering, ratio_row, drive_cell, first_index, signed, start_entry, start_value}
use Rattle.dc_pivots.specs.Runs.{Phase, Two, Ending}
use Rattle.dc_pivots.proofs.Segment.{Has}
use Rattle.dc_pivots.specs.Vectors.{basic_row, entry_or_zero, solution_at, direction_at, multiplier_at, value_of}
use Rattle.dc_pivots.proofs.Certificates.{left_side, combined, combined_right, IsSolution, IsDual, IsRefutation, IsRay, IsBest, Shows, EndsRight}
use Rattle.dc_pivots.proofs.Ties.{IsPriced}
use Rattle.dc_math.specs.FieldSums.{mul_zero, zero_add, neg_back, neg_zero, neg_add, mul_neg, cancel, sum-same, sum-mul, sum-add, sum-swap}
use Rattle.dc_math.specs.FieldOrder.{neg_neg, neg_mul, nonneg_zero, nonneg_one, below-nonzero, zero-times, times-zero, sum-zero, sum-unit}
use Rattle.dc_pivots.proofs.Start.{first_costs, last_costs, entry-artificial, entry-right, value-last}
use Rattle.dc_lp.proofs.Firsts.{index-some, index-none}
use Rattle.dc_lp.proofs.Chosen.{entering-is, entering-none, ratio_row-none, drive-none}
use Rattle.dc_pivots.proofs.Choices.{Stop, none_feasible, finishes, stop, IsTwoEnd}
use Rattle.dc_pivots.proofs.Kept.{Kept, dry-after}
use Rattle.dc_pivots.proofs.PhaseLaws.{basic-costs, different}
use Rattle.dc_pivots.proofs.Whole.{G, C, IsReached, run-is, kept}
use Rattle.dc_pivots.proofs.Opposites.{phase_one-leaves}

module _ (Q : Type 0) (F : Field Q) where
  neg-sum : (k : ℕ) (f : ℕ → Q) → sum_to Q F k (λ i. F.neg (f i)) ≡ F.neg (sum_to Q F k f)
  unfolding sum_to
  neg-sum zero f = sym (neg_zero Q F)
  neg-sum (suc k) f = ap (λ x. F.add x (F.neg (f k))) (neg-sum k f) ∙ sym (neg_add Q F (sum_to Q F k f) (f k))

  -- what stands under the columns b 0 to b (m - 1), gathered by columns
  gathered : (m n : ℕ) (b : ℕ → ℕ) (h f : ℕ → Q) → ((i : ℕ) → i < m → n ≤ b i → h i ≡ F.zero_q)
      → sum_to Q F n (λ k. F.mul (f k) (sum_to Q F m (λ i. cond (b i == k) (h i) F.zero_q))) ≡ sum_to Q F m (λ i. F.mul (f (b i)) (h i))
  gathered m n b h f far =
      sum-same Q F n (λ k. F.mul (f k) (sum_to Q F m (λ i. cond (b i == k) (h i) F.zero_q))) (λ k. sum_to Q F m (λ i. F.mul (cond (b i == k) (h i) F.zero_q) (f k)))
      (λ k l. F.mul_comm (f k) (sum_to Q F m (λ i. cond (b i == k) (h i) F.zero_q)) ∙ sym (sum-mul Q F m (λ i. cond (b i == k) (h i) F.zero_q) (f k)))
      ∙ sum-swap Q F n m (λ k i. F.mul (cond (b i == k) (h i) F.zero_q) (f k))
      ∙ sum-same Q F m (λ i. sum_to Q F n (λ k. F.mul (cond (b i == k) (h i) F.zero_q) (f k))) (λ i. F.mul (f (b i)) (h i))
      (λ i l. elim (cases_lt (b i) n) [
        | inl low ↦ sum-same Q F n (λ k. F.mul (cond (b i == k) (h i) F.zero_q) (f k)) (λ k. F.mul (F.mul (f k) (h i)) (cond (k == b i) F.one F.zero_q)) (λ k lk. one-term k i)
            ∙ sum-unit Q F n (b i) (λ k. F.mul (f k) (h i)) (λ k. cond (k == b i) F.one F.zero_q) low (λ k lk. refl)
        | inr up ↦ sum-zero Q F n (λ k. F.mul (cond (b i == k) (h i) F.zero_q) (f k)) (λ k lk. zero-times Q F (cond (b i == k) (h i) F.zero_q) (f k) (none-term i l up (b i == k)))
            ∙ sym (times-zero Q F (f (b i)) (h i) (far i l up))
      ])
    where
      one-term : (k i : ℕ) → F.mul (cond (b i == k) (h i) F.zero_q) (f k) ≡ F.mul (F.mul (f k) (h i)) (cond (k == b i) F.one F.zero_q)
      one-term k i = elim (cases_eq (b i) k) [
        | inl e ↦ rw (eq-eqb (b i) k e, eq-eqb k (b i) (sym e)) (F.mul_comm (h i) (f k) ∙ sym (F.mul_one (F.mul (f k) (h i))))
        | inr ne ↦ rw (ne_eqb (b i) k ne, ne_eqb k (b i) (λ e. ne (sym e))) (zero-times Q F F.zero_q (f k) refl ∙ sym (mul_zero Q F (F.mul (f k) (h i))))
      ]

      none-term : (i : ℕ) → i < m → n ≤ b i → (x : Bool) → cond x (h i) F.zero_q ≡ F.zero_q
      none-term i l up true = far i l up
      none-term i l up false = refl

  module _ (p : Linear Q) where
    abbrev m : ℕ
    m = p.equations

    abbrev n : ℕ
    n = p.columns

    abbrev R : ℕ
    R = n + m

    abbrev s : Rows Q F m n
    s = start_entry Q F p

    entry-real : (i k : ℕ) → k < n → s i k ≡ signed Q F p i (p.coefficient i k)
    unfolding start_entry
    entry-real i k l = rw (lt-ltb k n l) refl

    -- signs on both sides
    unsigned : (i : ℕ) (x y : Q) → signed Q F p i x ≡ signed Q F p i y → x ≡ y
    unsigned i x y e = elim (cases_Bool (nonneg Q F (p.right_side i))) [
      | inl b ↦ (let f : x ≡ y = rw b at e in f)
      | inr b ↦ (let f : F.neg x ≡ F.neg y = rw b at e in sym (neg_neg Q F x) ∙ ap F.neg f ∙ neg_neg Q F y)
    ]

    signed-zero : (i : ℕ) (x : Q) → signed Q F p i x ≡ F.zero_q → x ≡ F.zero_q
    signed-zero i x e = elim (cases_Bool (nonneg Q F (p.right_side i))) [
      | inl b ↦ (let f : x ≡ F.zero_q = rw b at e in f)
      | inr b ↦ (let f : F.neg x ≡ F.zero_q = rw b at e in sym (neg_neg Q F x) ∙ ap F.neg f ∙ neg_zero Q F)
    ]

    signed-times : (i : ℕ) (x y : Q) → F.mul (signed Q F p i x) y ≡ signed Q F p i (F.mul x y)
    signed-times i x y = elim (cases_Bool (nonneg Q F (p.right_side i))) [ inl b ↦ rw b refl | inr b ↦ rw b (neg_mul Q F x y) ]

    signed-sum : (i k : ℕ) (f : ℕ → Q) → sum_to Q F k (λ x. signed Q F p i (f x)) ≡ signed Q F p i (sum_to Q F k f)
    signed-sum i k f = elim (cases_Bool (nonneg Q F (p.right_side i))) [ inl b ↦ rw b refl | inr b ↦ rw b (neg-sum k f) ]

    left-signed : (i : ℕ) (x : ℕ → Q) → sum_to Q F n (λ k. F.mul (s i k) (x k)) ≡ signed Q F p i (left_side Q F p x i)
    left-signed i x = sum-same Q F n (λ k. F.mul (s i k) (x k)) (λ k. signed Q F p i (F.mul (p.coefficient i k) (x k)))
        (λ k l. ap (λ y. F.mul y (x k)) (entry-real i k l) ∙ signed-times i (p.coefficient i k) (x k))
        ∙ signed-sum i n (λ k. F.mul (p.coefficient i k) (x k))

    -- the multiplier times the equation is minus the entry times the starting row
    signed-product : (i : ℕ) (a x : Q) → F.mul (cond (nonneg Q F (p.right_side i)) (F.neg a) a) x ≡ F.neg (F.mul a (signed Q F p i x))
    signed-product i a x = elim (cases_Bool (nonneg Q F (p.right_side i))) [
      | inl b ↦ rw b (neg_mul Q F a x)
      | inr b ↦ rw b (sym (ap F.neg (mul_neg Q F a x) ∙ neg_neg Q F (F.mul a x)))
    ]

    module _ (phase : Phase) (t : Table Q) (g : Rows Q F m n) (c : ℕ → ℕ) (k : Kept Q F p phase t g c) where
      -- a column of the table, each number at the column that is basic in its row
      by_column : (a j : ℕ) → a < n + m + 1 → entry_or_zero Q F t a (basic_row t j) ≡ sum_to Q F m (λ i. cond (c i == j) (g i a) F.zero_q)
      unfolding basic_row
      by_column a j la = by (first_index (λ i. slice_index t.basis i == j) (length t.basis)) refl
        where
          by : (o : Option ℕ) → first_index (λ i. slice_index t.basis i == j) (length t.basis) ≡ o → entry_or_zero Q F t a o ≡ sum_to Q F m (λ i. cond (c i == j) (g i a) F.zero_q)
          by None e = sym (sum-zero Q F m (λ i. cond (c i == j) (g i a) F.zero_q) (λ i l.
              (let long : length t.basis ≡ m = k.shadow.long in
              let f : (slice_index t.basis i == j) ≡ false = index-none (λ x. slice_index t.basis x == j) (length t.basis) e i (omega arith) in
              rw (ap (λ x. x == j) (sym (k.shadow.basis i l)) ∙ f) refl)))
          by (Some i) e =
              let long : length t.basis ≡ m = k.shadow.long in
              let h = index-some (λ x. slice_index t.basis x == j) (length t.basis) i e in
              let low : i < length t.basis = h.0 in
              let lm : i < m = omega arith in
              let here : c i ≡ j = sym (k.shadow.basis i lm) ∙ eqb-true (slice_index t.basis i) j h.1 in
              k.shadow.entries i a (omega arith) la ∙ sym (
              sum-same Q F m (λ x. cond (c x == j) (g x a) F.zero_q) (λ x. F.mul (g x a) (cond (x == i) F.one F.zero_q)) (λ x lx. elim (cases_eq x i) [
                | inl same ↦ rw (eq-eqb (c x) j (ap c same ∙ here), eq-eqb x i same) (sym (F.mul_one (g x a)))
                | inr ne ↦ rw (ne_eqb (c x) j (λ f. ne (different Q F m n s g c x i lx lm k.tied (f ∙ sym here))), ne_eqb x i ne) (sym (mul_zero Q F (g x a)))
              ])
              ∙ sum-unit Q F m i (λ x. g x a) (λ x. cond (x == i) F.one F.zero_q) lm (λ x lx. refl))

      -- sums over the columns of these numbers
      by_column-sum : (a : ℕ) (f : ℕ → Q) → a < n + m + 1 → ((i : ℕ) → i < m → n ≤ c i → g i a ≡ F.zero_q) → sum_to Q F n (λ j. F.mul (f j) (entry_or_zero Q F t a (basic_row t j))) ≡ sum_to Q F m (λ i. F.mul (f (c i)) (g i a))
      by_column-sum a f la far = sum-same Q F n (λ j. F.mul (f j) (entry_or_zero Q F t a (basic_row t j))) (λ j. F.mul (f j) (sum_to Q F m (λ i. cond (c i == j) (g i a) F.zero_q)))
          (λ j l. ap (F.mul (f j)) (by_column a j la))
          ∙ gathered m n c (λ i. g i a) f far

      row-low : (x i : ℕ) → basic_row t x ≡ Some i → i < m
      unfolding basic_row
      row-low x i e = (let r = index-some (λ y. slice_index t.basis y == x) (length t.basis) i e in let low : i < length t.basis = r.0 in let long : length t.basis ≡ m = k.shadow.long in omega arith)

      right-is : right Q F t ≡ R
      right-is = ap (λ x. x + length t.basis) k.shadow.real ∙ ap (λ x. n + x) k.shadow.long

      solution-is : (j : ℕ) → solution_at Q F t j ≡ entry_or_zero Q F t R (basic_row t j)
      solution-is j = ap (λ x. entry_or_zero Q F t x (basic_row t j)) right-is

      -- they are at least 0 where the column is
      by_column-nonneg : (a : ℕ) → ((i : ℕ) → i < m → nonneg Q F (at Q F t i a) ≡ true) → (j : ℕ) → nonneg Q F (entry_or_zero Q F t a (basic_row t j)) ≡ true
      unfolding basic_row
      by_column-nonneg a h j = by (first_index (λ i. slice_index t.basis i == j) (length t.basis)) refl
        where
          by : (o : Option ℕ) → first_index (λ i. slice_index t.basis i == j) (length t.basis) ≡ o → nonneg Q F (entry_or_zero Q F t a o) ≡ true
          by None e = nonneg_zero Q F
          by (Some i) e = (let long : length t.basis ≡ m = k.shadow.long in let r = index-some (λ x. slice_index t.basis x == j) (length t.basis) i e in let low : i < length t.basis = r.0 in h i (omega arith))

      solves : ((i : ℕ) → i < m → n ≤ c i → g i R ≡ F.zero_q) → IsSolution Q F p (solution_at Q F t)
      solves dry = record {
        equations = λ i l. unsigned i (left_side Q F p (solution_at Q F t) i) (p.right_side i) (
            sym (left-signed i (solution_at Q F t))
            ∙ sum-same Q F n (λ j. F.mul (s i j) (solution_at Q F t j)) (λ j. F.mul (s i j) (entry_or_zero Q F t R (basic_row t j))) (λ j lj. ap (F.mul (s i j)) (solution-is j))
            ∙ by_column-sum R (s i) (omega arith) dry ∙ sym (k.tied.restores i R l) ∙ entry-right Q F p i);
        signs = λ j l. ap (nonneg Q F) (solution-is j) ∙ by_column-nonneg R (λ i li. ap (nonneg Q F) (k.shadow.entries i R (omega arith) (omega arith)) ∙ k.feasible i li) j;
      }

      -- the factors of a cost row are its artificial entries
      factors : (d z w : ℕ → Q) → IsPriced Q F m n s g c d z w → (i : ℕ) → i < m → z (n + i) ≡ F.add (d (n + i)) (w i)
      factors d z w o i l = o.combines (n + i) ∙ ap (F.add (d (n + i))) (sum-unit Q F m i w (λ x. s x (n + i)) l (λ x lx. entry-artificial Q F p x i l ∙ ap (λ b. cond b F.one F.zero_q) (turn x)))
        where
          turn : (x : ℕ) → (i == x) ≡ (x == i)
          turn x = elim (cases_eq i x) [ inl e ↦ eq-eqb i x e ∙ sym (eq-eqb x i (sym e)) | inr ne ↦ ne_eqb i x ne ∙ sym (ne_eqb x i (λ e. ne (sym e))) ]

      -- combinations with the multipliers of cost row a, whose factors are w
      combined-is : (a : ℕ) (w : ℕ → Q) (j : ℕ) → a < m + 2 → ((i : ℕ) → i < m → g a (n + i) ≡ w i) → j < n → combined Q F p (multiplier_at Q F p t a) j ≡ F.neg (sum_to Q F m (λ l. F.mul (w l) (s l j)))
      combined-is a w j la h lj =
          sum-same Q F m (λ i. F.mul (multiplier_at Q F p t a i) (p.coefficient i j)) (λ i. F.neg (F.mul (w i) (s i j)))
          (λ i l. signed-product i (at Q F t a (n + i)) (p.coefficient i j)
          ∙ ap (λ x. F.neg (F.mul x (signed Q F p i (p.coefficient i j)))) (k.shadow.entries a (n + i) la (omega arith) ∙ h i l)
          ∙ ap (λ x. F.neg (F.mul (w i) x)) (sym (entry-real i j lj)))
          ∙ neg-sum m (λ l. F.mul (w l) (s l j))

      combined_right-is : (a : ℕ) (w : ℕ → Q) → a < m + 2 → ((i : ℕ) → i < m → g a (n + i) ≡ w i) → combined_right Q F p (multiplier_at Q F p t a) ≡ F.neg (sum_to Q F m (λ l. F.mul (w l) (s l R)))
      combined_right-is a w la h =
          sum-same Q F m (λ i. F.mul (multiplier_at Q F p t a i) (p.right_side i)) (λ i. F.neg (F.mul (w i) (s i R)))
          (λ i l. signed-product i (at Q F t a (n + i)) (p.right_side i)
          ∙ ap (λ x. F.neg (F.mul x (signed Q F p i (p.right_side i)))) (k.shadow.entries a (n + i) la (omega arith) ∙ h i l)
          ∙ ap (λ x. F.neg (F.mul (w i) x)) (sym (entry-right Q F p i)))
          ∙ neg-sum m (λ l. F.mul (w l) (s l R))

      abbrev w1 : ℕ → Q
      w1 = k.first.0

      abbrev w2 : ℕ → Q
      w2 = k.last.0

      last-factors : (i : ℕ) → i < m → g (m + 1) (n + i) ≡ w2 i
      last-factors i l = factors (last_costs Q F p) (λ x. g (m + 1) x) w2 k.last.1 i l ∙ ap (λ x. F.add x (w2 i)) (value-last Q F p i) ∙ zero_add Q F (w2 i)

      first-factors : (i : ℕ) → i < m → g m (n + i) ≡ w1 i
      first-factors i l = cancel Q F (g m (n + i)) (w1 i) (first_costs Q F p (n + i)) (factors (first_costs Q F p) (λ x. F.add (g m x) (first_costs Q F p x)) w1 k.first.1 i l ∙ F.add_comm (first_costs Q F p (n + i)) (w1 i))

      -- the row of phase one is a combination of the starting rows alone
      first-row : (j : ℕ) → g m j ≡ sum_to Q F m (λ l. F.mul (w1 l) (s l j))
      first-row j = (let total : Q = sum_to Q F m (λ l. F.mul (w1 l) (s l j)) in
          cancel Q F (g m j) total (first_costs Q F p j) (k.first.1.combines j ∙ F.add_comm (first_costs Q F p j) total))

      last_costs-real : (j : ℕ) → j < n → last_costs Q F p j ≡ p.cost j
      unfolding start_value
      last_costs-real j l = (let up : m ≤ m + 1 = omega arith in let ne : m + 1 ≢ m = omega arith in rw (le-ltb (m + 1) m up, ne_eqb (m + 1) m ne, lt-ltb j n l) refl)

      refutes : is_negative Q F (at Q F t (length t.basis) (right Q F t)) ≡ true → ((j : ℕ) → j < n → nonneg Q F (g m j) ≡ true) → IsRefutation Q F p (multiplier_at Q F p t (length t.basis))
      refutes neg all =
          subst (λ a. IsRefutation Q F p (multiplier_at Q F p t a)) (sym k.shadow.long) (record {
            columns = λ j l. ap (λ x. nonneg Q F (F.neg x)) (combined-is m w1 j (omega arith) first-factors l ∙ ap F.neg (sym (first-row j))) ∙ ap (nonneg Q F) (neg_neg Q F (g m j)) ∙ all j l;
            right_side = ap (λ x. nonneg Q F (F.neg x)) (combined_right-is m w1 (omega arith) first-factors ∙ ap F.neg (sym (first-row R))) ∙ ap (nonneg Q F) (neg_neg Q F (g m R)
                ∙ sym (k.shadow.entries m R (omega arith) (omega arith)) ∙ ap (at Q F t m) (sym right-is) ∙ ap (λ x. at Q F t x (right Q F t)) (sym k.shadow.long)) ∙ not-true (nonneg Q F (at Q F t (length t.basis) (right Q F t))) neg;
          })

      last-right : last_costs Q F p R ≡ F.zero_q
      last-right = value-last Q F p m

      value-is : value_of Q F t ≡ F.neg (g (m + 1) R)
      value-is = ap F.neg (ap (λ x. at Q F t (x + 1) (right Q F t)) k.shadow.long ∙ ap (at Q F t (m + 1)) right-is ∙ k.shadow.entries (m + 1) R (omega arith) (omega arith))

      -- x + y = 0 gives y = -x
      opposite : (x y : Q) → F.add x y ≡ F.zero_q → y ≡ F.neg x
      opposite x y e = cancel Q F y (F.neg x) x (F.add_comm y x ∙ e ∙ sym (neg_back Q F x))

      costs-sum : (a : ℕ) → a < n + m + 1 → ((i : ℕ) → i < m → n ≤ c i → g i a ≡ F.zero_q) → F.add (g (m + 1) a) (sum_to Q F n (λ j. F.mul (p.cost j) (entry_or_zero Q F t a (basic_row t j)))) ≡ last_costs Q F p a
      costs-sum a la far = ap (F.add (g (m + 1) a)) (
          sum-same Q F n (λ j. F.mul (p.cost j) (entry_or_zero Q F t a (basic_row t j))) (λ j. F.mul (last_costs Q F p j) (entry_or_zero Q F t a (basic_row t j))) (λ j l. ap (λ x. F.mul x (entry_or_zero Q F t a (basic_row t j))) (sym (last_costs-real j l)))
          ∙ by_column-sum a (last_costs Q F p) la far)
          ∙ k.last.1.prices a

      best : ((i : ℕ) → i < m → n ≤ c i → g i R ≡ F.zero_q) → ((j : ℕ) → j < n → nonneg Q F (g (m + 1) j) ≡ true) → IsBest Q F p t
      best dry all =
          let long : length t.basis ≡ m = k.shadow.long in
          record {
            solution = solves dry;
            dual = subst (λ a. IsDual Q F p (multiplier_at Q F p t (a + 1))) (sym long) (record {
              prices = λ j l. (let total : Q = sum_to Q F m (λ l. F.mul (w2 l) (s l j)) in
                  ap (λ x. nonneg Q F (minus Q F (p.cost j) x)) (combined-is (m + 1) w2 j (omega arith) last-factors l)
                  ∙ ap (nonneg Q F) (ap (F.add (p.cost j)) (neg_neg Q F total) ∙ ap (λ x. F.add x total) (sym (last_costs-real j l)) ∙ sym (k.last.1.combines j)) ∙ all j l);
            });
            cost = sum-same Q F n (λ j. F.mul (p.cost j) (solution_at Q F t j)) (λ j. F.mul (p.cost j) (entry_or_zero Q F t R (basic_row t j))) (λ j l. ap (F.mul (p.cost j)) (solution-is j))
                ∙ opposite (g (m + 1) R) (sum_to Q F n (λ j. F.mul (p.cost j) (entry_or_zero Q F t R (basic_row t j)))) (costs-sum R (omega arith) dry ∙ last-right)
                ∙ sym value-is;
            price = subst (λ a. combined_right Q F p (multiplier_at Q F p t (a + 1)) ≡ value_of Q F t) (sym long) (
                combined_right-is (m + 1) w2 (omega arith) last-factors
                ∙ ap F.neg (sym (k.last.1.combines R ∙ ap (λ x. F.add x (sum_to Q F m (λ l. F.mul (w2 l) (s l R)))) last-right ∙ zero_add Q F (sum_to Q F m (λ l. F.mul (w2 l) (s l R)))))
                ∙ sym value-is);
          }

      -- sums along the way of column j
      module _ (j : ℕ) (lj : j < n) (new : Has c m j → ⊥) (clear : (i : ℕ) → i < m → n ≤ c i → g i j ≡ F.zero_q) where
        abbrev step : ℕ → Q
        step x = entry_or_zero Q F t j (basic_row t x)

        step-here : step j ≡ F.zero_q
        step-here = by_column j j (omega arith) ∙ sum-zero Q F m (λ i. cond (c i == j) (g i j) F.zero_q) (λ i l. rw (ne_eqb (c i) j (λ e. new (i, l, e))) refl)

        direction-is : (x : ℕ) → direction_at Q F t j x ≡ F.add (cond (x == j) F.one F.zero_q) (F.neg (step x))
        direction-is x = elim (cases_eq x j) [
          | inl e ↦ rw (eq-eqb x j e) (sym (ap (λ y. F.add F.one (F.neg y)) (ap step e ∙ step-here) ∙ ap (F.add F.one) (neg_zero Q F) ∙ F.add_zero F.one))
          | inr ne ↦ rw (ne_eqb x j ne) (sym (zero_add Q F (F.neg (step x))))
        ]

        along : (f : ℕ → Q) → sum_to Q F n (λ x. F.mul (f x) (direction_at Q F t j x)) ≡ minus Q F (f j) (sum_to Q F n (λ x. F.mul (f x) (step x)))
        along f =
            sum-same Q F n (λ x. F.mul (f x) (direction_at Q F t j x)) (λ x. F.add (F.mul (f x) (cond (x == j) F.one F.zero_q)) (F.neg (F.mul (f x) (step x))))
            (λ x l. ap (F.mul (f x)) (direction-is x) ∙ F.mul_add (f x) (cond (x == j) F.one F.zero_q) (F.neg (step x)) ∙ ap (F.add (F.mul (f x) (cond (x == j) F.one F.zero_q))) (mul_neg Q F (f x) (step x)))
            ∙ sum-add Q F n (λ x. F.mul (f x) (cond (x == j) F.one F.zero_q)) (λ x. F.neg (F.mul (f x) (step x)))
            ∙ ap (λ y. F.add y (sum_to Q F n (λ x. F.neg (F.mul (f x) (step x))))) (sum-unit Q F n j f (λ x. cond (x == j) F.one F.zero_q) lj (λ x l. refl))
            ∙ ap (F.add (f j)) (neg-sum n (λ x. F.mul (f x) (step x)))

        falls-along : nonneg Q F (g (m + 1) j) ≡ false → ((i : ℕ) → i < m → nonneg Q F (F.neg (at Q F t i j)) ≡ true) → IsRay Q F p (direction_at Q F t j)
        falls-along down under = record {
          equations = λ i l. signed-zero i (left_side Q F p (direction_at Q F t j) i) (
              sym (left-signed i (direction_at Q F t j)) ∙ along (s i)
              ∙ ap (minus Q F (s i j)) (by_column-sum j (s i) (omega arith) clear ∙ sym (k.tied.restores i j l)) ∙ F.add_neg (s i j));
          signs = λ x l. elim (cases_eq x j) [
            | inl e ↦ rw (eq-eqb x j e) (nonneg_one Q F)
            | inr ne ↦ rw (ne_eqb x j ne) (neg-nonneg x)
          ];
          falls = ap (nonneg Q F) (along p.cost ∙ back) ∙ down;
        }
          where
            neg-nonneg : (x : ℕ) → nonneg Q F (F.neg (step x)) ≡ true
            neg-nonneg x = by (basic_row t x) refl
              where
                by : (o : Option ℕ) → basic_row t x ≡ o → nonneg Q F (F.neg (entry_or_zero Q F t j o)) ≡ true
                by None e = ap (nonneg Q F) (neg_zero Q F) ∙ nonneg_zero Q F
                by (Some i) e = under i (row-low x i e)

            back : minus Q F (p.cost j) (sum_to Q F n (λ x. F.mul (p.cost x) (step x))) ≡ g (m + 1) j
            back = (let total : Q = sum_to Q F n (λ x. F.mul (p.cost x) (step x)) in
                ap (λ y. minus Q F y total) (sym (costs-sum j (omega arith) clear ∙ last_costs-real j lj)) ∙ F.add_assoc (g (m + 1) j) total (F.neg total) ∙ ap (F.add (g (m + 1) j)) (F.add_neg total) ∙ F.add_zero (g (m + 1) j))

      ends-two : (e : Ending) → ((i : ℕ) → i < m → n ≤ c i → g i R ≡ F.zero_q) → ((i : ℕ) → i < m → n ≤ c i → (x : ℕ) → x < n → g i x ≡ F.zero_q) → IsTwoEnd Q F t e → Shows Q F p t e
      ends-two e dry clear (inl o) =
          let real : t.real ≡ n = k.shadow.real in
          subst (Shows Q F p t) (sym o.0) (best dry (λ j l. ap (nonneg Q F) (sym (ap (λ x. at Q F t (x + 1) j) k.shadow.long ∙ k.shadow.entries (m + 1) j (omega arith) (omega arith))) ∙ entering-none Q F t (length t.basis + 1) o.1 j (omega arith)))
      ends-two e dry clear (inr (j, o, f, r)) =
          let real : t.real ≡ n = k.shadow.real in
          let long : length t.basis ≡ m = k.shadow.long in
          let x = entering-is Q F t (length t.basis + 1) j f in
          let lt : j < t.real = x.0 in
          let lj : j < n = omega arith in
          let down : nonneg Q F (g (m + 1) j) ≡ false = ap (nonneg Q F) (sym (ap (λ y. at Q F t (y + 1) j) k.shadow.long ∙ k.shadow.entries (m + 1) j (omega arith) (omega arith))) ∙ x.1 in
          let new : Has c m j → ⊥ = (λ h. below-nonzero Q F (g (m + 1) j) down (ap (g (m + 1)) (sym h.2) ∙ basic-costs Q F m n s g c (last_costs Q F p) (λ y. g (m + 1) y) w2 h.0 h.1 k.tied k.last.1)) in
          subst (Shows Q F p t) (sym o) (record {
            solution = solves dry;
            ray = falls-along j lj new (λ i li up. clear i li up j lj) down (λ i li. ratio_row-none Q F t j r i (omega arith));
          })

    ends-right : (phase : Phase) (t : Table Q) (g : Rows Q F m n) (c : ℕ → ℕ) (e : Ending) → Kept Q F p phase t g c → ((j : ℕ) → entering Q F t (length t.basis) ≡ Some j → ratio_row Q F t j ≢ None) → Stop Q F t phase e → Shows Q F p t e
    ends-right phase t g c e k leaves (none_feasible neg (inl f)) =
        let real : t.real ≡ n = k.shadow.real in
        refutes phase t g c k neg (λ j l. ap (nonneg Q F) (sym (ap (λ x. at Q F t x j) k.shadow.long ∙ k.shadow.entries m j (omega arith) (omega arith))) ∙ entering-none Q F t (length t.basis) f j (omega arith))
    ends-right phase t g c e k leaves (none_feasible neg (inr (j, f, r))) = absurd (leaves j f r)
    ends-right phase t g c e k leaves (finishes y z o) = ends-two phase t g c k e (dry-after Q F p phase t g c k y) (clear-end z) o
      where
        clear-end : (phase ≡ Two) ⊎ (drive_cell Q F t ≡ None) → (i : ℕ) → i < m → n ≤ c i → (x : ℕ) → x < n → g i x ≡ F.zero_q
        clear-end (inl two) i li up x lx = k.clear two i li up x lx
        clear-end (inr d) i li up x lx =
            let long : length t.basis ≡ m = k.shadow.long in
            let real : t.real ≡ n = k.shadow.real in
            let b : slice_index t.basis i ≡ c i = k.shadow.basis i li in
            sym (k.shadow.entries i x (omega arith) (omega arith)) ∙ drive-none Q F t d i (omega arith) (omega arith) x (omega arith)

    -- Each end of a run is justified.
    pub ends_right : EndsRight Q F p
    ends_right x a e f d =
        let r : IsReached Q F p x a = run-is Q F p x a f in
        let k : Kept Q F p a.phase a.table (G Q F p x) (C Q F p x) = subst (λ z. Kept Q F p z.phase z.table (G Q F p x) (C Q F p x)) (sym r.here) (kept Q F p x r.pivots x (omega arith)) in
        ends-right a.phase a.table (G Q F p x) (C Q F p x) e k (λ j g. phase_one-leaves Q F p x a j f g) (stop Q F a.phase a.table e d)
