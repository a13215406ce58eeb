-- What each pivot of the run keeps.
use Rattle.std.proofs.Common.{◌≡◌, ◌≢◌, ℕ, zero, suc, ◌+◌, ◌<◌, ◌≤◌, ◌⊎◌, inl, inr, ◌==◌, true, false, [], length, slice_index, slice_index_or, Some, refl, sym, ◌∙◌, ap, subst, arith, length-set}
use Rattle.std.proofs.lemmas.Bool.{cases_Bool, cases_eq, not-false}
use Rattle.std.proofs.lemmas.List.FromFn.{get_or-map-range_with_len, length-map-range_with_len}
use Rattle.std.proofs.lemmas.List.{get_or-set_other}
use Rattle.std.proofs.lemmas.Grind.{get_or-set_at}
use Rattle.dc_math.specs.Field.{Field, sum_to, minus, nonneg, is_negative, is_zero}
use Rattle.dc_pivots.proofs.Rows.{Rows, pivot_at, basis_at}
use Rattle.dc_lp.specs.Linear.{Linear}
use Rattle.dc_lp.specs.Tables.{Table, at, right, ratio_of, entering, ratio_row, drive_cell, start, start_entry, start_value, pivoted, pivoted_entry}
use Rattle.dc_pivots.specs.Runs.{Phase, One, Drive, Two}
use Rattle.dc_pivots.proofs.Segment.{ratio, IsStep}
use Rattle.dc_pivots.proofs.Ties.{IsTied, IsPriced, pivot-row, pivot-other, basis-row, basis-other, IsTied-pivot, IsPriced-pivot}
use Rattle.dc_math.specs.FieldSums.{inverse-back, zero_add, neg_back, neg_add, mul_neg}
use Rattle.dc_math.specs.FieldOrder.{nonneg_zero, neg_mul, above-nonneg, above-nonzero, inverse-nonneg, zero-times, times-zero, minus_nothing}
use Rattle.dc_pivots.proofs.Start.{first_costs, last_costs, first_costs-real, first_costs-artificial, first_costs-right, first_costs-nonneg, tied-start, priced-first, priced-last, feasible-start, start_basis}
use Rattle.dc_lp.proofs.Chosen.{entering-is, Leads, IsBest, ratio_row-is, IsDrive, drive-is, drive-none, zero-is}
use Rattle.dc_pivots.proofs.Choices.{Move, stays_one, ends_one, drives, begins_two, stays_two}

pub phase-cases : (q : Phase) → (q ≡ One) ⊎ ((q ≡ Drive) ⊎ (q ≡ Two))
phase-cases One = inl refl
phase-cases Drive = inr (inl refl)
phase-cases Two = inr (inr refl)

module _ (Q : Type 0) (F : Field Q) where
  -- sums of numbers that are at least 0
  sum-nonneg : (k : ℕ) (f : ℕ → Q) → ((i : ℕ) → i < k → nonneg Q F (f i) ≡ true) → nonneg Q F (sum_to Q F k f) ≡ true
  unfolding sum_to
  sum-nonneg zero f h = nonneg_zero Q F
  sum-nonneg (suc k) f h = F.nonneg_add (sum_to Q F k f) (f k) (sum-nonneg k f (λ i l. h i (omega arith))) (h k (omega arith))

  less-left : (x y : Q) → F.add (F.neg (F.add x y)) x ≡ F.neg y
  less-left x y = ap (λ w. F.add w x) (neg_add Q F x y ∙ F.add_comm (F.neg x) (F.neg y)) ∙ F.add_assoc (F.neg y) (F.neg x) x ∙ ap (F.add (F.neg y)) (neg_back Q F x) ∙ F.add_zero (F.neg y)

  less-right : (x y : Q) → F.add (F.neg (F.add x y)) y ≡ F.neg x
  less-right x y = ap (λ w. F.add w y) (neg_add Q F x y) ∙ F.add_assoc (F.neg x) (F.neg y) y ∙ ap (F.add (F.neg x)) (neg_back Q F y) ∙ F.add_zero (F.neg x)

  sum-none_over : (k : ℕ) (f : ℕ → Q) → ((i : ℕ) → i < k → nonneg Q F (f i) ≡ true) → nonneg Q F (F.neg (sum_to Q F k f)) ≡ true → (i : ℕ) → i < k → f i ≡ F.zero_q
  unfolding sum_to
  sum-none_over zero f h e i l = absurd (omega arith)
  sum-none_over (suc k) f h e i l =
      let rest : nonneg Q F (sum_to Q F k f) ≡ true = sum-nonneg k f (λ x lx. h x (omega arith)) in
      elim (cases_eq i k) [
        | inl same ↦ ap f same ∙ F.nonneg_both (f k) (h k (omega arith)) (ap (nonneg Q F) (sym (less-left (sum_to Q F k f) (f k))) ∙ F.nonneg_add (F.neg (F.add (sum_to Q F k f) (f k))) (sum_to Q F k f) e rest)
        | inr ne ↦ sum-none_over k f (λ x lx. h x (omega arith)) (ap (nonneg Q F) (sym (less-right (sum_to Q F k f) (f k))) ∙ F.nonneg_add (F.neg (F.add (sum_to Q F k f) (f k))) (f k) e (h k (omega arith))) i (omega arith)
      ]

  mul-minus : (g x y : Q) → F.mul g (minus Q F x y) ≡ minus Q F (F.mul g x) (F.mul g y)
  mul-minus g x y = F.mul_add g x (F.neg y) ∙ ap (F.add (F.mul g x)) (mul_neg Q F g y)

  -- (a + d) - (b + 0) * c = (a - b * c) + d
  pub shift-costs : (a d b e c : Q) → e ≡ F.zero_q → minus Q F (F.add a d) (F.mul (F.add b e) c) ≡ F.add (minus Q F a (F.mul b c)) d
  shift-costs a d b e c z =
      ap (λ x. minus Q F (F.add a d) (F.mul x c)) (ap (F.add b) z ∙ F.add_zero b)
      ∙ F.add_assoc a d (F.neg (F.mul b c)) ∙ ap (F.add a) (F.add_comm d (F.neg (F.mul b c))) ∙ sym (F.add_assoc a (F.neg (F.mul b c)) d)

  module _ (p : Linear Q) where
    abbrev m : ℕ
    m = p.equations

    abbrev n : ℕ
    n = p.columns

    abbrev R : ℕ
    R = n + m

    abbrev s : Rows Q F m n
    s = start_entry Q F p

    -- the table has these rows and this basis
    pub record IsShadow (t : Table Q) (g : Rows Q F m n) (c : ℕ → ℕ) : Type 0 where
      pub real : t.real ≡ n
      pub long : length t.basis ≡ m
      pub entries : (i k : ℕ) → i < m + 2 → k < n + m + 1 → at Q F t i k ≡ g i k
      pub basis : (i : ℕ) → i < m → slice_index t.basis i ≡ c i

    pub record Kept (phase : Phase) (t : Table Q) (g : Rows Q F m n) (c : ℕ → ℕ) : Type 0 where
      pub shadow : IsShadow t g c
      pub tied : IsTied Q F m n s g c
      pub first : (w : ℕ → Q) × IsPriced Q F m n s g c (first_costs Q F p) (λ k. F.add (g m k) (first_costs Q F p k)) w
      pub last : (w : ℕ → Q) × IsPriced Q F m n s g c (last_costs Q F p) (λ k. g (m + 1) k) w
      pub feasible : (i : ℕ) → i < m → nonneg Q F (g i R) ≡ true
      pub range : (i : ℕ) → i < m → c i < n + m
      pub dry : phase ≢ One → (i : ℕ) → i < m → n ≤ c i → g i R ≡ F.zero_q
      pub clear : phase ≡ Two → (i : ℕ) → i < m → n ≤ c i → (k : ℕ) → k < n → g i k ≡ F.zero_q

    -- The start.

    start-entries : (i k : ℕ) → i < m + 2 → k < n + m + 1 → at Q F (start Q F p) i k ≡ start_value Q F p i k
    unfolding start
    start-entries i k li lk =
        ap (λ r. slice_index_or r k F.zero_q) (get_or-map-range_with_len _ 0 (m + 2) i i [] li (omega arith))
        ∙ get_or-map-range_with_len _ 0 (n + m + 1) k k F.zero_q lk (omega arith)

    start-shadow : IsShadow (start Q F p) (start_value Q F p) (start_basis Q F p)
    unfolding start
    start-shadow = record {
      real = refl;
      long = length-map-range_with_len _ 0 m;
      entries = start-entries;
      basis = λ i l. get_or-map-range_with_len _ 0 m i i 0 l (omega arith);
    }

    pub Kept-start : Kept One (start Q F p) (start_value Q F p) (start_basis Q F p)
    Kept-start = record {
      shadow = start-shadow;
      tied = tied-start Q F p;
      first = (λ l. F.neg F.one, priced-first Q F p);
      last = (λ l. F.zero_q, priced-last Q F p);
      feasible = feasible-start Q F p;
      range = λ i l. omega arith;
      dry = λ ne. absurd (ne refl);
      clear = λ e. absurd (cc);
    }

    -- A pivot.

    pub record IsCell (g : Rows Q F m n) (r j : ℕ) : Type 0 where
      pub row : r < m
      pub column : j < n
      pub nonzero : g r j ≢ F.zero_q

    module _ (t : Table Q) (g : Rows Q F m n) (c : ℕ → ℕ) (h : IsShadow t g c) (r j : ℕ) (at_cell : IsCell g r j) where
      new-entry : (i k : ℕ) → i < m + 2 → k < n + m + 1 → pivoted_entry Q F t r j i k ≡ pivot_at Q F m n g r j i k
      unfolding pivot_at
      new-entry i k li lk =
          let lr : r < m = at_cell.row in
          let lj : j < n = at_cell.column in
          let rk : at Q F t r k ≡ g r k = h.entries r k (omega arith) lk in
          let rj : at Q F t r j ≡ g r j = h.entries r j (omega arith) (omega arith) in
          let ik : at Q F t i k ≡ g i k = h.entries i k li lk in
          let ij : at Q F t i j ≡ g i j = h.entries i j li (omega arith) in
          let divided : F.mul (at Q F t r k) (F.inverse (at Q F t r j)) ≡ F.mul (g r k) (F.inverse (g r j)) = ap (λ x. F.mul x (F.inverse (at Q F t r j))) rk ∙ ap (λ x. F.mul (g r k) (F.inverse x)) rj in
          elim (cases_Bool (i == r)) [
            | inl b ↦ rw b divided
            | inr b ↦ elim (cases_Bool (is_zero Q F (at Q F t i j))) [
              | inl z ↦ rw (b, z) (ik ∙ sym (minus_nothing Q F (g i k) (F.mul (g i j) (F.mul (g r k) (F.inverse (g r j)))) (zero-times Q F (g i j) (F.mul (g r k) (F.inverse (g r j))) (sym ij ∙ zero-is Q F (at Q F t i j) z))))
              | inr z ↦ rw (b, z) (ap (λ x. minus Q F x (F.mul (at Q F t i j) (F.mul (at Q F t r k) (F.inverse (at Q F t r j))))) ik
                  ∙ ap (λ x. minus Q F (g i k) (F.mul x (F.mul (at Q F t r k) (F.inverse (at Q F t r j))))) ij ∙ ap (λ x. minus Q F (g i k) (F.mul (g i j) x)) divided)
            ]
          ]

      new-entries : (i k : ℕ) → i < m + 2 → k < n + m + 1 → at Q F (pivoted Q F t r j) i k ≡ pivot_at Q F m n g r j i k
      unfolding pivoted
      new-entries i k li lk =
          let real : t.real ≡ n = h.real in
          let long : length t.basis ≡ m = h.long in
          ap (λ x. slice_index_or x k F.zero_q) (get_or-map-range_with_len _ 0 (length t.basis + 2) i i [] (omega arith) (omega arith))
          ∙ get_or-map-range_with_len _ 0 (t.real + length t.basis + 1) k k F.zero_q (omega arith) (omega arith)
          ∙ new-entry i k li lk

      new-basis : (i : ℕ) → i < m → slice_index (pivoted Q F t r j).basis i ≡ basis_at Q F m n c r j i
      unfolding pivoted
      new-basis i li =
          let lr : r < m = at_cell.row in
          let long : length t.basis ≡ m = h.long in
          elim (cases_eq i r) [
            | inl same ↦ get_or-set_at t.basis r i j 0 same (omega arith) ∙ sym (ap (basis_at Q F m n c r j) same ∙ basis-row Q F m n s g c r j lr at_cell.nonzero)
            | inr ne ↦ get_or-set_other t.basis r i j 0 ne ∙ h.basis i li ∙ sym (basis-other Q F m n s g c r j lr at_cell.nonzero i ne)
          ]

      pub shadow-pivot : IsShadow (pivoted Q F t r j) (pivot_at Q F m n g r j) (basis_at Q F m n c r j)
      unfolding pivoted
      shadow-pivot = record {
        real = h.real;
        long = length-set t.basis r j ∙ h.long;
        entries = new-entries;
        basis = new-basis;
      }

      -- what was chosen in the table was chosen in the rows
      pub ratio-same : (i : ℕ) → i < m → ratio_of Q F t j i ≡ ratio Q F m n g j i
      ratio-same i l =
          let lj : j < n = at_cell.column in
          let e : right Q F t ≡ n + m = ap (λ x. x + length t.basis) h.real ∙ ap (λ x. n + x) h.long in
          ap (λ x. F.mul (at Q F t i x) (F.inverse (at Q F t i j))) e
          ∙ ap (λ x. F.mul x (F.inverse (at Q F t i j))) (h.entries i (n + m) (omega arith) (omega arith))
          ∙ ap (λ x. F.mul (g i (n + m)) (F.inverse x)) (h.entries i j (omega arith) (omega arith))

    IsPriced-same : (g : Rows Q F m n) (c : ℕ → ℕ) (d z y w : ℕ → Q) → ((k : ℕ) → z k ≡ y k) → IsPriced Q F m n s g c d z w → IsPriced Q F m n s g c d y w
    IsPriced-same g c d z y w e o = record {
      combines = λ k. sym (e k) ∙ o.combines k;
      prices = λ k. ap (λ x. F.add x (sum_to Q F m (λ i. F.mul (d (c i)) (g i k)))) (sym (e k)) ∙ o.prices k;
    }

    -- the cell of a pivot that is due
    chosen-cell : (t : Table Q) (g : Rows Q F m n) (c : ℕ → ℕ) (r j a : ℕ) → IsShadow t g c → entering Q F t a ≡ Some j → ratio_row Q F t j ≡ Some r → IsCell g r j
    chosen-cell t g c r j a h e f =
        let b : IsBest Q F t j (length t.basis) r = ratio_row-is Q F t j r f in
        let x = entering-is Q F t a j e in
        let low : r < length t.basis = b.below in
        let long : length t.basis ≡ m = h.long in
        let real : t.real ≡ n = h.real in
        let lj : j < t.real = x.0 in
        record {
          row = omega arith;
          column = omega arith;
          nonzero = above-nonzero Q F (g r j) (ap (λ y. nonneg Q F (F.neg y)) (sym (h.entries r j (omega arith) (omega arith))) ∙ b.positive);
        }

    driven-cell : (t : Table Q) (g : Rows Q F m n) (c : ℕ → ℕ) (r j : ℕ) → IsShadow t g c → drive_cell Q F t ≡ Some (r, j) → IsCell g r j
    driven-cell t g c r j h e =
        let d : IsDrive Q F t r j = drive-is Q F t r j e in
        let low : r < length t.basis = d.row in
        let long : length t.basis ≡ m = h.long in
        let real : t.real ≡ n = h.real in
        let lj : j < t.real = d.column in
        record { row = omega arith; column = omega arith; nonzero = λ z. d.nonzero (h.entries r j (omega arith) (omega arith) ∙ z) }

    pub cell : (phase q : Phase) (t : Table Q) (g : Rows Q F m n) (c : ℕ → ℕ) (r j : ℕ) → IsShadow t g c → Move Q F t phase q r j → IsCell g r j
    cell phase q t g c r j h (stays_one e f) = chosen-cell t g c r j (length t.basis) h e f
    cell phase q t g c r j h (ends_one e f) = driven-cell t g c r j h f
    cell phase q t g c r j h (drives f) = driven-cell t g c r j h f
    cell phase q t g c r j h (begins_two y d e f) = chosen-cell t g c r j (length t.basis + 1) h e f
    cell phase q t g c r j h (stays_two e f) = chosen-cell t g c r j (length t.basis + 1) h e f

    -- the step of phase one or two, over the rows and their costs
    pub step-chosen : (t : Table Q) (g : Rows Q F m n) (c : ℕ → ℕ) (z : ℕ → Q) (r j a : ℕ) → IsShadow t g c → a < m + 2 → ((k : ℕ) → k < n → z k ≡ g a k) → entering Q F t a ≡ Some j → ratio_row Q F t j ≡ Some r → IsStep Q F m n g c z r j
    step-chosen t g c z r j a h la same e f =
        let b : IsBest Q F t j (length t.basis) r = ratio_row-is Q F t j r f in
        let x = entering-is Q F t a j e in
        let l : IsCell g r j = chosen-cell t g c r j a h e f in
        let lr : r < m = l.row in
        let lj : j < n = l.column in
        let long : length t.basis ≡ m = h.long in
        let lead : (i : ℕ) → i < m → nonneg Q F (F.neg (g i j)) ≡ false → Leads Q F t j r i = (λ i li pos. b.leads i (omega arith) (ap (λ y. nonneg Q F (F.neg y)) (h.entries i j (omega arith) (omega arith)) ∙ pos)) in
        record {
          row = lr;
          real = lj;
          negative = ap (nonneg Q F) (same j lj ∙ sym (h.entries a j la (omega arith))) ∙ x.1;
          least = λ k lk. ap (nonneg Q F) (same k (omega arith) ∙ sym (h.entries a k la (omega arith))) ∙ x.2 k lk;
          positive = ap (λ y. nonneg Q F (F.neg y)) (sym (h.entries r j (omega arith) (omega arith))) ∙ b.positive;
          best = λ i li pos. ap (nonneg Q F) (ap (λ y. minus Q F y (ratio Q F m n g j r)) (sym (ratio-same t g c h r j l i li)) ∙ ap (minus Q F (ratio_of Q F t j i)) (sym (ratio-same t g c h r j l r lr))) ∙ (lead i li pos).best;
          tie = λ i li pos eq. (let under : slice_index t.basis r ≤ slice_index t.basis i = (lead i li pos).tie (ap (nonneg Q F) (ap (λ y. minus Q F y (ratio_of Q F t j i)) (ratio-same t g c h r j l r lr) ∙ ap (minus Q F (ratio Q F m n g j r)) (ratio-same t g c h r j l i li)) ∙ eq) in
              let br : slice_index t.basis r ≡ c r = h.basis r lr in
              let bi : slice_index t.basis i ≡ c i = h.basis i li in omega arith);
        }

    -- right sides stay at least 0
    feasible-chosen : (g : Rows Q F m n) (c : ℕ → ℕ) (z : ℕ → Q) (r j : ℕ) → IsStep Q F m n g c z r j → ((i : ℕ) → i < m → nonneg Q F (g i R) ≡ true) → (i : ℕ) → i < m → nonneg Q F (pivot_at Q F m n g r j i R) ≡ true
    feasible-chosen g c z r j st h i li =
        let nz : g r j ≢ F.zero_q = above-nonzero Q F (g r j) st.positive in
        let rho : Q = ratio Q F m n g j r in
        let up : nonneg Q F rho ≡ true = F.nonneg_mul (g r R) (F.inverse (g r j)) (h r st.row) (inverse-nonneg Q F (g r j) st.positive) in
        elim (cases_eq i r) [
          | inl same ↦ ap (nonneg Q F) (ap (λ x. pivot_at Q F m n g r j x R) same ∙ pivot-row Q F m n s g c r j st.row nz R) ∙ up
          | inr ne ↦ ap (nonneg Q F) (pivot-other Q F m n s g c r j st.row nz i R ne) ∙ elim (cases_Bool (nonneg Q F (F.neg (g i j)))) [
            | inl down ↦ F.nonneg_add (g i R) (F.neg (F.mul (g i j) rho)) (h i li) (ap (nonneg Q F) (sym (neg_mul Q F (g i j) rho)) ∙ F.nonneg_mul (F.neg (g i j)) rho down up)
            | inr pos ↦ ap (nonneg Q F) (sym (mul-minus (g i j) (ratio Q F m n g j i) rho ∙ ap (λ x. minus Q F x (F.mul (g i j) rho)) (inverse-back Q F (g i R) (g i j) (above-nonzero Q F (g i j) pos))))
                ∙ F.nonneg_mul (g i j) (minus Q F (ratio Q F m n g j i) rho) (above-nonneg Q F (g i j) pos) (st.best i li pos)
          ]
        ]

    -- where the row that is driven out has 0 on the right, the right side stays
    right-driven : (g : Rows Q F m n) (c : ℕ → ℕ) (r j i : ℕ) → IsCell g r j → g r R ≡ F.zero_q → pivot_at Q F m n g r j i R ≡ g i R
    right-driven g c r j i l z = elim (cases_eq i r) [
      | inl same ↦ ap (λ x. pivot_at Q F m n g r j x R) same ∙ pivot-row Q F m n s g c r j l.row l.nonzero R ∙ zero-times Q F (g r R) (F.inverse (g r j)) z ∙ sym z ∙ ap (λ x. g x R) (sym same)
      | inr ne ↦ pivot-other Q F m n s g c r j l.row l.nonzero i R ne ∙ minus_nothing Q F (g i R) (F.mul (g i j) (F.mul (g r R) (F.inverse (g r j)))) (times-zero Q F (g i j) (F.mul (g r R) (F.inverse (g r j))) (zero-times Q F (g r R) (F.inverse (g r j)) z))
    ]

    -- an artificial column that is basic after a pivot was it before, in another row
    still-artificial : (g : Rows Q F m n) (c : ℕ → ℕ) (r j i : ℕ) → IsCell g r j → n ≤ basis_at Q F m n c r j i → (i ≢ r) × (n ≤ c i)
    still-artificial g c r j i l up = elim (cases_eq i r) [
      | inl same ↦ (let e : basis_at Q F m n c r j i ≡ j = ap (basis_at Q F m n c r j) same ∙ basis-row Q F m n s g c r j l.row l.nonzero in let lj : j < n = l.column in absurd (omega arith))
      | inr ne ↦ (let e : basis_at Q F m n c r j i ≡ c i = basis-other Q F m n s g c r j l.row l.nonzero i ne in (ne, omega arith))
    ]

    -- at the end of phase one the artificial columns that are basic are 0
    dry-end : (phase : Phase) (t : Table Q) (g : Rows Q F m n) (c : ℕ → ℕ) → Kept phase t g c → is_negative Q F (at Q F t (length t.basis) (right Q F t)) ≡ false → (i : ℕ) → i < m → n ≤ c i → g i R ≡ F.zero_q
    dry-end phase t g c k e i li up =
        let d : ℕ → Q = first_costs Q F p in
        let f : ℕ → Q = λ x. F.mul (d (c x)) (g x R) in
        let right_is : right Q F t ≡ R = ap (λ x. x + length t.basis) k.shadow.real ∙ ap (λ x. n + x) k.shadow.long in
        let value : nonneg Q F (g m R) ≡ true = ap (nonneg Q F) (sym (ap (λ x. at Q F t x (right Q F t)) k.shadow.long ∙ ap (at Q F t m) right_is ∙ k.shadow.entries m R (omega arith) (omega arith))) ∙ not-false (nonneg Q F (at Q F t (length t.basis) (right Q F t))) e in
        let total : Q = sum_to Q F m f in
        let sums : F.add (g m R) total ≡ F.zero_q = ap (λ x. F.add x total) (sym (ap (F.add (g m R)) (first_costs-right Q F p) ∙ F.add_zero (g m R))) ∙ (k.first.1.prices R ∙ first_costs-right Q F p) in
        let down : F.neg total ≡ g m R = sym (sym (F.add_zero (g m R)) ∙ ap (F.add (g m R)) (sym (F.add_neg total)) ∙ sym (F.add_assoc (g m R) total (F.neg total)) ∙ ap (λ x. F.add x (F.neg total)) sums ∙ zero_add Q F (F.neg total)) in
        let none : f i ≡ F.zero_q = sum-none_over m f (λ x lx. F.nonneg_mul (d (c x)) (g x R) (first_costs-nonneg Q F p (c x)) (k.feasible x lx)) (ap (nonneg Q F) down ∙ value) i li in
        sym (F.mul_one (g i R)) ∙ F.mul_comm (g i R) F.one ∙ ap (λ x. F.mul x (g i R)) (sym (first_costs-artificial Q F p (c i) up (k.range i li))) ∙ none

    -- once phase one is over the artificial columns that are basic are 0
    pub dry-after : (phase : Phase) (t : Table Q) (g : Rows Q F m n) (c : ℕ → ℕ) → Kept phase t g c → ((phase ≢ One) ⊎ (is_negative Q F (at Q F t (length t.basis) (right Q F t)) ≡ false)) → (i : ℕ) → i < m → n ≤ c i → g i R ≡ F.zero_q
    dry-after phase t g c k (inl ne) = k.dry ne
    dry-after phase t g c k (inr e) = dry-end phase t g c k e

    drive-one : Drive ≢ One
    drive-one e = absurd (cc)

    two-one : Two ≢ One
    two-one e = absurd (cc)

    dry-before : (phase q : Phase) (t : Table Q) (g : Rows Q F m n) (c : ℕ → ℕ) (r j : ℕ) → Kept phase t g c → Move Q F t phase q r j → q ≢ One → (i : ℕ) → i < m → n ≤ c i → g i R ≡ F.zero_q
    dry-before phase q t g c r j k (stays_one e f) ne = absurd (ne refl)
    dry-before phase q t g c r j k (ends_one e f) ne = dry-end phase t g c k e
    dry-before phase q t g c r j k (drives f) ne = k.dry drive-one
    dry-before phase q t g c r j k (begins_two y d e f) ne = dry-after phase t g c k y
    dry-before phase q t g c r j k (stays_two e f) ne = k.dry two-one

    driven-artificial : (phase : Phase) (t : Table Q) (g : Rows Q F m n) (c : ℕ → ℕ) (r j : ℕ) → Kept phase t g c → drive_cell Q F t ≡ Some (r, j) → n ≤ c r
    driven-artificial phase t g c r j k e =
        let d : IsDrive Q F t r j = drive-is Q F t r j e in
        let l : IsCell g r j = driven-cell t g c r j k.shadow e in
        let a : t.real ≤ slice_index t.basis r = d.artificial in
        let real : t.real ≡ n = k.shadow.real in
        let b : slice_index t.basis r ≡ c r = k.shadow.basis r l.row in
        omega arith

    -- drive-out takes an artificial column away
    pub drive-artificial : (phase : Phase) (t : Table Q) (g : Rows Q F m n) (c : ℕ → ℕ) (r j : ℕ) → Kept phase t g c → Move Q F t phase Drive r j → n ≤ c r
    drive-artificial phase t g c r j k (ends_one e f) = driven-artificial phase t g c r j k f
    drive-artificial phase t g c r j k (drives f) = driven-artificial phase t g c r j k f

    -- before a pivot of phase two the artificial rows are 0 in real columns
    pub clear-before : (phase : Phase) (t : Table Q) (g : Rows Q F m n) (c : ℕ → ℕ) (r j : ℕ) → Kept phase t g c → Move Q F t phase Two r j → (i : ℕ) → i < m → n ≤ c i → (x : ℕ) → x < n → g i x ≡ F.zero_q
    clear-before phase t g c r j k (begins_two y d e f) i li up x lx =
        let long : length t.basis ≡ m = k.shadow.long in
        let real : t.real ≡ n = k.shadow.real in
        let b : slice_index t.basis i ≡ c i = k.shadow.basis i li in
        sym (k.shadow.entries i x (omega arith) (omega arith)) ∙ drive-none Q F t d i (omega arith) (omega arith) x (omega arith)
    clear-before phase t g c r j k (stays_two e f) i li up x lx = k.clear refl i li up x lx

    feasible-driven : (g : Rows Q F m n) (c : ℕ → ℕ) (r j : ℕ) → IsCell g r j → g r R ≡ F.zero_q → ((i : ℕ) → i < m → nonneg Q F (g i R) ≡ true) → (i : ℕ) → i < m → nonneg Q F (pivot_at Q F m n g r j i R) ≡ true
    feasible-driven g c r j l z h i li = ap (nonneg Q F) (right-driven g c r j i l z) ∙ h i li

    -- the costs of phase one are those of the row in real columns
    pub first-real : (g : Rows Q F m n) (k : ℕ) → k < n → F.add (g m k) (first_costs Q F p k) ≡ g m k
    first-real g k l = ap (F.add (g m k)) (first_costs-real Q F p k l) ∙ F.add_zero (g m k)

    pub step-one : (t : Table Q) (g : Rows Q F m n) (c : ℕ → ℕ) (r j : ℕ) → IsShadow t g c → entering Q F t (length t.basis) ≡ Some j → ratio_row Q F t j ≡ Some r → IsStep Q F m n g c (λ k. F.add (g m k) (first_costs Q F p k)) r j
    step-one t g c r j h e f = step-chosen t g c (λ k. F.add (g m k) (first_costs Q F p k)) r j m h (omega arith) (first-real g) (ap (entering Q F t) (sym h.long) ∙ e) f

    pub step-two : (t : Table Q) (g : Rows Q F m n) (c : ℕ → ℕ) (r j : ℕ) → IsShadow t g c → entering Q F t (length t.basis + 1) ≡ Some j → ratio_row Q F t j ≡ Some r → IsStep Q F m n g c (λ k. g (m + 1) k) r j
    step-two t g c r j h e f = step-chosen t g c (λ k. g (m + 1) k) r j (m + 1) h (omega arith) (λ k l. refl) (ap (λ x. entering Q F t (x + 1)) (sym h.long) ∙ e) f

    feasible-pivot : (phase q : Phase) (t : Table Q) (g : Rows Q F m n) (c : ℕ → ℕ) (r j : ℕ) → Kept phase t g c → Move Q F t phase q r j → (i : ℕ) → i < m → nonneg Q F (pivot_at Q F m n g r j i R) ≡ true
    feasible-pivot phase q t g c r j k (stays_one e f) = feasible-chosen g c (λ x. F.add (g m x) (first_costs Q F p x)) r j (step-one t g c r j k.shadow e f) k.feasible
    feasible-pivot phase q t g c r j k (ends_one e f) = feasible-driven g c r j (driven-cell t g c r j k.shadow f) (dry-end phase t g c k e r ((driven-cell t g c r j k.shadow f).row) (driven-artificial phase t g c r j k f)) k.feasible
    feasible-pivot phase q t g c r j k (drives f) = feasible-driven g c r j (driven-cell t g c r j k.shadow f) (k.dry drive-one r ((driven-cell t g c r j k.shadow f).row) (driven-artificial phase t g c r j k f)) k.feasible
    feasible-pivot phase q t g c r j k (begins_two y d e f) = feasible-chosen g c (λ x. g (m + 1) x) r j (step-two t g c r j k.shadow e f) k.feasible
    feasible-pivot phase q t g c r j k (stays_two e f) = feasible-chosen g c (λ x. g (m + 1) x) r j (step-two t g c r j k.shadow e f) k.feasible

    dry-pivot : (phase q : Phase) (t : Table Q) (g : Rows Q F m n) (c : ℕ → ℕ) (r j : ℕ) → Kept phase t g c → Move Q F t phase q r j → q ≢ One → (i : ℕ) → i < m → n ≤ basis_at Q F m n c r j i → pivot_at Q F m n g r j i R ≡ F.zero_q
    dry-pivot phase q t g c r j k v ne i li up =
        let l : IsCell g r j = cell phase q t g c r j k.shadow v in
        let a = still-artificial g c r j i l up in
        elim (phase-cases q) [
          | inl one ↦ absurd (ne one)
          | inr more ↦ elim more [
            | inl drive ↦ right-driven g c r j i l (dry-before phase q t g c r j k v ne r l.row (drive-artificial phase t g c r j k (subst (λ x. Move Q F t phase x r j) drive v))) ∙ dry-before phase q t g c r j k v ne i li a.1
            | inr two ↦ pivot-other Q F m n s g c r j l.row l.nonzero i R a.0
                ∙ minus_nothing Q F (g i R) (F.mul (g i j) (F.mul (g r R) (F.inverse (g r j)))) (zero-times Q F (g i j) (F.mul (g r R) (F.inverse (g r j))) (clear-before phase t g c r j k (subst (λ x. Move Q F t phase x r j) two v) i li a.1 j l.column))
                ∙ dry-before phase q t g c r j k v ne i li a.1
          ]
        ]

    clear-pivot : (phase : Phase) (t : Table Q) (g : Rows Q F m n) (c : ℕ → ℕ) (r j : ℕ) → Kept phase t g c → Move Q F t phase Two r j → (i : ℕ) → i < m → n ≤ basis_at Q F m n c r j i → (x : ℕ) → x < n → pivot_at Q F m n g r j i x ≡ F.zero_q
    clear-pivot phase t g c r j k v i li up x lx =
        let l : IsCell g r j = cell phase Two t g c r j k.shadow v in
        let a = still-artificial g c r j i l up in
        let none : g i j ≡ F.zero_q = clear-before phase t g c r j k v i li a.1 j l.column in
        pivot-other Q F m n s g c r j l.row l.nonzero i x a.0
        ∙ minus_nothing Q F (g i x) (F.mul (g i j) (F.mul (g r x) (F.inverse (g r j)))) (zero-times Q F (g i j) (F.mul (g r x) (F.inverse (g r j))) none)
        ∙ clear-before phase t g c r j k v i li a.1 x lx

    range-pivot : (g : Rows Q F m n) (c : ℕ → ℕ) (r j i : ℕ) → IsCell g r j → c i < n + m → basis_at Q F m n c r j i < n + m
    range-pivot g c r j i l low = elim (cases_eq i r) [
      | inl same ↦ (let e : basis_at Q F m n c r j i ≡ j = ap (basis_at Q F m n c r j) same ∙ basis-row Q F m n s g c r j l.row l.nonzero in let lj : j < n = l.column in omega arith)
      | inr ne ↦ (let e : basis_at Q F m n c r j i ≡ c i = basis-other Q F m n s g c r j l.row l.nonzero i ne in omega arith)
    ]

    pub Kept-pivot : (phase q : Phase) (t : Table Q) (g : Rows Q F m n) (c : ℕ → ℕ) (r j : ℕ) → Kept phase t g c → Move Q F t phase q r j → Kept q (pivoted Q F t r j) (pivot_at Q F m n g r j) (basis_at Q F m n c r j)
    Kept-pivot phase q t g c r j k v =
        let l : IsCell g r j = cell phase q t g c r j k.shadow v in
        let lr : r < m = l.row in
        record {
          shadow = shadow-pivot t g c k.shadow r j l;
          tied = IsTied-pivot Q F m n s g c r j l.row l.nonzero k.tied;
          first = (
            _,
            IsPriced-same (pivot_at Q F m n g r j) (basis_at Q F m n c r j) (first_costs Q F p) _ (λ x. F.add (pivot_at Q F m n g r j m x) (first_costs Q F p x)) _
                (λ x. shift-costs (g m x) (first_costs Q F p x) (g m j) (first_costs Q F p j) (F.mul (g r x) (F.inverse (g r j))) (first_costs-real Q F p j l.column)
                ∙ ap (λ y. F.add y (first_costs Q F p x)) (sym (pivot-other Q F m n s g c r j l.row l.nonzero m x (omega arith))))
                (IsPriced-pivot Q F m n s g c r j l.row l.nonzero (first_costs Q F p) (λ x. F.add (g m x) (first_costs Q F p x)) k.first.0 k.tied k.first.1),
          );
          last = (
            _,
            IsPriced-same (pivot_at Q F m n g r j) (basis_at Q F m n c r j) (last_costs Q F p) _ (λ x. pivot_at Q F m n g r j (m + 1) x) _
                (λ x. sym (pivot-other Q F m n s g c r j l.row l.nonzero (m + 1) x (omega arith)))
                (IsPriced-pivot Q F m n s g c r j l.row l.nonzero (last_costs Q F p) (λ x. g (m + 1) x) k.last.0 k.tied k.last.1),
          );
          feasible = feasible-pivot phase q t g c r j k v;
          range = λ i li. range-pivot g c r j i l (k.range i li);
          dry = dry-pivot phase q t g c r j k v;
          clear = λ e. clear-pivot phase t g c r j k (subst (λ x. Move Q F t phase x r j) e v);
        }
