-- A row leaves in phase one; opposite columns.
use Rattle.std.proofs.Common.{◌≡◌, ◌≢◌, ℕ, zero, suc, ◌+◌, ◌<◌, ◌≤◌, ◌⊎◌, inl, inr, ◌==◌, true, cond, nat_lt, length, slice_index, Option, Some, None, refl, sym, ◌∙◌, ap, subst, arith, eq-eqb}
use Rattle.std.proofs.lemmas.Bool.{ne_eqb, cases_Bool, cases_eq, both_ways, eqb-true, lt-ltb}
use Rattle.dc_math.specs.Field.{Field, sum_to, minus, nonneg, is_negative}
use Rattle.dc_pivots.proofs.Rows.{Rows, pivot_at}
use Rattle.dc_lp.specs.Linear.{Linear}
use Rattle.dc_lp.specs.Tables.{Table, at, right, entering, ratio_row, drive_cell, signed, start_entry, start_value, minus_sum}
use Rattle.dc_pivots.specs.Runs.{Phase, One, Drive, Two, Infeasible, Unbounded, Pivot, End, State, due, due_at, due_one, due_two, due_drive, end_one, enter_one, leave_one, enter_two, leave_two, drive_out, run, Basic}
use Rattle.dc_pivots.proofs.Segment.{Has}
use Rattle.dc_pivots.specs.Vectors.{basic_row, direction_at}
use Rattle.dc_pivots.specs.FieldLaws.{AreOpposite, PhaseOneLeaves, StayOpposite}
use Rattle.dc_pivots.proofs.Ties.{no_more}
use Rattle.dc_math.specs.FieldSums.{zero_add, neg_zero, neg_add, mul_neg}
use Rattle.dc_math.specs.FieldOrder.{neg_neg, neg_mul, below-nonzero}
use Rattle.dc_pivots.proofs.Start.{first_costs, last_costs, first_costs-real, first_costs-nonneg}
use Rattle.dc_lp.proofs.Firsts.{index-some}
use Rattle.dc_lp.proofs.Chosen.{entering-is, ratio_row-none, IsDrive, drive-is}
use Rattle.dc_pivots.proofs.Choices.{Move, stays_one, ends_one, drives, begins_two, stays_two, move}
use Rattle.dc_pivots.proofs.Kept.{IsShadow, Kept, first-real}
use Rattle.dc_pivots.proofs.PhaseLaws.{basic-costs}
use Rattle.dc_pivots.proofs.Whole.{G, C, G-next, G-first, IsReached, run-is, kept, basic-has}

module _ (Q : Type 0) (F : Field Q) (p : Linear Q) where
  abbrev m : ℕ
  m = p.equations

  abbrev n : ℕ
  n = p.columns

  abbrev s : Rows Q F m n
  s = start_entry Q F p

  -- the table of a state that the run reaches
  record IsHere (a : State Q) (x : ℕ) : Type 0 where
    keeps : Kept Q F p a.phase a.table (G Q F p x) (C Q F p x)

  here : (x : ℕ) (a : State Q) → run Q F p x ≡ Some a → IsHere a x
  here x a e = (let r : IsReached Q F p x a = run-is Q F p x a e in record { keeps = subst (λ z. Kept Q F p z.phase z.table (G Q F p x) (C Q F p x)) (sym r.here) (kept Q F p x r.pivots x (omega arith)) })

  leaves-one : (phase : Phase) (t : Table Q) (g : Rows Q F m n) (c : ℕ → ℕ) (j : ℕ) → Kept Q F p phase t g c → entering Q F t (length t.basis) ≡ Some j → ratio_row Q F t j ≡ None → ⊥
  leaves-one phase t g c j k e f =
      let x = entering-is Q F t (length t.basis) j e in
      let lj : j < t.real = x.0 in
      let real : t.real ≡ n = k.shadow.real in
      let long : length t.basis ≡ m = k.shadow.long in
      let jn : j < n = omega arith in
      let d : ℕ → Q = first_costs Q F p in
      let z : Q = F.add (g m j) (d j) in
      let total : Q = sum_to Q F m (λ i. F.mul (d (c i)) (g i j)) in
      let down : nonneg Q F (F.neg total) ≡ true = no_more Q F m n m (λ i. F.mul (d (c i)) (g i j)) (λ i l.
      (let a : nonneg Q F (F.neg (g i j)) ≡ true = ap (λ y. nonneg Q F (F.neg y)) (sym (k.shadow.entries i j (omega arith) (omega arith))) ∙ ratio_row-none Q F t j f i (omega arith) in
      ap (nonneg Q F) (sym (mul_neg Q F (d (c i)) (g i j))) ∙ F.nonneg_mul (d (c i)) (F.neg (g i j)) (first_costs-nonneg Q F p (c i)) a)) in
      let sums : F.add z total ≡ F.zero_q = k.first.1.prices j ∙ first_costs-real Q F p j jn in
      let same : F.neg total ≡ z = sym (sym (F.add_zero z) ∙ ap (F.add z) (sym (F.add_neg total)) ∙ sym (F.add_assoc z total (F.neg total)) ∙ ap (λ y. F.add y (F.neg total)) sums ∙ zero_add Q F (F.neg total)) in
      both_ways (nonneg Q F (at Q F t (length t.basis) j)) x.1
      (ap (nonneg Q F) (ap (λ y. at Q F t y j) long ∙ k.shadow.entries m j (omega arith) (omega arith) ∙ sym (first-real Q F p g j jn) ∙ sym same) ∙ down)

  -- where a column enters in phase one, a row leaves
  pub phase_one-leaves : PhaseOneLeaves Q F p
  phase_one-leaves x a j e f g = leaves-one a.phase a.table (G Q F p x) (C Q F p x) j (here x a e).keeps f g

  module _ (u v : ℕ) (o : AreOpposite Q F p u v) where
    signed-opposite : (i : ℕ) (x y : Q) → x ≡ F.neg y → signed Q F p i x ≡ F.neg (signed Q F p i y)
    signed-opposite i x y e = elim (cases_Bool (nonneg Q F (p.right_side i))) [ inl b ↦ rw b e | inr b ↦ rw b (ap F.neg e) ]

    entry-opposite : (i : ℕ) → start_entry Q F p i u ≡ F.neg (start_entry Q F p i v)
    unfolding start_entry
    entry-opposite i = (let lu : u < n = o.first in let lv : v < n = o.second in rw (lt-ltb u n lu, lt-ltb v n lv) (signed-opposite i (p.coefficient i u) (p.coefficient i v) (o.entries i)))

    sum-opposite : (k : ℕ) → minus_sum Q F p u k ≡ F.neg (minus_sum Q F p v k)
    unfolding minus_sum
    sum-opposite zero = sym (neg_zero Q F)
    sum-opposite (suc k) = ap (λ x. minus Q F x (start_entry Q F p k u)) (sum-opposite k) ∙ ap (λ x. minus Q F (F.neg (minus_sum Q F p v k)) x) (entry-opposite k)
        ∙ sym (neg_add Q F (minus_sum Q F p v k) (F.neg (start_entry Q F p k v)))

    value-opposite : (i : ℕ) → start_value Q F p i u ≡ F.neg (start_value Q F p i v)
    unfolding start_value
    value-opposite i = (let lu : u < n = o.first in let lv : v < n = o.second in elim (cases_Bool (nat_lt i m)) [
      | inl b ↦ rw b (entry-opposite i)
      | inr b ↦ elim (cases_Bool (i == m)) [
        | inl d ↦ rw (b, d) (sum-opposite m)
        | inr d ↦ rw (b, d, lt-ltb u n lu, lt-ltb v n lv) o.costs
      ]
    ])

    pivot-opposite : (g : Rows Q F m n) (r j : ℕ) → ((i : ℕ) → g i u ≡ F.neg (g i v)) → (i : ℕ) → pivot_at Q F m n g r j i u ≡ F.neg (pivot_at Q F m n g r j i v)
    unfolding pivot_at
    pivot-opposite g r j h i =
        let c : Q = F.inverse (g r j) in
        let new : F.mul (g r u) c ≡ F.neg (F.mul (g r v) c) = ap (λ x. F.mul x c) (h r) ∙ neg_mul Q F (g r v) c in
        elim (cases_Bool (i == r)) [
          | inl b ↦ rw b new
          | inr b ↦ rw b (ap (λ x. minus Q F x (F.mul (g i j) (F.mul (g r u) c))) (h i) ∙ ap (λ x. minus Q F (F.neg (g i v)) (F.mul (g i j) x)) new
              ∙ ap (λ x. minus Q F (F.neg (g i v)) x) (mul_neg Q F (g i j) (F.mul (g r v) c)) ∙ sym (neg_add Q F (g i v) (F.neg (F.mul (g i j) (F.mul (g r v) c)))))
        ]

    rows-opposite : (x i : ℕ) → G Q F p x i u ≡ F.neg (G Q F p x i v)
    rows-opposite zero i = ap (λ f. f i u) (G-first Q F p) ∙ value-opposite i ∙ ap (λ f. F.neg (f i v)) (sym (G-first Q F p))
    rows-opposite (suc x) i = ap (λ f. f i u) (G-next Q F p x) ∙ pivot-opposite (G Q F p x) _ _ (rows-opposite x) i ∙ ap (λ f. F.neg (f i v)) (sym (G-next Q F p x))

    table-opposite : (x : ℕ) (a : State Q) (i : ℕ) → run Q F p x ≡ Some a → i < length a.table.basis + 2 → at Q F a.table i u ≡ F.neg (at Q F a.table i v)
    table-opposite x a i e l =
        let h : IsShadow Q F p a.table (G Q F p x) (C Q F p x) = (here x a e).keeps.shadow in
        let long : length a.table.basis ≡ m = h.long in
        let lu : u < n = o.first in
        let lv : v < n = o.second in
        h.entries i u (omega arith) (omega arith) ∙ rows-opposite x i ∙ ap F.neg (sym (h.entries i v (omega arith) (omega arith)))

    -- where u is basic in a row, another row has 0 at u and so at v
    zero-other : (x : ℕ) (phase : Phase) (t : Table Q) (i h : ℕ) → Kept Q F p phase t (G Q F p x) (C Q F p x) → i < m → h < m → i ≢ h → C Q F p x h ≡ u → G Q F p x i v ≡ F.zero_q
    zero-other x phase t i h k li lh ne e =
        let none : G Q F p x i u ≡ F.zero_q = ap (G Q F p x i) (sym e) ∙ k.tied.units i h li lh ∙ ap (λ b. cond b F.one F.zero_q) (ne_eqb i h ne) in
        sym (neg_neg Q F (G Q F p x i v)) ∙ ap F.neg (sym (rows-opposite x i) ∙ none) ∙ neg_zero Q F

    both-basic : (x : ℕ) (phase : Phase) (t : Table Q) → Kept Q F p phase t (G Q F p x) (C Q F p x) → Has (C Q F p x) m u → Has (C Q F p x) m v → ⊥
    both-basic x phase t k a b =
        let ne : b.0 ≢ a.0 = (λ e. o.apart (sym a.2 ∙ ap (C Q F p x) (sym e) ∙ b.2)) in
        let one : G Q F p x b.0 v ≡ F.one = ap (G Q F p x b.0) (sym b.2) ∙ k.tied.units b.0 b.0 b.1 b.1 ∙ ap (λ c. cond c F.one F.zero_q) (eq-eqb b.0 b.0 refl) in
        F.nontrivial (sym one ∙ zero-other x phase t b.0 a.0 k b.1 a.1 ne a.2)

    pub never_both : (x : ℕ) (a : State Q) → run Q F p x ≡ Some a → Basic a.table u → Basic a.table v → ⊥
    never_both x a e bu bv =
        let k : Kept Q F p a.phase a.table (G Q F p x) (C Q F p x) = (here x a e).keeps in
        both-basic x a.phase a.table k (basic-has Q F p 0 a.table (G Q F p x) (C Q F p x) u k.shadow bu) (basic-has Q F p 0 a.table (G Q F p x) (C Q F p x) v k.shadow bv)

    -- while u is basic v costs nothing
    free-first : (x : ℕ) (phase : Phase) (t : Table Q) → Kept Q F p phase t (G Q F p x) (C Q F p x) → Has (C Q F p x) m u → G Q F p x m v ≡ F.zero_q
    free-first x phase t k a =
        let z : G Q F p x m u ≡ F.zero_q = sym (first-real Q F p (G Q F p x) u o.first) ∙ ap (λ y. F.add (G Q F p x m y) (first_costs Q F p y)) (sym a.2)
        ∙ basic-costs Q F m n s (G Q F p x) (C Q F p x) (first_costs Q F p) (λ y. F.add (G Q F p x m y) (first_costs Q F p y)) k.first.0 a.0 a.1 k.tied k.first.1 in
        sym (neg_neg Q F (G Q F p x m v)) ∙ ap F.neg (sym (rows-opposite x m) ∙ z) ∙ neg_zero Q F

    free-last : (x : ℕ) (phase : Phase) (t : Table Q) → Kept Q F p phase t (G Q F p x) (C Q F p x) → Has (C Q F p x) m u → G Q F p x (m + 1) v ≡ F.zero_q
    free-last x phase t k a =
        let z : G Q F p x (m + 1) u ≡ F.zero_q = ap (G Q F p x (m + 1)) (sym a.2)
        ∙ basic-costs Q F m n s (G Q F p x) (C Q F p x) (last_costs Q F p) (λ y. G Q F p x (m + 1) y) k.last.0 a.0 a.1 k.tied k.last.1 in
        sym (neg_neg Q F (G Q F p x (m + 1) v)) ∙ ap F.neg (sym (rows-opposite x (m + 1)) ∙ z) ∙ neg_zero Q F

    not-first : (x : ℕ) (phase : Phase) (t : Table Q) → Kept Q F p phase t (G Q F p x) (C Q F p x) → Has (C Q F p x) m u → entering Q F t (length t.basis) ≡ Some v → ⊥
    not-first x phase t k a e =
        let lv : v < n = o.second in
        below-nonzero Q F (at Q F t (length t.basis) v) ((entering-is Q F t (length t.basis) v e).1)
        (ap (λ y. at Q F t y v) k.shadow.long ∙ k.shadow.entries m v (omega arith) (omega arith) ∙ free-first x phase t k a)

    not-last : (x : ℕ) (phase : Phase) (t : Table Q) → Kept Q F p phase t (G Q F p x) (C Q F p x) → Has (C Q F p x) m u → entering Q F t (length t.basis + 1) ≡ Some v → ⊥
    not-last x phase t k a e =
        let lv : v < n = o.second in
        below-nonzero Q F (at Q F t (length t.basis + 1) v) ((entering-is Q F t (length t.basis + 1) v e).1)
        (ap (λ y. at Q F t (y + 1) v) k.shadow.long ∙ k.shadow.entries (m + 1) v (omega arith) (omega arith) ∙ free-last x phase t k a)

    not-driven : (x : ℕ) (phase : Phase) (t : Table Q) (r : ℕ) → Kept Q F p phase t (G Q F p x) (C Q F p x) → Has (C Q F p x) m u → drive_cell Q F t ≡ Some (r, v) → ⊥
    not-driven x phase t r k a e =
        let d : IsDrive Q F t r v = drive-is Q F t r v e in
        let long : length t.basis ≡ m = k.shadow.long in
        let real : t.real ≡ n = k.shadow.real in
        let low : r < length t.basis = d.row in
        let lr : r < m = omega arith in
        let up : t.real ≤ slice_index t.basis r = d.artificial in
        let b : slice_index t.basis r ≡ C Q F p x r = k.shadow.basis r lr in
        let lu : u < n = o.first in
        let lv : v < n = o.second in
        let at_u : C Q F p x a.0 ≡ u = a.2 in
        let ne : r ≢ a.0 = (λ f. (let g : C Q F p x r ≡ C Q F p x a.0 = ap (C Q F p x) f in absurd (omega arith))) in
        d.nonzero (k.shadow.entries r v (omega arith) (omega arith) ∙ zero-other x phase t r a.0 k lr a.1 ne a.2)

    not-moved : (x : ℕ) (phase q : Phase) (t : Table Q) (r j : ℕ) → Kept Q F p phase t (G Q F p x) (C Q F p x) → Has (C Q F p x) m u → Move Q F t phase q r j → j ≡ v → ⊥
    not-moved x phase q t r j k a (stays_one e f) h = not-first x phase t k a (e ∙ ap Some h)
    not-moved x phase q t r j k a (ends_one e f) h = not-driven x phase t r k a (f ∙ ap (λ y. Some (r, y)) h)
    not-moved x phase q t r j k a (drives f) h = not-driven x phase t r k a (f ∙ ap (λ y. Some (r, y)) h)
    not-moved x phase q t r j k a (begins_two y d e f) h = not-last x phase t k a (e ∙ ap Some h)
    not-moved x phase q t r j k a (stays_two e f) h = not-last x phase t k a (e ∙ ap Some h)

    pub free_one : (x : ℕ) (a : State Q) → run Q F p x ≡ Some a → Basic a.table u → at Q F a.table (length a.table.basis) v ≡ F.zero_q
    free_one x a e b =
        let k : Kept Q F p a.phase a.table (G Q F p x) (C Q F p x) = (here x a e).keeps in
        let lv : v < n = o.second in
        ap (λ y. at Q F a.table y v) k.shadow.long ∙ k.shadow.entries m v (omega arith) (omega arith) ∙ free-first x a.phase a.table k (basic-has Q F p 0 a.table (G Q F p x) (C Q F p x) u k.shadow b)

    pub free_two : (x : ℕ) (a : State Q) → run Q F p x ≡ Some a → Basic a.table u → at Q F a.table (length a.table.basis + 1) v ≡ F.zero_q
    free_two x a e b =
        let k : Kept Q F p a.phase a.table (G Q F p x) (C Q F p x) = (here x a e).keeps in
        let lv : v < n = o.second in
        ap (λ y. at Q F a.table (y + 1) v) k.shadow.long ∙ k.shadow.entries (m + 1) v (omega arith) (omega arith) ∙ free-last x a.phase a.table k (basic-has Q F p 0 a.table (G Q F p x) (C Q F p x) u k.shadow b)

    pub idle : (x : ℕ) (a : State Q) (q : Phase) (r : ℕ) → run Q F p x ≡ Some a → Basic a.table u → due_at Q F a ≢ Pivot q r v
    idle x a q r e b d =
        let k : Kept Q F p a.phase a.table (G Q F p x) (C Q F p x) = (here x a e).keeps in
        not-moved x a.phase q a.table r v k (basic-has Q F p 0 a.table (G Q F p x) (C Q F p x) u k.shadow b) (move Q F a.phase a.table q r v d) refl

  -- a column that isn't basic has 0 in the basic solution
  row-basic : (t : Table Q) (k i : ℕ) → basic_row t k ≡ Some i → Basic t k
  unfolding basic_row
  row-basic t k i e = (let h = index-some (λ x. slice_index t.basis x == k) (length t.basis) i e in (i, h.0, eqb-true (slice_index t.basis i) k h.1))

  none-or-basic : (t : Table Q) (k : ℕ) → (basic_row t k ≡ None) ⊎ Basic t k
  none-or-basic t k = option-cases (basic_row t k) refl
    where
      option-cases : (o : Option ℕ) → basic_row t k ≡ o → (basic_row t k ≡ None) ⊎ Basic t k
      option-cases None e = inl e
      option-cases (Some i) e = inr (row-basic t k i e)

  still : (t : Table Q) (j k : ℕ) → k ≢ j → basic_row t k ≡ None → direction_at Q F t j k ≡ F.zero_q
  still t j k ne e = rw (ne_eqb k j ne, e) (neg_zero Q F)

  -- where the run is unbounded along j, j has entered the last row's choice
  ends-two : (t : Table Q) (j : ℕ) → due_two Q F t ≡ End (Unbounded j) → entering Q F t (length t.basis + 1) ≡ Some j
  unfolding due_two
  ends-two t j e = two (entering Q F t (length t.basis + 1)) refl e
    where
      two-leave : (k : ℕ) (o : Option ℕ) → leave_two k o ≡ End (Unbounded j) → k ≡ j
      two-leave k None h = (cc)
      two-leave k (Some r) h = absurd (cc)

      two : (o : Option ℕ) → entering Q F t (length t.basis + 1) ≡ o → enter_two Q F t o ≡ End (Unbounded j) → entering Q F t (length t.basis + 1) ≡ Some j
      two None f h = absurd (cc)
      two (Some k) f h = f ∙ ap Some (two-leave k (ratio_row Q F t k) h)

  ends-drive : (t : Table Q) (j : ℕ) → due_drive Q F t ≡ End (Unbounded j) → entering Q F t (length t.basis + 1) ≡ Some j
  unfolding due_drive
  ends-drive t j e = out (drive_cell Q F t) e
    where
      out : (o : Option (ℕ × ℕ)) → drive_out Q F t o ≡ End (Unbounded j) → entering Q F t (length t.basis + 1) ≡ Some j
      out None h = ends-two t j h
      out (Some (a, b)) h = absurd (cc)

  ends-end : (t : Table Q) (j : ℕ) → end_one Q F t ≡ End (Unbounded j) → entering Q F t (length t.basis + 1) ≡ Some j
  unfolding end_one
  ends-end t j e = elim (cases_Bool (is_negative Q F (at Q F t (length t.basis) (right Q F t)))) [
    | inl b ↦ (let f : End Infeasible ≡ End (Unbounded j) = rw b at e in absurd (cc))
    | inr b ↦ ends-drive t j (rw b at e)
  ]

  ends-one : (t : Table Q) (j : ℕ) → due_one Q F t ≡ End (Unbounded j) → entering Q F t (length t.basis + 1) ≡ Some j
  unfolding due_one
  ends-one t j e = in_one (entering Q F t (length t.basis)) e
    where
      out_one : (k : ℕ) (o : Option ℕ) → leave_one Q F t k o ≡ End (Unbounded j) → entering Q F t (length t.basis + 1) ≡ Some j
      out_one k None h = ends-end t j h
      out_one k (Some r) h = absurd (cc)

      in_one : (o : Option ℕ) → enter_one Q F t o ≡ End (Unbounded j) → entering Q F t (length t.basis + 1) ≡ Some j
      in_one None h = ends-end t j h
      in_one (Some k) h = out_one k (ratio_row Q F t k) h

  ends : (phase : Phase) (t : Table Q) (j : ℕ) → due Q F phase t ≡ End (Unbounded j) → entering Q F t (length t.basis + 1) ≡ Some j
  ends One t j e = ends-one t j e
  ends Drive t j e = ends-drive t j e
  ends Two t j e = ends-two t j e

  turned : (u v : ℕ) → AreOpposite Q F p u v → AreOpposite Q F p v u
  turned u v o = record {
    first = o.second;
    second = o.first;
    apart = λ e. o.apart (sym e);
    entries = λ i. sym (ap F.neg (o.entries i) ∙ neg_neg Q F (p.coefficient i v));
    costs = sym (ap F.neg o.costs ∙ neg_neg Q F (p.cost v));
  }

  -- while one of the two enters the other isn't basic
  away : (u v : ℕ) (x : ℕ) (a : State Q) (j : ℕ) → AreOpposite Q F p u v → run Q F p x ≡ Some a → entering Q F a.table (length a.table.basis + 1) ≡ Some j → j ≡ v → Basic a.table u → ⊥
  away u v x a j o e f h b =
      let k : Kept Q F p a.phase a.table (G Q F p x) (C Q F p x) = (here x a e).keeps in
      not-last u v o x a.phase a.table k (basic-has Q F p 0 a.table (G Q F p x) (C Q F p x) u k.shadow b) (f ∙ ap Some h)

  ray-zero : (u v : ℕ) (x : ℕ) (a : State Q) (j : ℕ) → AreOpposite Q F p u v → run Q F p x ≡ Some a → entering Q F a.table (length a.table.basis + 1) ≡ Some j
      → (direction_at Q F a.table j u ≡ F.zero_q) ⊎ (direction_at Q F a.table j v ≡ F.zero_q)
  ray-zero u v x a j o e f = elim (none-or-basic a.table u) [
    | inl no_u ↦ elim (cases_eq u j) [
      | inl same ↦ elim (none-or-basic a.table v) [
        | inl no_v ↦ inr (still a.table j v (λ h. o.apart (same ∙ sym h)) no_v)
        | inr is_v ↦ absurd (away v u x a j (turned u v o) e f (sym same) is_v)
      ]
      | inr ne ↦ inl (still a.table j u ne no_u)
    ]
    | inr is_u ↦ elim (none-or-basic a.table v) [
      | inl no_v ↦ elim (cases_eq v j) [
        | inl same ↦ absurd (away u v x a j o e f (sym same) is_u)
        | inr ne ↦ inr (still a.table j v ne no_v)
      ]
      | inr is_v ↦ absurd (never_both u v o x a e is_u is_v)
    ]
  ]

  pub stay_opposite : (u v : ℕ) → AreOpposite Q F p u v → StayOpposite Q F p u v
  stay_opposite u v o = record {
    entries = table-opposite u v o;
    never_both = never_both u v o;
    free_one = free_one u v o;
    free_two = free_two u v o;
    idle = idle u v o;
    solution = λ x a e. elim (none-or-basic a.table u) [
      | inl no_u ↦ inl (rw no_u refl)
      | inr is_u ↦ elim (none-or-basic a.table v) [
        | inl no_v ↦ inr (rw no_v refl)
        | inr is_v ↦ absurd (never_both u v o x a e is_u is_v)
      ]
    ];
    ray = λ x a j e d. ray-zero u v x a j o e (ends a.phase a.table j d);
  }
