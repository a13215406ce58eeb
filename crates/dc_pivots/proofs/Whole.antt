-- The run never repeats a basis, and so it ends.
use Rattle.std.proofs.Common.{◌≡◌, ◌≢◌, ℕ, zero, suc, ◌+◌, ◌-◌, ◌<◌, ◌≤◌, ◌⊎◌, inl, inr, length, Option, Some, None, refl, sym, ◌∙◌, ap, subst, arith}
use Rattle.std.specs.Option.{option_and_then}
use Rattle.std.proofs.lemmas.Bool.{cases_eq, cases_lt}
use Rattle.std.proofs.lemmas.Option.{same_Some}
use Rattle.dc_math.specs.Field.{Field, sum_to, minus}
use Rattle.dc_pivots.proofs.Rows.{Rows, pivot_at, basis_at}
use Rattle.dc_lp.specs.Linear.{Linear}
use Rattle.dc_lp.specs.Tables.{Table, start_entry, start_value, pivoted}
use Rattle.dc_pivots.specs.Runs.{Phase, One, Drive, Two, Ending, Due, Pivot, End, State, IsPivot, due_at, begun, after, run, Basic, IsOver}
use Rattle.dc_pivots.specs.FieldLaws.{choose, NeverRepeats, EndsSoon, NeverSpent, Ends}
use Rattle.dc_pivots.proofs.Segment.{Has, ratio, IsStep}
use Rattle.dc_pivots.proofs.Ties.{pivot-other, basis-row, basis-other}
use Rattle.dc_math.specs.FieldOrder.{below-nonzero, zero-times, times-zero, sum-zero}
use Rattle.dc_pivots.proofs.Start.{first_costs, last_costs, first_costs-real, start_basis}
use Rattle.dc_pivots.proofs.Choices.{Move, stays_one, ends_one, drives, begins_two, stays_two, move}
use Rattle.dc_pivots.proofs.Kept.{phase-cases, IsShadow, Kept, Kept-start, Kept-pivot, IsCell, cell, step-one, step-two, drive-artificial, shift-costs}
use Rattle.dc_pivots.proofs.PhaseLaws.{no_cycle, costs-fixed, different}
use Rattle.dc_pivots.proofs.Count.{count, rank, rank-below, rank-same, pigeonhole, member, member-has, has-member, count-member}

pub row_of : Due → ℕ
row_of (Pivot q r j) = r
row_of (End e) = 0

pub column_of : Due → ℕ
column_of (Pivot q r j) = j
column_of (End e) = 0

pub phase_of : Due → Phase
phase_of (Pivot q r j) = q
phase_of (End e) = One

module _ (Q : Type 0) (F : Field Q) (p : Linear Q) where
  abbrev m : ℕ
  m = p.equations

  abbrev n : ℕ
  n = p.columns

  abbrev s : Rows Q F m n
  s = start_entry Q F p

  pub moved : State Q → Due → State Q
  moved x (Pivot q r j) = record { phase = q; table = pivoted Q F x.table r j }
  moved x (End e) = x

  -- the states, the rows and the basic columns, one after another
  pub state_at : ℕ → State Q
  state_at zero = begun Q F p
  state_at (suc x) = moved (state_at x) (due_at Q F (state_at x))

  pub due_now : ℕ → Due
  due_now x = due_at Q F (state_at x)

  pub G : ℕ → Rows Q F m n
  G zero = start_value Q F p
  G (suc x) = pivot_at Q F m n (G x) (row_of (due_now x)) (column_of (due_now x))

  pub C : ℕ → ℕ → ℕ
  C zero = start_basis Q F p
  C (suc x) = basis_at Q F m n (C x) (row_of (due_now x)) (column_of (due_now x))

  abbrev R : ℕ → ℕ
  R x = row_of (due_now x)

  abbrev J : ℕ → ℕ
  J x = column_of (due_now x)

  abbrev K : ℕ → Phase
  K x = phase_of (due_now x)

  pub G-next : (x : ℕ) → G (suc x) ≡ pivot_at Q F m n (G x) (R x) (J x)
  unfolding G
  G-next x = refl

  pub G-first : G zero ≡ start_value Q F p
  unfolding G
  G-first = refl

  pub C-next : (x : ℕ) → C (suc x) ≡ basis_at Q F m n (C x) (R x) (J x)
  unfolding C
  C-next x = refl

  -- The run goes through these states.

  pub record IsReached (x : ℕ) (a : State Q) : Type 0 where
    pub here : a ≡ state_at x
    pub pivots : (y : ℕ) → y < x → IsPivot (due_now y)

  after-is : (b a : State Q) (d : Due) → due_at Q F b ≡ d → after Q F b.table d ≡ Some a → (a ≡ moved b d) × IsPivot d
  unfolding moved
  after-is b a (Pivot q r j) e h = (sym (same_Some _ _ h), tt)
  after-is b a (End x) e h = absurd (cc)

  run-step : (x : ℕ) (a : State Q) (o : Option (State Q)) → run Q F p x ≡ o → ((b : State Q) → run Q F p x ≡ Some b → IsReached x b) → option_and_then (λ y. after Q F y.table (due_at Q F y)) o ≡ Some a → IsReached (suc x) a
  unfolding state_at due_now
  run-step x a None e ih h = absurd (cc)
  run-step x a (Some b) e ih h =
      let i : IsReached x b = ih b e in
      let r : (a ≡ moved b (due_at Q F b)) × IsPivot (due_at Q F b) = after-is b a (due_at Q F b) refl h in
      record {
        here = r.0 ∙ ap (λ y. moved y (due_at Q F y)) i.here;
        pivots = λ y l. elim (cases_eq y x) [
          | inl same ↦ subst (λ z. IsPivot (due_at Q F (state_at z))) (sym same) (subst (λ z. IsPivot (due_at Q F z)) i.here r.1)
          | inr ne ↦ i.pivots y (omega arith)
        ];
      }

  pub run-is : (x : ℕ) (a : State Q) → run Q F p x ≡ Some a → IsReached x a
  unfolding state_at
  run-is zero a e = record { here = (let f : Some a ≡ Some (begun Q F p) = sym e in cc); pivots = λ y l. absurd (omega arith) }
  run-is (suc x) a e = run-step x a (run Q F p x) refl (run-is x) e

  -- What is kept, at each of them.

  kept-step : (a : State Q) (g : Rows Q F m n) (c : ℕ → ℕ) (d : Due) → due_at Q F a ≡ d → IsPivot d → Kept Q F p a.phase a.table g c
      → Kept Q F p (moved a d).phase (moved a d).table (pivot_at Q F m n g (row_of d) (column_of d)) (basis_at Q F m n c (row_of d) (column_of d)) × Move Q F a.table a.phase (phase_of d) (row_of d) (column_of d) × ((moved a d).phase ≡ phase_of d)
  unfolding moved row_of column_of phase_of
  kept-step a g c (Pivot q r j) e i k = (let v : Move Q F a.table a.phase q r j = move Q F a.phase a.table q r j e in (Kept-pivot Q F p a.phase q a.table g c r j k v, v, refl))
  kept-step a g c (End x) e i k = absurd i

  module _ (N : ℕ) (pivots : (y : ℕ) → y < N → IsPivot (due_now y)) where
    pub kept : (x : ℕ) → x ≤ N → Kept Q F p (state_at x).phase (state_at x).table (G x) (C x)
    unfolding state_at G C due_now
    kept zero l = Kept-start Q F p
    kept (suc x) l = (kept-step (state_at x) (G x) (C x) (due_at Q F (state_at x)) refl (pivots x (omega arith)) (kept x (omega arith))).0

    moves : (x : ℕ) → x < N → Move Q F (state_at x).table (state_at x).phase (K x) (R x) (J x)
    unfolding due_now
    moves x l = (kept-step (state_at x) (G x) (C x) (due_at Q F (state_at x)) refl (pivots x l) (kept x (omega arith))).1

    next-phase : (x : ℕ) → x < N → (state_at (suc x)).phase ≡ K x
    unfolding state_at due_now
    next-phase x l = (kept-step (state_at x) (G x) (C x) (due_at Q F (state_at x)) refl (pivots x l) (kept x (omega arith))).2

    pub cell-at : (x : ℕ) → x < N → IsCell Q F p (G x) (R x) (J x)
    cell-at x l = cell Q F p (state_at x).phase (K x) (state_at x).table (G x) (C x) (R x) (J x) ((kept x (omega arith)).shadow) (moves x l)

    basis-here : (x : ℕ) → x < N → C (suc x) (R x) ≡ J x
    basis-here x l = ap (λ f. f (R x)) (C-next x) ∙ basis-row Q F m n s (G x) (C x) (R x) (J x) ((cell-at x l).row) ((cell-at x l).nonzero)

    basis-there : (x i : ℕ) → x < N → i ≢ R x → C (suc x) i ≡ C x i
    basis-there x i l ne = ap (λ f. f i) (C-next x) ∙ basis-other Q F m n s (G x) (C x) (R x) (J x) ((cell-at x l).row) ((cell-at x l).nonzero) i ne

    -- The phases come in order.

    one-before : (phase q : Phase) (t : Table Q) (r j : ℕ) → Move Q F t phase q r j → q ≡ One → phase ≡ One
    one-before phase q t r j (stays_one e f) h = refl
    one-before phase q t r j (ends_one e f) h = absurd (cc)
    one-before phase q t r j (drives f) h = absurd (cc)
    one-before phase q t r j (begins_two y d e f) h = absurd (cc)
    one-before phase q t r j (stays_two e f) h = absurd (cc)

    two-then : (phase q : Phase) (t : Table Q) (r j : ℕ) → Move Q F t phase q r j → phase ≡ Two → q ≡ Two
    two-then phase q t r j (stays_one e f) h = absurd (cc)
    two-then phase q t r j (ends_one e f) h = absurd (cc)
    two-then phase q t r j (drives f) h = absurd (cc)
    two-then phase q t r j (begins_two y d e f) h = refl
    two-then phase q t r j (stays_two e f) h = refl

    all-one : (y x : ℕ) → y < N → x ≤ y → K y ≡ One → K x ≡ One
    all-one zero x l le e = (let same : x ≡ 0 = omega arith in subst (λ z. K z ≡ One) (sym same) e)
    all-one (suc y) x l le e = elim (cases_eq x (suc y)) [
      | inl same ↦ subst (λ z. K z ≡ One) (sym same) e
      | inr ne ↦ all-one y x (omega arith) (omega arith) (sym (next-phase y (omega arith)) ∙ one-before (state_at (suc y)).phase (K (suc y)) (state_at (suc y)).table (R (suc y)) (J (suc y)) (moves (suc y) l) e)
    ]

    all-two : (y x : ℕ) → y < N → x ≤ y → K x ≡ Two → K y ≡ Two
    all-two zero x l le e = (let same : x ≡ 0 = omega arith in subst (λ z. K z ≡ Two) same e)
    all-two (suc y) x l le e = elim (cases_eq x (suc y)) [
      | inl same ↦ subst (λ z. K z ≡ Two) same e
      | inr ne ↦ two-then (state_at (suc y)).phase (K (suc y)) (state_at (suc y)).table (R (suc y)) (J (suc y)) (moves (suc y) l) (next-phase y (omega arith) ∙ all-two y x (omega arith) (omega arith) e)
    ]

    step-of-one : (t : Table Q) (phase : Phase) (g : Rows Q F m n) (c : ℕ → ℕ) (r j : ℕ) → IsShadow Q F p t g c → Move Q F t phase One r j → IsStep Q F m n g c (λ k. F.add (g m k) (first_costs Q F p k)) r j
    step-of-one t phase g c r j h (stays_one e f) = step-one Q F p t g c r j h e f

    step-of-two : (t : Table Q) (phase : Phase) (g : Rows Q F m n) (c : ℕ → ℕ) (r j : ℕ) → IsShadow Q F p t g c → Move Q F t phase Two r j → IsStep Q F m n g c (λ k. g (m + 1) k) r j
    step-of-two t phase g c r j h (begins_two y d e f) = step-two Q F p t g c r j h e f
    step-of-two t phase g c r j h (stays_two e f) = step-two Q F p t g c r j h e f

    step-one-at : (x : ℕ) → x < N → K x ≡ One → IsStep Q F m n (G x) (C x) (λ k. F.add (G x m k) (first_costs Q F p k)) (R x) (J x)
    step-one-at x l e = step-of-one (state_at x).table (state_at x).phase (G x) (C x) (R x) (J x) ((kept x (omega arith)).shadow) (subst (λ q. Move Q F (state_at x).table (state_at x).phase q (R x) (J x)) e (moves x l))

    step-two-at : (x : ℕ) → x < N → K x ≡ Two → IsStep Q F m n (G x) (C x) (λ k. G x (m + 1) k) (R x) (J x)
    step-two-at x l e = step-of-two (state_at x).table (state_at x).phase (G x) (C x) (R x) (J x) ((kept x (omega arith)).shadow) (subst (λ q. Move Q F (state_at x).table (state_at x).phase q (R x) (J x)) e (moves x l))

    -- Artificial columns never come back.

    artificial-back : (v a k : ℕ) → v ≤ N → a ≤ v → n ≤ k → Has (C v) m k → Has (C a) m k
    artificial-back zero a k l le up h = (let same : a ≡ 0 = omega arith in subst (λ z. Has (C z) m k) (sym same) h)
    artificial-back (suc v) a k l le up h = elim (cases_eq a (suc v)) [
      | inl same ↦ subst (λ z. Has (C z) m k) (sym same) h
      | inr ne ↦ elim (cases_eq h.0 (R v)) [
        | inl here ↦ (let e : C (suc v) h.0 ≡ k = h.2 in let f : C (suc v) h.0 ≡ J v = ap (C (suc v)) here ∙ basis-here v (omega arith) in let lj : J v < n = (cell-at v (omega arith)).column in absurd (omega arith))
        | inr there ↦ artificial-back v a k (omega arith) (omega arith) up (h.0, h.1, sym (basis-there v h.0 (omega arith) there) ∙ h.2)
      ]
    ]

    module _ (a b : ℕ) (lt : a < b) (lb : b ≤ N) (forth : (k : ℕ) → Has (C a) m k → Has (C b) m k) (back : (k : ℕ) → Has (C b) m k → Has (C a) m k) where
      -- no pivot of drive-out between
      no_drive : (v : ℕ) → a ≤ v → v < b → K v ≡ Drive → ⊥
      no_drive v la lv e =
          let k : ℕ = C v (R v) in
          let row : R v < m = (cell-at v (omega arith)).row in
          let up : n ≤ k = drive-artificial Q F p (state_at v).phase (state_at v).table (G v) (C v) (R v) (J v) (kept v (omega arith)) (subst (λ q. Move Q F (state_at v).table (state_at v).phase q (R v) (J v)) e (moves v (omega arith))) in
          let first : Has (C a) m k = artificial-back v a k (omega arith) la up (R v, row, refl) in
          let later : Has (C (suc v)) m k = artificial-back b (suc v) k lb (omega arith) up (forth k first) in
          let low : later.0 < m = later.1 in
          elim (cases_eq later.0 (R v)) [
            | inl here ↦ (let x : C (suc v) later.0 ≡ k = later.2 in let y : C (suc v) later.0 ≡ J v = ap (C (suc v)) here ∙ basis-here v (omega arith) in let lj : J v < n = (cell-at v (omega arith)).column in absurd (omega arith))
            | inr there ↦ there (different Q F m n s (G v) (C v) later.0 (R v) low row ((kept v (omega arith)).tied) (sym (basis-there v later.0 (omega arith) there) ∙ later.2))
          ]

      -- the costs of phase one at b are 0 in real columns, if the last pivot was one of phase two
      clear-costs : (state_at b).phase ≡ Two → (k : ℕ) → k < n → F.add (G b m k) (first_costs Q F p k) ≡ F.zero_q
      clear-costs e k l =
          let h : Kept Q F p (state_at b).phase (state_at b).table (G b) (C b) = kept b lb in
          let d : ℕ → Q = first_costs Q F p in
          let z : Q = F.add (G b m k) (d k) in
          let none : sum_to Q F m (λ i. F.mul (d (C b i)) (G b i k)) ≡ F.zero_q = sum-zero Q F m (λ i. F.mul (d (C b i)) (G b i k)) (λ i li. elim (cases_lt (C b i) n) [
            | inl low ↦ zero-times Q F (d (C b i)) (G b i k) (first_costs-real Q F p (C b i) low)
            | inr up ↦ times-zero Q F (d (C b i)) (G b i k) (h.clear e i li up k l)
          ]) in
          sym (F.add_zero z) ∙ ap (F.add z) (sym none) ∙ h.first.1.prices k ∙ first_costs-real Q F p k l

      -- a basis of phase two that was met in phase one would have ended phase one there
      no_return : K a ≡ One → (state_at b).phase ≡ Two → ⊥
      no_return e f =
          let st : IsStep Q F m n (G a) (C a) (λ k. F.add (G a m k) (first_costs Q F p k)) (R a) (J a) = step-one-at a (omega arith) e in
          let ka : Kept Q F p (state_at a).phase (state_at a).table (G a) (C a) = kept a (omega arith) in
          let kb : Kept Q F p (state_at b).phase (state_at b).table (G b) (C b) = kept b lb in
          below-nonzero Q F (F.add (G a m (J a)) (first_costs Q F p (J a))) st.negative
          (costs-fixed Q F m n s (G a) (G b) (C a) (C b) (first_costs Q F p) (λ k. F.add (G a m k) (first_costs Q F p k)) ka.first.0 (λ k. F.add (G b m k) (first_costs Q F p k)) kb.first.0 (J a) ka.tied kb.tied ka.first.1 kb.first.1 forth
          ∙ clear-costs f (J a) st.real)

      abbrev L : ℕ
      L = b - a

      inside : (x : ℕ) → x < L → a + x < b
      inside x l = omega arith

      forth' : (k : ℕ) → Has (C (a + 0)) m k → Has (C (a + L)) m k
      forth' k h = (let e : a + 0 ≡ a = omega arith in let f : b ≡ a + (b - a) = omega arith in subst (λ z. Has (C z) m k) f (forth k (subst (λ z. Has (C z) m k) e h)))

      back' : (k : ℕ) → Has (C (a + L)) m k → Has (C (a + 0)) m k
      back' k h = (let e : a ≡ a + 0 = omega arith in let f : a + (b - a) ≡ b = omega arith in subst (λ z. Has (C z) m k) e (back k (subst (λ z. Has (C z) m k) f h)))

      table-next : (x i k : ℕ) → G (a + suc x) i k ≡ pivot_at Q F m n (G (a + x)) (R (a + x)) (J (a + x)) i k
      table-next x i k = (let e : a + suc x ≡ suc (a + x) = omega arith in ap (λ z. G z i k) e ∙ ap (λ f. f i k) (G-next (a + x)))

      basis-next : (x i : ℕ) → C (a + suc x) i ≡ basis_at Q F m n (C (a + x)) (R (a + x)) (J (a + x)) i
      basis-next x i = (let e : a + suc x ≡ suc (a + x) = omega arith in ap (λ z. C z i) e ∙ ap (λ f. f i) (C-next (a + x)))

      row-next : (x i k : ℕ) → a + x < N → i ≢ R (a + x) → G (a + suc x) i k ≡ minus Q F (G (a + x) i k) (F.mul (G (a + x) i (J (a + x))) (F.mul (G (a + x) (R (a + x)) k) (F.inverse (G (a + x) (R (a + x)) (J (a + x))))))
      row-next x i k l ne = table-next x i k ∙ pivot-other Q F m n s (G (a + x)) (C (a + x)) (R (a + x)) (J (a + x)) ((cell-at (a + x) l).row) ((cell-at (a + x) l).nonzero) i k ne

      within_one : ((x : ℕ) → a ≤ x → x < b → K x ≡ One) → ⊥
      within_one one =
          let some : 0 < L = omega arith in
          no_cycle Q F m n s (first_costs Q F p) L (λ x. G (a + x)) (λ x. C (a + x)) (λ x k. F.add (G (a + x) m k) (first_costs Q F p k)) (λ x. R (a + x)) (λ x. J (a + x)) (record {
            step = λ x l. (let y : a + x < b = inside x l in step-one-at (a + x) (omega arith) (one (a + x) (omega arith) y));
            tied = λ x l. (kept (a + x) (omega arith)).tied;
            priced = λ x l. (kept (a + x) (omega arith)).first;
            feasible = λ x i l li. (kept (a + x) (omega arith)).feasible i li;
            table = λ x i k l. table-next x i k;
            basis = λ x i l. basis-next x i;
            costs = λ x l. (let y : a + x < N = (let z : a + x < b = inside x l in omega arith) in let row : R (a + x) < m = (cell-at (a + x) y).row in let ne : m ≢ R (a + x) = omega arith in
                ap (λ w. F.add w (first_costs Q F p (n + m))) (row-next x m (n + m) y ne)
                ∙ sym (shift-costs Q F (G (a + x) m (n + m)) (first_costs Q F p (n + m)) (G (a + x) m (J (a + x))) (first_costs Q F p (J (a + x))) (ratio Q F m n (G (a + x)) (J (a + x)) (R (a + x))) (first_costs-real Q F p (J (a + x)) (cell-at (a + x) y).column)));
          }) forth' back' some

      within_two : ((x : ℕ) → a ≤ x → x < b → K x ≡ Two) → ⊥
      within_two two =
          let some : 0 < L = omega arith in
          no_cycle Q F m n s (last_costs Q F p) L (λ x. G (a + x)) (λ x. C (a + x)) (λ x k. G (a + x) (m + 1) k) (λ x. R (a + x)) (λ x. J (a + x)) (record {
            step = λ x l. (let y : a + x < b = inside x l in step-two-at (a + x) (omega arith) (two (a + x) (omega arith) y));
            tied = λ x l. (kept (a + x) (omega arith)).tied;
            priced = λ x l. (kept (a + x) (omega arith)).last;
            feasible = λ x i l li. (kept (a + x) (omega arith)).feasible i li;
            table = λ x i k l. table-next x i k;
            basis = λ x i l. basis-next x i;
            costs = λ x l. (let y : a + x < N = (let z : a + x < b = inside x l in omega arith) in let row : R (a + x) < m = (cell-at (a + x) y).row in let ne : m + 1 ≢ R (a + x) = omega arith in
                row-next x (m + 1) (n + m) y ne);
          }) forth' back' some

      no_repeat : ⊥
      no_repeat =
          let y : ℕ = b - 1 in
          let e : suc y ≡ b = omega arith in
          elim (phase-cases (K y)) [
            | inl one ↦ within_one (λ x la lx. all-one y x (omega arith) (omega arith) one)
            | inr more ↦ elim more [
              | inl drive ↦ no_drive y (omega arith) (omega arith) drive
              | inr two ↦ elim (phase-cases (K a)) [
                | inl one ↦ no_return one (ap (λ z. (state_at z).phase) (sym e) ∙ next-phase y (omega arith) ∙ two)
                | inr other ↦ elim other [
                  | inl drive ↦ no_drive a (omega arith) lt drive
                  | inr first ↦ within_two (λ x la lx. all-two x a (omega arith) la first)
                ]
              ]
            ]
          ]

    -- Counting.

    code : ℕ → ℕ
    code x = rank (member (C x) m) (n + m) m

    code-is : (x : ℕ) → code x ≡ rank (member (C x) m) (n + m) m
    unfolding code
    code-is x = refl

    counted : (x : ℕ) → x ≤ N → ◌≡◌ {A = ℕ} (count (member (C x) m) (n + m)) m
    counted x l = count-member (C x) m (n + m) ((kept x l).range) (λ i h li lh e. different Q F m n s (G x) (C x) i h li lh ((kept x l).tied) e)

    has-same : (x y : ℕ) → x ≤ N → y ≤ N → code x ≡ code y → (k : ℕ) → Has (C x) m k → Has (C y) m k
    has-same x y lx ly e k h =
        let low : k < n + m = (let r : C x h.0 < n + m = (kept x lx).range h.0 h.1 in let q : C x h.0 ≡ k = h.2 in omega arith) in
        member-has (C y) m k (sym (rank-same (member (C x) m) (member (C y) m) (n + m) m (counted x lx) (counted y ly) (sym (code-is x) ∙ e ∙ code-is y) k low) ∙ has-member (C x) m k h)

    few : N < choose (n + m) m
    few =
        let all : suc N ≤ choose (n + m) m = pigeonhole (suc N) (choose (n + m) m) code
        (λ x l. (let r : rank (member (C x) m) (n + m) m < choose (n + m) m = rank-below (member (C x) m) (n + m) m (counted x (omega arith)) in let e : code x ≡ rank (member (C x) m) (n + m) m = code-is x in omega arith))
        (λ x y l ly e. no_repeat x y l (omega arith) (has-same x y (omega arith) (omega arith) e) (has-same y x (omega arith) (omega arith) (sym e))) in
        omega arith

  pub basic-has : (x : ℕ) (t : Table Q) (g : Rows Q F m n) (c : ℕ → ℕ) (k : ℕ) → IsShadow Q F p t g c → Basic t k → Has c m k
  basic-has x t g c k h b =
      let low : b.0 < length t.basis = b.1 in
      let long : length t.basis ≡ m = h.long in
      let lm : b.0 < m = omega arith in
      (b.0, lm, sym (h.basis b.0 lm) ∙ b.2)

  pub has-basic : (t : Table Q) (g : Rows Q F m n) (c : ℕ → ℕ) (k : ℕ) → IsShadow Q F p t g c → Has c m k → Basic t k
  has-basic t g c k h b =
      let low : b.0 < m = b.1 in
      let long : length t.basis ≡ m = h.long in
      (b.0, omega arith, h.basis b.0 b.1 ∙ b.2)

  -- No basis comes twice.
  pub never_repeats : NeverRepeats Q F p
  never_repeats i k a b e f lt same =
      let ra : IsReached i a = run-is i a e in
      let rb : IsReached k b = run-is k b f in
      let sa : IsShadow Q F p a.table (G i) (C i) = subst (λ z. IsShadow Q F p z.table (G i) (C i)) (sym ra.here) ((kept k rb.pivots i (omega arith)).shadow) in
      let sb : IsShadow Q F p b.table (G k) (C k) = subst (λ z. IsShadow Q F p z.table (G k) (C k)) (sym rb.here) ((kept k rb.pivots k (omega arith)).shadow) in
      no_repeat k rb.pivots i k lt (omega arith)
      (λ x h. basic-has 0 b.table (G k) (C k) x sb (same.forth x (has-basic a.table (G i) (C i) x sa h)))
      (λ x h. basic-has 0 a.table (G i) (C i) x sa (same.back x (has-basic b.table (G k) (C k) x sb h)))

  -- The run ends within as many pivots as there are sets of columns.
  pub ends_soon : EndsSoon Q F p
  ends_soon k b f = few k ((run-is k b f).pivots)

  more-run : (x : ℕ) (a : State Q) (d : Due) → run Q F p x ≡ Some a → due_at Q F a ≡ d → IsPivot d → (b : State Q) × (run Q F p (suc x) ≡ Some b)
  more-run x a (Pivot q r j) e f i = (record { phase = q; table = pivoted Q F a.table r j }, rw (e, f) refl)
  more-run x a (End y) e f i = absurd i

  -- A budget of one less is enough.
  pub never_spent : NeverSpent Q F p
  never_spent budget le h =
      let b : (b : State Q) × (run Q F p (suc budget) ≡ Some b) = more-run budget h.state (due_at Q F h.state) h.reached refl h.more in
      let l : suc budget < choose (n + m) m = ends_soon (suc budget) b.0 b.1 in
      absurd (omega arith)

  due-kind : (d : Due) → ((e : Ending) × (d ≡ End e)) ⊎ IsPivot d
  due-kind (Pivot q r j) = inr tt
  due-kind (End e) = inl (e, refl)

  -- the run is over after fewer than k pivots, or it goes on to the k-th
  over-or-on : (k : ℕ) → ((x : ℕ) × (x < k) × IsOver Q F p x) ⊎ ((a : State Q) × (run Q F p k ≡ Some a))
  over-or-on zero = inr (begun Q F p, refl)
  over-or-on (suc k) = elim (over-or-on k) [
    | inl h ↦ (let l : h.0 < k = h.1 in inl (h.0, omega arith, h.2))
    | inr a ↦ elim (due-kind (due_at Q F a.0)) [
      | inl d ↦ inl (k, omega arith, record { state = a.0; ending = d.0; reached = a.1; over = d.1 })
      | inr i ↦ inr (more-run k a.0 (due_at Q F a.0) a.1 refl i)
    ]
  ]

  pub ends : Ends Q F p
  ends = elim (over-or-on (choose (n + m) m)) [
    | inl h ↦ h
    | inr a ↦ (let l : choose (n + m) m < choose (n + m) m = ends_soon (choose (n + m) m) a.0 a.1 in absurd (omega arith))
  ]
