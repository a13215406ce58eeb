-- Which pivot is due, and which end, by what enters, leaves and is driven out.
use Rattle.std.proofs.Common.{◌≡◌, ◌≢◌, ℕ, ◌+◌, ◌⊎◌, inl, inr, true, false, length, Option, Some, None, refl, sym, ◌∙◌, ap, subst}
use Rattle.std.proofs.lemmas.Bool.{cases_Bool}
use Rattle.dc_math.specs.Field.{Field, is_negative}
use Rattle.dc_lp.specs.Tables.{Table, at, right, entering, ratio_row, drive_cell}
use Rattle.dc_pivots.specs.Runs.{Phase, One, Drive, Two, Ending, Infeasible, Optimal, Unbounded, Pivot, End, leave_two, enter_two, due_two, drive_out, due_drive, end_one, leave_one, enter_one, due_one, due}

module _ (Q : Type 0) (F : Field Q) where
  -- Each kind of pivot that is due.

  abbrev no_cell : Option (ℕ × ℕ)
  no_cell = None

  pub data Move (t : Table Q) : Phase → Phase → ℕ → ℕ → Type 0 where
    stays_one : {r j : ℕ} → entering Q F t (length t.basis) ≡ Some j → ratio_row Q F t j ≡ Some r → Move t One One r j
    ends_one : {r j : ℕ} → is_negative Q F (at Q F t (length t.basis) (right Q F t)) ≡ false → drive_cell Q F t ≡ Some (r, j) → Move t One Drive r j
    drives : {r j : ℕ} → drive_cell Q F t ≡ Some (r, j) → Move t Drive Drive r j
    begins_two : {q : Phase} {r j : ℕ} → ((q ≢ One) ⊎ (is_negative Q F (at Q F t (length t.basis) (right Q F t)) ≡ false)) → drive_cell Q F t ≡ no_cell → entering Q F t (length t.basis + 1) ≡ Some j → ratio_row Q F t j ≡ Some r → Move t q Two r j
    stays_two : {r j : ℕ} → entering Q F t (length t.basis + 1) ≡ Some j → ratio_row Q F t j ≡ Some r → Move t Two Two r j

  record Fields (p q : Phase) (a b r j : ℕ) : Type 0 where
    phases : p ≡ q
    rows : a ≡ r
    columns : b ≡ j

  fields : (p q : Phase) (a b r j : ℕ) → Pivot p a b ≡ Pivot q r j → Fields p q a b r j
  fields p q a b r j e = record { phases = cc; rows = cc; columns = cc }

  record IsTwo (t : Table Q) (q : Phase) (r j : ℕ) : Type 0 where
    phase : q ≡ Two
    enters : entering Q F t (length t.basis + 1) ≡ Some j
    leaves : ratio_row Q F t j ≡ Some r

  leave_two-is : (t : Table Q) (k : ℕ) (q : Phase) (r j : ℕ) (o : Option ℕ) → entering Q F t (length t.basis + 1) ≡ Some k → ratio_row Q F t k ≡ o → leave_two k o ≡ Pivot q r j → IsTwo t q r j
  leave_two-is t k q r j None e f h = absurd (cc)
  leave_two-is t k q r j (Some x) e f h = (let g : Fields Two q x k r j = fields Two q x k r j h in
      record { phase = sym g.phases; enters = e ∙ ap Some g.columns; leaves = ap (ratio_row Q F t) (sym g.columns) ∙ f ∙ ap Some g.rows })

  enter_two-is : (t : Table Q) (q : Phase) (r j : ℕ) (o : Option ℕ) → entering Q F t (length t.basis + 1) ≡ o → enter_two Q F t o ≡ Pivot q r j → IsTwo t q r j
  enter_two-is t q r j None e h = absurd (cc)
  enter_two-is t q r j (Some k) e h = leave_two-is t k q r j (ratio_row Q F t k) e refl h

  two-is : (t : Table Q) (q : Phase) (r j : ℕ) → due_two Q F t ≡ Pivot q r j → IsTwo t q r j
  unfolding due_two
  two-is t q r j h = enter_two-is t q r j (entering Q F t (length t.basis + 1)) refl h

  -- a pivot of drive-out, or the first of phase two
  abbrev IsLater : Table Q → Phase → ℕ → ℕ → Type 0
  IsLater t q r j = ((q ≡ Drive) × (drive_cell Q F t ≡ Some (r, j))) ⊎ ((drive_cell Q F t ≡ no_cell) × IsTwo t q r j)

  drive_out-is : (t : Table Q) (q : Phase) (r j : ℕ) (o : Option (ℕ × ℕ)) → drive_cell Q F t ≡ o → drive_out Q F t o ≡ Pivot q r j → IsLater t q r j
  drive_out-is t q r j None e h = inr (e, two-is t q r j h)
  drive_out-is t q r j (Some (a, b)) e h = (let g : Fields Drive q a b r j = fields Drive q a b r j h in
      inl (sym g.phases, e ∙ ap (λ x. Some (x, b)) g.rows ∙ ap (λ x. Some (r, x)) g.columns))

  drive-later : (t : Table Q) (q : Phase) (r j : ℕ) → due_drive Q F t ≡ Pivot q r j → IsLater t q r j
  unfolding due_drive
  drive-later t q r j h = drive_out-is t q r j (drive_cell Q F t) refl h

  abbrev IsAfterOne : Table Q → Phase → ℕ → ℕ → Type 0
  IsAfterOne t q r j = (is_negative Q F (at Q F t (length t.basis) (right Q F t)) ≡ false) × IsLater t q r j

  end-is : (t : Table Q) (q : Phase) (r j : ℕ) → end_one Q F t ≡ Pivot q r j → IsAfterOne t q r j
  unfolding end_one
  end-is t q r j h = elim (cases_Bool (is_negative Q F (at Q F t (length t.basis) (right Q F t)))) [
    | inl b ↦ (let f : End Infeasible ≡ Pivot q r j = rw b at h in absurd (cc))
    | inr b ↦ (b, drive-later t q r j (rw b at h))
  ]

  abbrev IsOne : Table Q → Phase → ℕ → ℕ → Type 0
  IsOne t q r j = ((q ≡ One) × (entering Q F t (length t.basis) ≡ Some j) × (ratio_row Q F t j ≡ Some r)) ⊎ IsAfterOne t q r j

  leave_one-is : (t : Table Q) (k : ℕ) (q : Phase) (r j : ℕ) (o : Option ℕ) → entering Q F t (length t.basis) ≡ Some k → ratio_row Q F t k ≡ o → leave_one Q F t k o ≡ Pivot q r j → IsOne t q r j
  leave_one-is t k q r j None e f h = inr (end-is t q r j h)
  leave_one-is t k q r j (Some x) e f h = (let g : Fields One q x k r j = fields One q x k r j h in
      inl (sym g.phases, e ∙ ap Some g.columns, ap (ratio_row Q F t) (sym g.columns) ∙ f ∙ ap Some g.rows))

  enter_one-is : (t : Table Q) (q : Phase) (r j : ℕ) (o : Option ℕ) → entering Q F t (length t.basis) ≡ o → enter_one Q F t o ≡ Pivot q r j → IsOne t q r j
  enter_one-is t q r j None e h = inr (end-is t q r j h)
  enter_one-is t q r j (Some k) e h = leave_one-is t k q r j (ratio_row Q F t k) e refl h

  one-is : (t : Table Q) (q : Phase) (r j : ℕ) → due_one Q F t ≡ Pivot q r j → IsOne t q r j
  unfolding due_one
  one-is t q r j h = enter_one-is t q r j (entering Q F t (length t.basis)) refl h

  drive-one : Drive ≢ One
  drive-one e = absurd (cc)

  pub move : (phase : Phase) (t : Table Q) (q : Phase) (r j : ℕ) → due Q F phase t ≡ Pivot q r j → Move t phase q r j
  move One t q r j h = elim (one-is t q r j h) [
    | inl o ↦ subst (λ x. Move t One x r j) (sym o.0) (stays_one o.1 o.2)
    | inr l ↦ elim l.1 [
      | inl d ↦ subst (λ x. Move t One x r j) (sym d.0) (ends_one l.0 d.1)
      | inr w ↦ subst (λ x. Move t One x r j) (sym w.1.phase) (begins_two (inr l.0) w.0 w.1.enters w.1.leaves)
    ]
  ]
  move Drive t q r j h = elim (drive-later t q r j h) [
    | inl d ↦ subst (λ x. Move t Drive x r j) (sym d.0) (drives d.1)
    | inr w ↦ subst (λ x. Move t Drive x r j) (sym w.1.phase) (begins_two (inl drive-one) w.0 w.1.enters w.1.leaves)
  ]
  move Two t q r j h = (let w : IsTwo t q r j = two-is t q r j h in subst (λ x. Move t Two x r j) (sym w.phase) (stays_two w.enters w.leaves))

  -- The end.

  abbrev no_column : Option ℕ
  no_column = None

  -- phase two ends
  abbrev pub IsTwoEnd : Table Q → Ending → Type 0
  IsTwoEnd t e = ((e ≡ Optimal) × (entering Q F t (length t.basis + 1) ≡ no_column)) ⊎ ((j : ℕ) × (e ≡ Unbounded j) × (entering Q F t (length t.basis + 1) ≡ Some j) × (ratio_row Q F t j ≡ no_column))

  -- no column enters in phase one, or no row leaves
  abbrev pub IsOneEnd : Table Q → Type 0
  IsOneEnd t = (entering Q F t (length t.basis) ≡ no_column) ⊎ ((j : ℕ) × (entering Q F t (length t.basis) ≡ Some j) × (ratio_row Q F t j ≡ no_column))

  pub data Stop (t : Table Q) : Phase → Ending → Type 0 where
    none_feasible : is_negative Q F (at Q F t (length t.basis) (right Q F t)) ≡ true → IsOneEnd t → Stop t One Infeasible
    finishes : {q : Phase} {e : Ending} → ((q ≢ One) ⊎ (is_negative Q F (at Q F t (length t.basis) (right Q F t)) ≡ false)) → ((q ≡ Two) ⊎ (drive_cell Q F t ≡ no_cell)) → IsTwoEnd t e → Stop t q e

  same-end : (a b : Ending) → End a ≡ End b → a ≡ b
  same-end a b e = (cc)

  leave-end : (t : Table Q) (k : ℕ) (e : Ending) (o : Option ℕ) → entering Q F t (length t.basis + 1) ≡ Some k → ratio_row Q F t k ≡ o → leave_two k o ≡ End e → IsTwoEnd t e
  leave-end t k e None f g h = inr (k, sym (same-end (Unbounded k) e h), f, g)
  leave-end t k e (Some r) f g h = absurd (cc)

  enter-end : (t : Table Q) (e : Ending) (o : Option ℕ) → entering Q F t (length t.basis + 1) ≡ o → enter_two Q F t o ≡ End e → IsTwoEnd t e
  enter-end t e None f h = inl (sym (same-end Optimal e h), f)
  enter-end t e (Some k) f h = leave-end t k e (ratio_row Q F t k) f refl h

  two-end : (t : Table Q) (e : Ending) → due_two Q F t ≡ End e → IsTwoEnd t e
  unfolding due_two
  two-end t e h = enter-end t e (entering Q F t (length t.basis + 1)) refl h

  out-end : (t : Table Q) (e : Ending) (o : Option (ℕ × ℕ)) → drive_cell Q F t ≡ o → drive_out Q F t o ≡ End e → (drive_cell Q F t ≡ no_cell) × IsTwoEnd t e
  out-end t e None f h = (f, two-end t e h)
  out-end t e (Some (a, b)) f h = absurd (cc)

  drive-end : (t : Table Q) (e : Ending) → due_drive Q F t ≡ End e → (drive_cell Q F t ≡ no_cell) × IsTwoEnd t e
  unfolding due_drive
  drive-end t e h = out-end t e (drive_cell Q F t) refl h

  one-end : (t : Table Q) (e : Ending) → IsOneEnd t → end_one Q F t ≡ End e → Stop t One e
  unfolding end_one
  one-end t e i h = elim (cases_Bool (is_negative Q F (at Q F t (length t.basis) (right Q F t)))) [
    | inl b ↦ (let f : End Infeasible ≡ End e = rw b at h in subst (λ x. Stop t One x) (same-end Infeasible e f) (none_feasible b i))
    | inr b ↦ (let d = drive-end t e (rw b at h) in finishes (inr b) (inr d.0) d.1)
  ]

  leave_one-end : (t : Table Q) (k : ℕ) (e : Ending) (o : Option ℕ) → entering Q F t (length t.basis) ≡ Some k → ratio_row Q F t k ≡ o → leave_one Q F t k o ≡ End e → Stop t One e
  leave_one-end t k e None f g h = one-end t e (inr (k, f, g)) h
  leave_one-end t k e (Some r) f g h = absurd (cc)

  enter_one-end : (t : Table Q) (e : Ending) (o : Option ℕ) → entering Q F t (length t.basis) ≡ o → enter_one Q F t o ≡ End e → Stop t One e
  enter_one-end t e None f h = one-end t e (inl f) h
  enter_one-end t e (Some k) f h = leave_one-end t k e (ratio_row Q F t k) f refl h

  due_one-end : (t : Table Q) (e : Ending) → due_one Q F t ≡ End e → Stop t One e
  unfolding due_one
  due_one-end t e h = enter_one-end t e (entering Q F t (length t.basis)) refl h

  two-one : Two ≢ One
  two-one e = absurd (cc)

  pub stop : (phase : Phase) (t : Table Q) (e : Ending) → due Q F phase t ≡ End e → Stop t phase e
  stop One t e h = due_one-end t e h
  stop Drive t e h = (let d = drive-end t e h in finishes (inl drive-one) (inr d.0) d.1)
  stop Two t e h = finishes (inl two-one) (inl refl) (two-end t e h)
