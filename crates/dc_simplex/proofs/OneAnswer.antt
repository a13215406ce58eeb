-- A run has one answer within a budget.
use Rattle.std.proofs.Common.{◌≡◌, ℕ, zero, suc, ◌+◌, ◌<◌, ◌≤◌, Bool, true, false, ◌&&◌, Some, refl, sym, ◌∙◌, ap, subst, arith, inl, inr, ◌⊎◌, nat_lt}
use Rattle.std.proofs.lemmas.Bool.{cases_Bool, ltb-true, ltb-false}
use Rattle.dc_math.specs.Rational.{ℚ}
use Rattle.dc_math.specs.RationalField.{rationals}
use Rattle.dc_lp.specs.Linear.{Linear}
use Rattle.dc_lp.specs.Tables.{Table}
use Rattle.dc_lp.specs.Meanings.{pivoted}
use Rattle.dc_pivots.specs.Runs.{State, run, IsPivot}
use Rattle.dc_pivots.specs.declared.Ending.{Ending}
use Rattle.dc_pivots.specs.declared.Due.{Due}
use Rattle.dc_pivots.specs.declared.Due.TheVariants.{Pivot, End}
use Rattle.dc_simplex.specs.Limits.{test_fits, change_fits, due_in, fits, IsReached, EndsWith, IsPast, IsSpent, Answer, Done, Past, Out, IsAnswer, HasAnswer, HasOneAnswer}
use Rattle.dc_simplex.proofs.Reach.{unfit-pivots, no_pivot, one_state, reached-begun, reached-more, IsBefore, before}

-- two numbers in order, or equal
pub ordered : (m n : ℕ) → ((m < n) ⊎ (n < m)) ⊎ (m ≡ n)
ordered m n = elim (cases_Bool (nat_lt m n)) [
  | inl b ↦ inl (inl (ltb-true m n b))
  | inr b ↦ elim (cases_Bool (nat_lt n m)) [
    | inl d ↦ inl (inr (ltb-true n m d))
    | inr d ↦ (let x : n ≤ m = ltb-false m n b in let y : m ≤ n = ltb-false n m d in inr (omega arith))
  ]
]

module _ (p : Linear ℚ) where
  -- the run doesn't go on behind its end
  no_more : (n : ℕ) (e : Ending) (t : Table ℚ) (m : ℕ) (s : State ℚ) → EndsWith p n e t → run ℚ rationals p m ≡ Some s → n < m → ⊥
  no_more n e t m s h r lt =
      let b : IsBefore p n = before p m n s r lt in
      let same : b.state ≡ record { phase = h.phase; table = t } = one_state p n _ _ b.reached h.reaches.reached in
      no_pivot (due_in h.phase t) e h.over (subst (λ (z : State ℚ). IsPivot (due_in z.phase z.table)) same b.more)

  -- at its end no pivot is due
  none_due : (n : ℕ) (e : Ending) (t : Table ℚ) (s : State ℚ) → EndsWith p n e t → run ℚ rationals p n ≡ Some s → IsPivot (due_in s.phase s.table) → ⊥
  none_due n e t s h r k =
      let same : s ≡ record { phase = h.phase; table = t } = one_state p n _ _ r h.reaches.reached in
      no_pivot (due_in h.phase t) e h.over (subst (λ (z : State ℚ). IsPivot (due_in z.phase z.table)) same k)

  one_done : (n m : ℕ) (e f : Ending) (t u : Table ℚ) → EndsWith p n e t → EndsWith p m f u → ◌≡◌ {A = Answer} (Done n e t) (Done m f u)
  one_done n m e f t u h k = elim (ordered n m) [
    | inl (inl lt) ↦ absurd (no_more n e t m _ h k.reaches.reached lt)
    | inl (inr lt) ↦ absurd (no_more m f u n _ k h.reaches.reached lt)
    | inr same ↦
        let g : ◌≡◌ {A = State ℚ} (record { phase = h.phase; table = t }) (record { phase = k.phase; table = u }) = one_state p n _ _ h.reaches.reached (ap (run ℚ rationals p) same ∙ k.reaches.reached) in
        let d : End e ≡ End f = sym h.over ∙ ap (λ (z : State ℚ). due_in z.phase z.table) g ∙ k.over in
        let ends : e ≡ f = (cc) in
        let tables : t ≡ u = ap (λ (z : State ℚ). z.table) g in
        cc
  ]

  -- where the first n pivots fit, the first that doesn't comes later
  past_later : (n k : ℕ) (h : IsPast p k) → ((i : ℕ) (s : State ℚ) → i < n → run ℚ rationals p i ≡ Some s → fits s ≡ true) → h.before < n → ⊥
  past_later n k h fit lt = (let e : fits h.state ≡ true = fit h.before h.state lt h.reaches.reached in let u = h.unfit in absurd (cc))

  done_past : (n k : ℕ) (e : Ending) (t : Table ℚ) → EndsWith p n e t → IsPast p k → ⊥
  done_past n k e t h g = elim (ordered n g.before) [
    | inl (inl lt) ↦ no_more n e t g.before _ h g.reaches.reached lt
    | inl (inr lt) ↦ past_later n k g h.reaches.fit lt
    | inr same ↦ none_due n e t g.state h (ap (run ℚ rationals p) same ∙ g.reaches.reached) (unfit-pivots g.state.table (due_in g.state.phase g.state.table) g.unfit)
  ]

  done_out : (n m : ℕ) (e : Ending) (t : Table ℚ) → EndsWith p n e t → IsSpent p m → n ≤ m → ⊥
  done_out n m e t h g le = elim (ordered n m) [
    | inl (inl lt) ↦ no_more n e t m _ h g.spent.reached lt
    | inl (inr lt) ↦ absurd (omega arith)
    | inr same ↦ none_due n e t g.spent.state h (ap (run ℚ rationals p) same ∙ g.spent.reached) g.spent.more
  ]

  one_past : (k l : ℕ) → IsPast p k → IsPast p l → k ≡ l
  one_past k l h g =
      let a : k ≡ h.before + 1 = h.number in
      let b : l ≡ g.before + 1 = g.number in
      elim (ordered h.before g.before) [
        | inl (inl lt) ↦ absurd (past_later g.before k h g.reaches.fit lt)
        | inl (inr lt) ↦ absurd (past_later h.before l g h.reaches.fit lt)
        | inr same ↦ omega arith
      ]

  past_out : (k n budget : ℕ) → IsPast p k → k ≤ budget → IsSpent p n → n ≡ budget → ⊥
  past_out k n budget h le g e = (let a : k ≡ h.before + 1 = h.number in past_later n k h g.fit (omega arith))

  pub one_answer : (budget : ℕ) (a b : Answer) → IsAnswer p budget a → IsAnswer p budget b → a ≡ b
  one_answer budget (Done n e t) (Done m f u) h k = one_done n m e f t u h.0 k.0
  one_answer budget (Done n e t) (Past k) h g = absurd (done_past n k e t h.0 g.0)
  one_answer budget (Done n e t) (Out m) h g = (let le : n ≤ budget = h.1 in let same : m ≡ budget = g.1 in absurd (done_out n m e t h.0 g.0 (omega arith)))
  one_answer budget (Past k) (Done n e t) g h = absurd (done_past n k e t h.0 g.0)
  one_answer budget (Past k) (Past l) h g = ap Past (one_past k l h.0 g.0)
  one_answer budget (Past k) (Out n) h g = absurd (past_out k n budget h.0 h.1 g.0 g.1)
  one_answer budget (Out m) (Done n e t) g h = (let le : n ≤ budget = h.1 in let same : m ≡ budget = g.1 in absurd (done_out n m e t h.0 g.0 (omega arith)))
  one_answer budget (Out n) (Past k) g h = absurd (past_out k n budget h.0 h.1 g.0 g.1)
  one_answer budget (Out m) (Out n) h g = ap Out (h.1 ∙ sym g.1)

  -- ---- and it has one

  abbrev Found : ℕ → Type 0
  Found budget = (a : Answer) × IsAnswer p budget a

  abbrev Goes : ℕ → Type 0
  Goes n = (s : State ℚ) × IsReached p n s

  parts : (a b : Bool) → a && b ≡ true → (a ≡ true) × (b ≡ true)
  parts true true e = (refl, refl)
  parts true false e = absurd (cc)
  parts false b e = absurd (cc)

  on : (budget n : ℕ) (s : State ℚ) (d : Due) → suc n ≤ budget → IsReached p n s → due_in s.phase s.table ≡ d → Found budget ⊎ Goes (suc n)
  on budget n s (End e) le h o = inl (Done n e s.table, (record { phase = s.phase; reaches = h; over = o }, omega arith))
  on budget n s (Pivot q r j) le h o = elim (cases_Bool (fits s)) [
    | inl b ↦
        let c : (test_fits s.table (due_in s.phase s.table) ≡ true) × (change_fits s.table (due_in s.phase s.table) ≡ true) = parts _ _ b in
        let m : IsReached p (n + 1) (record { phase = q; table = pivoted s.table r j }) = reached-more p n s.phase s.table q r j h o c.0 (sym (ap (change_fits s.table) o) ∙ c.1) in
        let e : n + 1 ≡ suc n = omega arith in
        inr (record { phase = q; table = pivoted s.table r j }, subst (λ k. IsReached p k (record { phase = q; table = pivoted s.table r j })) e m)
    | inr b ↦ inl (Past (n + 1), (record { before = n; number = refl; state = s; reaches = h; unfit = b }, omega arith))
  ]

  go : (budget n : ℕ) → n ≤ budget → Found budget ⊎ Goes n
  go budget zero le = inr (_, reached-begun p)
  go budget (suc n) le = elim (go budget n (omega arith)) [
    | inl a ↦ inl a
    | inr (s, h) ↦ on budget n s (due_in s.phase s.table) le h refl
  ]

  over : (budget : ℕ) (s : State ℚ) (d : Due) → IsReached p budget s → due_in s.phase s.table ≡ d → Found budget
  over budget s (End e) h o = (Done budget e s.table, (record { phase = s.phase; reaches = h; over = o }, omega arith))
  over budget s (Pivot q r j) h o = (Out budget, (record { fit = h.fit; spent = record { state = s; reached = h.reached; more = subst IsPivot (sym o) tt } }, refl))

  pub some_answer : (budget : ℕ) → Found budget
  some_answer budget = elim (go budget budget (omega arith)) [
    | inl a ↦ a
    | inr (s, h) ↦ over budget s (due_in s.phase s.table) h refl
  ]

pub has_answer : HasAnswer
has_answer p budget = some_answer p budget

pub has_one_answer : HasOneAnswer
has_one_answer p budget a b h k = one_answer p budget a b h k
