-- The states that a run reaches with pivots that fit.
use Rattle.std.proofs.Common.{◌≡◌, ℕ, zero, suc, ◌+◌, ◌<◌, ◌≤◌, true, false, ◌&&◌, Option, Some, None, refl, sym, ◌∙◌, ap, arith, add-one, inl, inr, nat_lt}
use Rattle.std.specs.Option.{option_and_then}
use Rattle.std.proofs.lemmas.Bool.{cases_Bool, ltb-true, ltb-false}
use Rattle.dc_math.specs.Rational.{ℚ}
use Rattle.dc_math.specs.RationalField.{rationals}
use Rattle.dc_lp.specs.Linear.{Linear}
use Rattle.dc_lp.specs.Tables.{Table}
use Rattle.dc_lp.specs.Meanings.{pivoted, pivot_fits}
use Rattle.dc_pivots.specs.Runs.{State, due_at, begun, after, run, IsPivot}
use Rattle.dc_pivots.specs.declared.Phase.{Phase}
use Rattle.dc_pivots.specs.declared.Ending.{Ending}
use Rattle.dc_pivots.specs.declared.Due.{Due}
use Rattle.dc_pivots.specs.declared.Due.TheVariants.{Pivot, End}
use Rattle.dc_simplex.specs.Limits.{test_fits, change_fits, due_in, fits, AllFit, IsReached}

pub unfit-pivots : (t : Table ℚ) (d : Due) → test_fits t d && change_fits t d ≡ false → IsPivot d
unfit-pivots t (Pivot q r j) h = tt
unfit-pivots t (End e) h = absurd (cc)

pub untested-pivots : (t : Table ℚ) (d : Due) → test_fits t d ≡ false → IsPivot d
untested-pivots t (Pivot q r j) h = tt
untested-pivots t (End e) h = absurd (cc)

pub no_pivot : (d : Due) (e : Ending) → d ≡ End e → IsPivot d → ⊥
no_pivot (Pivot q r j) e h k = absurd (cc)
no_pivot (End f) e h k = k

module _ (p : Linear ℚ) where
  abbrev at_state : Phase → Table ℚ → State ℚ
  at_state q t = record { phase = q; table = t }

  pub one_state : (n : ℕ) (s t : State ℚ) → run ℚ rationals p n ≡ Some s → run ℚ rationals p n ≡ Some t → s ≡ t
  one_state n s t e f = (let g : Some s ≡ Some t = sym e ∙ f in cc)

  -- ---- on

  pub reached-begun : IsReached p 0 (begun ℚ rationals p)
  reached-begun = record { fit = λ i s lt e. absurd (omega arith); reached = refl }

  pub fit-more : (n : ℕ) (s : State ℚ) → IsReached p n s → fits s ≡ true → AllFit p (n + 1)
  fit-more n s h f i t lt e = elim (cases_Bool (nat_lt i n)) [
    | inl b ↦ h.fit i t (ltb-true i n b) e
    | inr b ↦
        let up : n ≤ i = ltb-false i n b in
        let same : i ≡ n = omega arith in
        ap fits (one_state i t s e (ap (run ℚ rationals p) same ∙ h.reached)) ∙ f
  ]

  pub reached-more : (n : ℕ) (phase : Phase) (t : Table ℚ) (q : Phase) (r j : ℕ) → IsReached p n (at_state phase t) → due_in phase t ≡ Pivot q r j → test_fits t (due_in phase t) ≡ true → pivot_fits t r j ≡ true → IsReached p (n + 1) (at_state q (pivoted t r j))
  reached-more n phase t q r j h e b c =
      let f : fits (at_state phase t) ≡ true = rw b (rw e c) in
      record { fit = fit-more n (at_state phase t) h f; reached = rw (add-one, h.reached, e) refl }

  -- ---- back

  after-pivots : (t : Table ℚ) (d : Due) (s : State ℚ) → after ℚ rationals t d ≡ Some s → IsPivot d
  after-pivots t (Pivot q r j) s e = tt
  after-pivots t (End x) s e = absurd (cc)

  -- before a state of the run there is one with a pivot due
  pub record IsBefore (n : ℕ) : Type 0 where
    pub state : State ℚ
    pub reached : run ℚ rationals p n ≡ Some state
    pub more : IsPivot (due_in state.phase state.table)

  last : (m : ℕ) (o : Option (State ℚ)) (t : State ℚ) → run ℚ rationals p m ≡ o → option_and_then (λ (s : State ℚ). after ℚ rationals s.table (due_at ℚ rationals s)) o ≡ Some t → IsBefore m
  last m None t e f = absurd (cc)
  last m (Some s) t e f = record { state = s; reached = e; more = after-pivots s.table (due_at ℚ rationals s) t f }

  pub before : (m n : ℕ) (t : State ℚ) → run ℚ rationals p m ≡ Some t → n < m → IsBefore n
  before zero n t e lt = absurd (omega arith)
  before (suc m) n t e lt =
      let b : IsBefore m = last m (run ℚ rationals p m) t refl e in
      elim (cases_Bool (nat_lt n m)) [
        | inl x ↦ before m n b.state b.reached (ltb-true n m x)
        | inr x ↦
            let up : m ≤ n = ltb-false n m x in
            let same : n ≡ m = omega arith in
            record { state = b.state; reached = ap (run ℚ rationals p) same ∙ b.reached; more = b.more }
      ]
