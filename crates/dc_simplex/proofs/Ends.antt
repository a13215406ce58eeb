-- The vectors of an outcome that `solve` told, each by itself; and that each is one list.
use Rattle.std.proofs.Common.{◌≡◌, ℕ, ◌+◌, List, length, sym, ap, subst}
use Rattle.std.specs.declared.vec.Vec.{Vec}
use Rattle.std.specs.declared.alloc.Global.{Global}
use Rattle.dc_math.specs.Rational.{ℚ}
use Rattle.dc_frac.specs.declared.Frac.{Frac}
use Rattle.dc_lp.specs.Linear.{Linear}
use Rattle.dc_lp.specs.Tables.{Table}
use Rattle.dc_lp.specs.Meanings.{Meaning}
use Rattle.dc_pivots.specs.declared.Ending.{Ending}
use Rattle.dc_pivots.specs.declared.Ending.TheVariants as endings
use Rattle.dc_simplex.specs.declared.Outcome.{Outcome}
use Rattle.dc_simplex.specs.declared.Outcome.TheVariants.{Optimal, Infeasible, Unbounded}
use Rattle.dc_simplex.specs.Limits.{Answer, Done, IsAnswer}
use Rattle.dc_simplex.specs.Outcomes.{IsVector, solution_at, multiplier_at, pivots_of, TellsEnd, TellsDone}
use Rattle.dc_simplex.specs.Ends.{ComesTo, IsBestAt, IsDualAt, IsRefutedAt, IsUnboundedAt}
use Rattle.dc_simplex.proofs.OneAnswer.{one_answer}
use Rattle.dc_simplex.proofs.OneOutcome.{same_vector}

module _ (p : Linear ℚ) (budget : ℕ) (left : Meaning) where
  -- the answer of the run behind an outcome
  pub answer_of : (o : Outcome) (h : TellsDone p budget left o) → IsAnswer p budget (Done (pivots_of o) h.outcome.ending h.outcome.state.table)
  answer_of o h = (let u = h.outcome in (record { phase = u.state.phase; reaches = record { fit = h.fit; reached = u.reached }; over = u.over }, h.within))

  abbrev Comes : ℕ → Ending → Table ℚ → Type 0
  Comes n e t = IsAnswer p budget (Done n e t)

  pub best_at : (x y : Vec Frac Global) (v : Frac) (n : ℕ) → TellsDone p budget left (Optimal x y v n) → IsBestAt p budget x.items
  best_at x y v n h = by h.outcome.ending h.outcome.state.table h.outcome.vectors (answer_of (Optimal x y v n) h)
    where
      by : (e : Ending) (t : Table ℚ) → TellsEnd p t e (Optimal x y v n) → Comes n e t → IsBestAt p budget x.items
      by endings.Optimal t k a = record { table = t; comes = record { pivots = n; answer = a }; vector = k.solution }
      by endings.Infeasible t k a = absurd k
      by (endings.Unbounded j) t k a = absurd k

  pub dual_at : (x y : Vec Frac Global) (v : Frac) (n : ℕ) → TellsDone p budget left (Optimal x y v n) → IsDualAt p budget y.items
  dual_at x y v n h = by h.outcome.ending h.outcome.state.table h.outcome.vectors (answer_of (Optimal x y v n) h)
    where
      by : (e : Ending) (t : Table ℚ) → TellsEnd p t e (Optimal x y v n) → Comes n e t → IsDualAt p budget y.items
      by endings.Optimal t k a = record { table = t; comes = record { pivots = n; answer = a }; vector = k.dual }
      by endings.Infeasible t k a = absurd k
      by (endings.Unbounded j) t k a = absurd k

  pub refuted_at : (y : Vec Frac Global) (n : ℕ) → TellsDone p budget left (Infeasible y n) → IsRefutedAt p budget y.items
  refuted_at y n h = by h.outcome.ending h.outcome.state.table h.outcome.vectors (answer_of (Infeasible y n) h)
    where
      by : (e : Ending) (t : Table ℚ) → TellsEnd p t e (Infeasible y n) → Comes n e t → IsRefutedAt p budget y.items
      by endings.Optimal t k a = absurd k
      by endings.Infeasible t k a = record { table = t; comes = record { pivots = n; answer = a }; vector = k }
      by (endings.Unbounded j) t k a = absurd k

  pub unbounded_at : (x r : Vec Frac Global) (n : ℕ) → TellsDone p budget left (Unbounded x r n) → IsUnboundedAt p budget x.items r.items
  unbounded_at x r n h = by h.outcome.ending h.outcome.state.table h.outcome.vectors (answer_of (Unbounded x r n) h)
    where
      by : (e : Ending) (t : Table ℚ) → TellsEnd p t e (Unbounded x r n) → Comes n e t → IsUnboundedAt p budget x.items r.items
      by endings.Optimal t k a = absurd k
      by endings.Infeasible t k a = absurd k
      by (endings.Unbounded j) t k a = record { table = t; column = j; comes = record { pivots = n; answer = a }; solution = k.solution; ray = k.ray }

-- ---- one list
module _ (p : Linear ℚ) (budget : ℕ) where
  one_table : (e : Ending) (t u : Table ℚ) → ComesTo p budget e t → ComesTo p budget e u → t ≡ u
  one_table e t u h k = same_table h.pivots k.pivots t u (one_answer p budget _ _ h.answer k.answer)
    where
      same_table : (n m : ℕ) (t u : Table ℚ) → ◌≡◌ {A = Answer} (Done n e t) (Done m e u) → t ≡ u
      same_table n m t u q = cc

  pub one_best : (x z : List Frac) → IsBestAt p budget x → IsBestAt p budget z → x ≡ z
  one_best x z h k = same_vector p.columns (solution_at h.table) x z h.vector
      (subst (λ t. IsVector p.columns (solution_at t) z) (sym (one_table endings.Optimal h.table k.table h.comes k.comes)) k.vector)

  pub one_refuted : (y z : List Frac) → IsRefutedAt p budget y → IsRefutedAt p budget z → y ≡ z
  one_refuted y z h k = same_vector p.equations (multiplier_at p h.table (length h.table.basis)) y z h.vector
      (subst (λ t. IsVector p.equations (multiplier_at p t (length t.basis)) z) (sym (one_table endings.Infeasible h.table k.table h.comes k.comes)) k.vector)
