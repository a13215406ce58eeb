-- From a run on a tableau to the answer of `solve`.
use Rattle.std.proofs.Common.{◌≡◌, ◌≢◌, ℕ, ◌+◌, ◌<◌, ◌≤◌, length, Some, Result, Ok, Err, refl, sym, ◌∙◌, ap, subst, arith, inl, inr, ◌⊎◌, pos, List}
use Rattle.dc_math.specs.Rational.{ℚ, of_ℤ}
use Rattle.dc_math.specs.RationalField.{rationals}
use Rattle.dc_lp.specs.Linear.{Linear}
use Rattle.dc_lp.specs.Tables.{Table}
use Rattle.dc_lp.specs.Meanings.{Meaning, IsUsable}
use Rattle.dc_pivots.specs.Runs as runs
use Rattle.dc_pivots.specs.Runs.{State, run}
use Rattle.dc_pivots.specs.declared.Phase.{Phase}
use Rattle.dc_pivots.specs.declared.Ending.{Ending}
use Rattle.dc_pivots.specs.declared.Ending.TheVariants.{Optimal, Infeasible, Unbounded}
use Rattle.dc_pivots.specs.declared.Due.TheVariants.{End}
use Rattle.dc_pivots.specs.FieldLaws.{choose, IsFeasible, AreOpposite}
use Rattle.dc_pivots.proofs.Choices.{Stop, none_feasible, finishes, stop}
use Rattle.dc_pivots.proofs.Cells.{stays_feasible}
use Rattle.dc_pivots.proofs.Opposites.{stay_opposite}
use Rattle.dc_pivots.proofs.Rationals.{ends_right_rational}
use Rattle.dc_pivots.proofs.Whole.{never_spent}
use Rattle.dc_simplex.specs.declared.Outcome.{Outcome}
use Rattle.dc_simplex.specs.declared.Outcome.TheVariants as code
use Rattle.dc_frac.specs.declared.Frac.{Frac}
use Rattle.dc_simplex.specs.declared.SolveFault.{SolveFault}
use Rattle.dc_simplex.specs.declared.SolveFault.TheVariants.{Past128, Budget, NoMemory}
use Rattle.dc_simplex.specs.Limits.{due_in, EndsWith, Answer, Done, Past, Out, IsAnswer}
use Rattle.dc_simplex.specs.Outcomes.{IsVector, solution_at, direction_at, TellsEnd, TellsDone, pivots_of, Solves, IsToldBy, TellsOnly, Shows, HasZero, UsesOne, UsesOneOfOpposites}
use Rattle.dc_simplex.specs.Steps.{Runs, IsAlong}
use Rattle.dc_simplex.proofs.Dues.{entering-real}
use Rattle.dc_simplex.proofs.OneAnswer.{one_answer}
use Rattle.dc_simplex.proofs.Shown.{shown}

same_column : (j k : ℕ) → Unbounded j ≡ Unbounded k → j ≡ k
same_column j k e = cc

-- the column along which there is no bound is real
along : (t : Table ℚ) (q : Phase) (e : Ending) (j : ℕ) → Stop ℚ rationals t q e → e ≡ Unbounded j → j < t.real
along t q e j (none_feasible a b) s = absurd (cc)
along t q e j (finishes a b (inl c)) s = (let o : Optimal ≡ Unbounded j = sym c.0 ∙ s in absurd (cc))
along t q e j (finishes a b (inr (k, u, f, g))) s = (let same : k ≡ j = same_column k j (sym u ∙ s) in rw (← same) (entering-real t (length t.basis + 1) k f))

-- what the end of a run says of the tableau's size
pub record IsSized (p : Linear ℚ) (e : Ending) (left : Meaning) : Type 0 where
  pub usable : IsUsable left
  pub rows : p.equations ≡ length left.table.basis
  pub columns : p.columns ≡ left.table.real
  pub along : IsAlong p.columns e

module _ (p : Linear ℚ) (budget : ℕ) (left : Meaning) where
  along-of : (n : ℕ) (e : Ending) (t : Table ℚ) → t.real ≡ p.columns → EndsWith p n e t → IsAlong p.columns e
  along-of n Infeasible t r h = tt
  along-of n Optimal t r h = tt
  along-of n (Unbounded j) t r h = (let l : j < t.real = along t h.phase (Unbounded j) j (stop ℚ rationals h.phase t (Unbounded j) h.over) refl in rw (← r) l)

  pub sized : (e : Ending) (k : ℕ) → Runs p budget left (Ok (e, k)) → IsSized p e left
  sized e k h =
      let d : EndsWith p k e left.table = h.0.0 in
      let f : IsFeasible ℚ rationals p left.table = stays_feasible ℚ rationals p k (record { phase = d.phase; table = left.table }) d.reaches.reached in
      record {
        usable = record { loaded = ap (λ (y : Meaning). y.loaded) h.1; whole = ap (λ (y : Meaning). y.broken) h.1 };
        rows = sym f.rows;
        columns = sym f.real;
        along = along-of k e left.table f.real d;
      }

  pub solves-ok : (e : Ending) (k : ℕ) (o : Outcome) → Runs p budget left (Ok (e, k)) → TellsEnd p left.table e o → pivots_of o ≡ k → Solves p budget left (Ok o)
  solves-ok e k o h v same =
      let a : IsAnswer p budget (Done (pivots_of o) e left.table) = subst (λ i. IsAnswer p budget (Done i e left.table)) (sym same) h.0 in
      record {
        outcome = record { ending = e; state = record { phase = a.0.phase; table = left.table }; reached = a.0.reaches.reached; over = a.0.over; vectors = v };
        fit = a.0.reaches.fit;
        within = a.1;
        rest = h.1;
      }

  pub solves-err : (f : SolveFault) → Runs p budget left (Err f) → Solves p budget left (Err f)
  solves-err (Past128 k) h = h
  solves-err (Budget n) h = h
  solves-err NoMemory h = tt

  told : (a b : Answer) (r : Result Outcome SolveFault) → a ≡ b → IsToldBy a r → IsToldBy b r
  told a b r e h = subst (λ x. IsToldBy x r) e h

  pub only : (r : Result Outcome SolveFault) → Solves p budget left r → TellsOnly p budget r
  only (Ok o) h a k =
      let u = h.outcome in
      let e : EndsWith p (pivots_of o) u.ending u.state.table = record { phase = u.state.phase; reaches = record { fit = h.fit; reached = u.reached }; over = u.over } in
      told (Done (pivots_of o) u.ending u.state.table) a (Ok o) (one_answer p budget _ a (e, h.within) k) refl
  only (Err (Past128 i)) h a k = told (Past i) a (Err (Past128 i)) (one_answer p budget (Past i) a h k) refl
  only (Err (Budget n)) h a k = told (Out n) a (Err (Budget n)) (one_answer p budget (Out n) a h k) refl
  only (Err NoMemory) h (Done n e t) k = tt
  only (Err NoMemory) h (Past i) k = tt
  only (Err NoMemory) h (Out n) k = tt

  pub shows : (o : Outcome) → TellsDone p budget left o → Shows p o
  shows o h = (let u = h.outcome in shown p u.state.table u.ending o (ends_right_rational p (pivots_of o) u.state u.ending u.reached u.over) u.vectors)

  zero-of : (f : ℕ → ℚ) (xs : List Frac) (u v : ℕ) → IsVector p.columns f xs → u < p.columns → v < p.columns → (f u ≡ of_ℤ (pos 0)) ⊎ (f v ≡ of_ℤ (pos 0)) → HasZero xs u v
  zero-of f xs u v w a b (inl e) = inl (w.each u a ∙ e)
  zero-of f xs u v w a b (inr e) = inr (w.each v b ∙ e)

  uses : (n : ℕ) (s : State ℚ) (e : Ending) (o : Outcome) (u v : ℕ) → run ℚ rationals p n ≡ Some s → due_in s.phase s.table ≡ End e → TellsEnd p s.table e o → AreOpposite ℚ rationals p u v → UsesOne o u v
  uses n s Optimal (code.Optimal x y w k) u v r d t h = zero-of (solution_at s.table) x.items u v t.solution h.first h.second ((stay_opposite ℚ rationals p u v h).solution n s r)
  uses n s Optimal (code.Infeasible y k) u v r d t h = tt
  uses n s Optimal (code.Unbounded x y k) u v r d t h = absurd t
  uses n s Infeasible (code.Optimal x y w k) u v r d t h = absurd t
  uses n s Infeasible (code.Infeasible y k) u v r d t h = tt
  uses n s Infeasible (code.Unbounded x y k) u v r d t h = absurd t
  uses n s (Unbounded j) (code.Optimal x y w k) u v r d t h = absurd t
  uses n s (Unbounded j) (code.Infeasible y k) u v r d t h = tt
  uses n s (Unbounded j) (code.Unbounded x y k) u v r d t h = record {
    solution = zero-of (solution_at s.table) x.items u v t.solution h.first h.second ((stay_opposite ℚ rationals p u v h).solution n s r);
    ray = zero-of (direction_at s.table j) y.items u v t.ray h.first h.second ((stay_opposite ℚ rationals p u v h).ray n s j r d);
  }

  pub opposites : (o : Outcome) → TellsDone p budget left o → UsesOneOfOpposites p o
  opposites o h u v k = (let d = h.outcome in uses (pivots_of o) d.state d.ending o u v d.reached d.over d.vectors k)

  out : (n : ℕ) → Solves p budget left (Err (Budget n)) → choose (p.columns + p.equations) p.equations ≤ budget → ⊥
  out n h le = (let same : n ≡ budget = h.1 in never_spent ℚ rationals p n (omega arith) h.0.spent)

  pub enough : (r : Result Outcome SolveFault) → Solves p budget left r → choose (p.columns + p.equations) p.equations ≤ budget → (n : ℕ) → r ≢ Err (Budget n)
  enough (Ok o) h le n e = absurd (cc)
  enough (Err (Past128 k)) h le n e = absurd (cc)
  enough (Err (Budget k)) h le n e = out k h le
  enough (Err NoMemory) h le n e = absurd (cc)
