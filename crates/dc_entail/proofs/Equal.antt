-- Equal problems have one run, so one outcome.
use Rattle.std.specs.Prelude.{◌≡◌, ℕ, zero, suc, ◌+◌, ◌<◌, ◌≤◌, cond, List, length, ℤ, Option, Some}
use Rattle.std.specs.Option.{option_and_then}
use Rattle.std.proofs.Common.{refl, sym, ◌∙◌, ap, ap₂, subst, arith, inl, inr}
use Rattle.std.proofs.lemmas.Bool.{cases_eq, cases_lt, eq-eqb, ne_eqb, lt-ltb, le-ltb}
use mathlib.Core.Path.{fun_ext}
use Rattle.dc_math.specs.Rational.{ℚ, of_ℤ}
use Rattle.dc_math.specs.RationalField.{rationals}
use Rattle.dc_math.specs.Field.{minus, nonneg}
use Rattle.dc_frac.specs.declared.Frac.{Frac}
use Rattle.dc_lp.specs.Linear.{Linear}
use Rattle.dc_lp.specs.Tables.{Table, made, at, start_entry, minus_sum, start_value, start}
use Rattle.dc_pivots.specs.Runs.{State, run, after, due_at}
use Rattle.dc_pivots.specs.declared.Phase.TheVariants.{One}
use Rattle.dc_pivots.specs.declared.Ending.{Ending}
use Rattle.dc_pivots.specs.declared.Ending.TheVariants as endings
use Rattle.dc_simplex.specs.declared.Outcome.{Outcome}
use Rattle.dc_simplex.specs.declared.Outcome.TheVariants.{Optimal, Infeasible, Unbounded}
use Rattle.dc_simplex.specs.Limits.{AllFit, IsReached, Answer, Done, Past, Out, IsAnswer}
use Rattle.dc_simplex.specs.Outcomes.{IsVector, multiplier_at, TellsEnd, pivots_of, IsOutcome}
use Rattle.dc_simplex.specs.Ends.{ComesTo, IsBestAt, IsRefutedAt}
use Rattle.dc_simplex.proofs.OneAnswer.{has_one_answer}
use Rattle.dc_simplex.proofs.OneOutcome.{has_one_outcome}
use Rattle.dc_simplex.proofs.Ends.{one_best, one_refuted}
use Rattle.dc_points.specs.Stated.{rational}
use Rattle.dc_points.proofs.Same.{same_problem}
use Rattle.dc_entail.specs.Equal.{AreEqual, EqualHaveOneOutcome, EqualHaveOneAnswer, EqualHaveOneSolution, EqualHaveOneRefutation}

signed_same : (r s x y : ℚ) → r ≡ s → x ≡ y → cond (nonneg ℚ rationals r) x (rationals.neg x) ≡ cond (nonneg ℚ rationals s) y (rationals.neg y)
signed_same r s x y e h = ap₂ (λ a b. cond (nonneg ℚ rationals a) b (rationals.neg b)) e h

-- ---- two problems of one size that agree within it
module _ (m n : ℕ) (f g : ℕ → ℕ → ℚ) (b d u w : ℕ → ℚ)
    (entries : (i j : ℕ) → i < m → j < n → f i j ≡ g i j) (rights : (i : ℕ) → i < m → b i ≡ d i) (costs : (j : ℕ) → j < n → u j ≡ w j) where
  abbrev p : Linear ℚ
  p = record { equations = m; columns = n; coefficient = f; right_side = b; cost = u }

  abbrev q : Linear ℚ
  q = record { equations = m; columns = n; coefficient = g; right_side = d; cost = w }

  start_entry-same : (i k : ℕ) → i < m → start_entry ℚ rationals p i k ≡ start_entry ℚ rationals q i k
  unfolding start_entry
  start_entry-same i k l = elim (cases_lt k n) [
    | inl a ↦ rw (lt-ltb k n a) (signed_same (b i) (d i) (f i k) (g i k) (rights i l) (entries i k l a))
    | inr a ↦ rw (le-ltb k n a) (elim (cases_lt k (n + m)) [
      | inl c ↦ rw (lt-ltb k (n + m) c) refl
      | inr c ↦ rw (le-ltb k (n + m) c) (signed_same (b i) (d i) (b i) (d i) (rights i l) (rights i l))
    ])
  ]

  minus_sum-same : (k x : ℕ) → x ≤ m → minus_sum ℚ rationals p k x ≡ minus_sum ℚ rationals q k x
  unfolding minus_sum
  minus_sum-same k zero l = refl
  minus_sum-same k (suc x) l = ap₂ (minus ℚ rationals) (minus_sum-same k x (omega arith)) (start_entry-same x k (omega arith))

  start_value-same : (i k : ℕ) → start_value ℚ rationals p i k ≡ start_value ℚ rationals q i k
  unfolding start_value
  start_value-same i k = elim (cases_lt i m) [
    | inl a ↦ rw (lt-ltb i m a) (start_entry-same i k a)
    | inr a ↦ rw (le-ltb i m a) (elim (cases_eq i m) [
      | inl e ↦ rw (eq-eqb i m e) (minus_sum-same k m (omega arith))
      | inr ne ↦ rw (ne_eqb i m ne) (elim (cases_lt k n) [ inl c ↦ rw (lt-ltb k n c) (costs k c) | inr c ↦ rw (le-ltb k n c) refl ])
    ])
  ]

  -- the table of these values
  abbrev table_of : (ℕ → ℕ → ℚ) → Table ℚ
  table_of v = record { real = n; rows = made (m + 2) (λ i. made (n + m + 1) (λ k. v i k)); basis = made m (λ i. n + i) }

  start-same : start ℚ rationals p ≡ start ℚ rationals q
  unfolding start
  start-same =
      let P : ℕ → ℕ → ℚ = λ i k. start_value ℚ rationals p i k in
      let O : ℕ → ℕ → ℚ = λ i k. start_value ℚ rationals q i k in
      let e : P ≡ O = fun_ext (λ i. fun_ext (λ k. start_value-same i k)) in
      ap table_of e

  abbrev started : Table ℚ → Option (State ℚ)
  started t = Some (record { phase = One; table = t })

  run-same : (x : ℕ) → run ℚ rationals p x ≡ run ℚ rationals q x
  run-same zero = ap started start-same
  run-same (suc x) = ap (option_and_then (λ (s : State ℚ). after ℚ rationals s.table (due_at ℚ rationals s))) (run-same x)

  -- ---- answers
  fit-same : (x : ℕ) → AllFit p x → AllFit q x
  fit-same x h i s l e = h i s l (run-same i ∙ e)

  reached-same : (x : ℕ) (s : State ℚ) → IsReached p x s → IsReached q x s
  reached-same x s h = record { fit = fit-same x h.fit; reached = sym (run-same x) ∙ h.reached }

  answer-same : (budget : ℕ) (a : Answer) → IsAnswer p budget a → IsAnswer q budget a
  answer-same budget (Done x e t) h = (record { phase = h.0.phase; reaches = reached-same x _ h.0.reaches; over = h.0.over }, h.1)
  answer-same budget (Past k) h = (record { before = h.0.before; number = h.0.number; state = h.0.state; reaches = reached-same h.0.before h.0.state h.0.reaches; unfit = h.0.unfit }, h.1)
  answer-same budget (Out x) h = (
    record { fit = fit-same x h.0.fit; spent = record { state = h.0.spent.state; reached = sym (run-same x) ∙ h.0.spent.reached; more = h.0.spent.more } },
    h.1,
  )

  -- ---- vectors
  multiplier-same : (t : Table ℚ) (row i : ℕ) → i < m → multiplier_at p t row i ≡ multiplier_at q t row i
  multiplier-same t row i l = ap (λ x. cond (nonneg ℚ rationals x) (rationals.neg (at ℚ rationals t row (n + i))) (at ℚ rationals t row (n + i))) (rights i l)

  vector-same : (t : Table ℚ) (row : ℕ) (y : List Frac) → IsVector m (multiplier_at p t row) y → IsVector m (multiplier_at q t row) y
  vector-same t row y h = record { long = h.long; each = λ k l. h.each k l ∙ multiplier-same t row k l }

  tells-same : (t : Table ℚ) (e : Ending) (o : Outcome) → TellsEnd p t e o → TellsEnd q t e o
  tells-same t endings.Optimal (Optimal x y v k) h = record { solution = h.solution; dual = vector-same t (length t.basis + 1) y.items h.dual; value = h.value }
  tells-same t endings.Optimal (Infeasible y k) h = absurd h
  tells-same t endings.Optimal (Unbounded x r k) h = absurd h
  tells-same t endings.Infeasible (Optimal x y v k) h = absurd h
  tells-same t endings.Infeasible (Infeasible y k) h = vector-same t (length t.basis) y.items h
  tells-same t endings.Infeasible (Unbounded x r k) h = absurd h
  tells-same t (endings.Unbounded j) (Optimal x y v k) h = absurd h
  tells-same t (endings.Unbounded j) (Infeasible y k) h = absurd h
  tells-same t (endings.Unbounded j) (Unbounded x r k) h = record { solution = h.solution; ray = h.ray }

  outcome-same : (o : Outcome) → IsOutcome p o → IsOutcome q o
  outcome-same o h = record {
    ending = h.ending;
    state = h.state;
    reached = sym (run-same (pivots_of o)) ∙ h.reached;
    over = h.over;
    vectors = tells-same h.state.table h.ending o h.vectors;
  }

  comes-same : (budget : ℕ) (e : Ending) (t : Table ℚ) → ComesTo p budget e t → ComesTo q budget e t
  comes-same budget e t h = record { pivots = h.pivots; answer = answer-same budget (Done h.pivots e t) h.answer }

  best-same : (budget : ℕ) (x : List Frac) → IsBestAt p budget x → IsBestAt q budget x
  best-same budget x h = record { table = h.table; comes = comes-same budget endings.Optimal h.table h.comes; vector = h.vector }

  refuted-same : (budget : ℕ) (y : List Frac) → IsRefutedAt p budget y → IsRefutedAt q budget y
  refuted-same budget y h = record {
    table = h.table;
    comes = comes-same budget endings.Infeasible h.table h.comes;
    vector = vector-same h.table (length h.table.basis) y h.vector;
  }

-- ---- equal problems
module _ (p q : Linear ℤ) (s : AreEqual p q) where
  -- the second one with the sizes of the first
  abbrev resized : Linear ℚ
  resized = record {
    equations = p.equations;
    columns = p.columns;
    coefficient = λ i j. of_ℤ (q.coefficient i j);
    right_side = λ i. of_ℤ (q.right_side i);
    cost = λ j. of_ℤ (q.cost j);
  }

  resized-same : resized ≡ rational q
  resized-same = same_problem resized (rational q) s.equations s.columns (λ i j. refl) (λ i. refl) (λ j. refl)

  module _ (P : Linear ℚ → Type 0) where
    carried : P resized → P (rational q)
    carried h = subst P resized-same h

  entries-same : (i j : ℕ) → i < p.equations → j < p.columns → of_ℤ (p.coefficient i j) ≡ of_ℤ (q.coefficient i j)
  entries-same i j l k = ap of_ℤ (s.coefficients i j l k)

  rights-same : (i : ℕ) → i < p.equations → of_ℤ (p.right_side i) ≡ of_ℤ (q.right_side i)
  rights-same i l = ap of_ℤ (s.right_sides i l)

  costs-same : (j : ℕ) → j < p.columns → of_ℤ (p.cost j) ≡ of_ℤ (q.cost j)
  costs-same j l = ap of_ℤ (s.costs j l)

  abbrev first : Linear ℚ
  first = rational p

  abbrev second : Linear ℚ
  second = resized

  pub equal-outcome : (o : Outcome) → IsOutcome (rational p) o → IsOutcome (rational q) o
  equal-outcome o h = carried (λ r. IsOutcome r o)
      (outcome-same first.equations first.columns first.coefficient second.coefficient first.right_side second.right_side first.cost second.cost entries-same rights-same costs-same o h)

  pub equal-answer : (budget : ℕ) (a : Answer) → IsAnswer (rational p) budget a → IsAnswer (rational q) budget a
  equal-answer budget a h = carried (λ r. IsAnswer r budget a)
      (answer-same first.equations first.columns first.coefficient second.coefficient first.right_side second.right_side first.cost second.cost entries-same rights-same costs-same budget a h)

  pub equal-best : (budget : ℕ) (x : List Frac) → IsBestAt (rational p) budget x → IsBestAt (rational q) budget x
  equal-best budget x h = carried (λ r. IsBestAt r budget x)
      (best-same first.equations first.columns first.coefficient second.coefficient first.right_side second.right_side first.cost second.cost entries-same rights-same costs-same budget x h)

  pub equal-refuted : (budget : ℕ) (y : List Frac) → IsRefutedAt (rational p) budget y → IsRefutedAt (rational q) budget y
  equal-refuted budget y h = carried (λ r. IsRefutedAt r budget y)
      (refuted-same first.equations first.columns first.coefficient second.coefficient first.right_side second.right_side first.cost second.cost entries-same rights-same costs-same budget y h)

-- ---- the laws
pub equal_have_one_outcome : EqualHaveOneOutcome
equal_have_one_outcome p q a b s h k = has_one_outcome (rational q) a b (equal-outcome p q s a h) k

pub equal_have_one_answer : EqualHaveOneAnswer
equal_have_one_answer p q budget a b s h k = has_one_answer (rational q) budget a b (equal-answer p q s budget a h) k

pub equal_have_one_solution : EqualHaveOneSolution
equal_have_one_solution p q budget x z s h k = one_best (rational q) budget x z (equal-best p q s budget x h) k

pub equal_have_one_refutation : EqualHaveOneRefutation
equal_have_one_refutation p q budget y z s h k = one_refuted (rational q) budget y z (equal-refuted p q s budget y h) k
