-- What the end of a run shows, in the words of linear problems over the rational numbers.
use Rattle.std.specs.Prelude.{◌≡◌, ℕ, ◌+◌, length, false, pos}
use Rattle.std.proofs.Common.{inl, inr, subst, sym, ◌∙◌}
use Rattle.std.proofs.lemmas.Bool.{both_ways}
use Rattle.dc_math.specs.Rational.{ℚ, of_ℤ, ◌<ℚ◌, ≤ℚ_or, sub-≤ℚ, neg_ℚ, le_ℚ}
use Rattle.dc_math.specs.RationalField.{rationals, NonNegative-neg_ℚ, neg_ℚ-NonNegative}
use Rattle.dc_math.specs.Tests.{le_ℚ-true, le_ℚ_true, le_ℚ_false}
use Rattle.dc_lp.specs.Linear.{Linear, IsSolution, IsDual, IsRefutation, IsRay, CostAtLeast}
use Rattle.dc_lp.proofs.Duality.{weak, excludes}
use Rattle.dc_lp.proofs.Duality as duality
use Rattle.dc_lp.specs.Tables.{Table}
use Rattle.dc_pivots.specs.Runs.{Ending, Infeasible, Optimal, Unbounded}
use Rattle.dc_pivots.specs.Vectors.{solution_at, direction_at, multiplier_at}
use Rattle.dc_pivots.specs.Outcomes.{Shows, Says, Outcome, Best, Refuted, Falling}
use Rattle.dc_pivots.specs.Laws.{EndsRight, EndsTrue, HasOutcome}
use Rattle.dc_pivots.proofs.Certificates as field
use Rattle.dc_pivots.proofs.Outcomes.{ends_right}
use Rattle.dc_pivots.proofs.Whole.{ends}

-- a number whose negation isn't at least 0 is above 0
above : (x : ℚ) → le_ℚ (of_ℤ (pos 0)) (neg_ℚ x) ≡ false → of_ℤ (pos 0) <ℚ x
above x e = elim (≤ℚ_or x (of_ℤ (pos 0))) [
  | inl l ↦ absurd (both_ways (le_ℚ (of_ℤ (pos 0)) (neg_ℚ x)) e (le_ℚ-true _ _ (NonNegative-neg_ℚ x l)))
  | inr l ↦ l
]

module _ (p : Linear ℚ) where
  solution : (x : ℕ → ℚ) → field.IsSolution ℚ rationals p x → IsSolution p x
  solution x h = record { signs = λ j l. le_ℚ_true _ _ (h.signs j l); equations = h.equations }

  dual : (y : ℕ → ℚ) → field.IsDual ℚ rationals p y → IsDual p y
  dual y h = record { prices = λ j l. sub-≤ℚ _ _ (le_ℚ_true _ _ (h.prices j l)) }

  refutation : (y : ℕ → ℚ) → field.IsRefutation ℚ rationals p y → IsRefutation p y
  refutation y h = record { prices = λ j l. neg_ℚ-NonNegative _ (le_ℚ_true _ _ (h.columns j l)); right_side = above _ h.right_side }

  ray : (r : ℕ → ℚ) → field.IsRay ℚ rationals p r → IsRay p r
  ray r h = record { signs = λ j l. le_ℚ_true _ _ (h.signs j l); equations = h.equations; falls = le_ℚ_false _ _ h.falls }

  shows : (t : Table ℚ) (e : Ending) → field.Shows ℚ rationals p t e → Shows p t e
  shows t Optimal h = record { solution = solution _ h.solution; dual = dual _ h.dual; cost = h.cost; price = h.price }
  shows t Infeasible h = refutation _ h
  shows t (Unbounded j) h = record { solution = solution _ h.solution; ray = ray _ h.ray }

  says : (t : Table ℚ) (e : Ending) → Shows p t e → Says p t e
  says t Optimal h = subst (CostAtLeast p) h.price (weak p _ h.dual)
  says t Infeasible h = excludes p _ h
  says t (Unbounded j) h = duality.ray p _ h.ray

pub ends_right_rational : EndsRight
ends_right_rational p n s e r d = shows p s.table e (ends_right ℚ rationals p n s e r d)

pub ends_true : EndsTrue
ends_true p n s e r d = says p s.table e (ends_right_rational p n s e r d)

-- ---- every problem has an outcome: that of the last table of its run
outcome : (p : Linear ℚ) (t : Table ℚ) (e : Ending) → Shows p t e → Outcome p
outcome p t Optimal h = Best (solution_at ℚ rationals t) (multiplier_at ℚ rationals p t (length t.basis + 1)) h.solution h.dual (h.cost ∙ sym h.price)
outcome p t Infeasible h = Refuted (multiplier_at ℚ rationals p t (length t.basis)) h
outcome p t (Unbounded j) h = Falling (solution_at ℚ rationals t) (direction_at ℚ rationals t j) h.solution h.ray

pub has_outcome : HasOutcome
has_outcome p =
    let o = (ends ℚ rationals p).2 in
    outcome p o.state.table o.ending (ends_right_rational p (ends ℚ rationals p).0 o.state o.ending o.reached o.over)
