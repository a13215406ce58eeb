-- What the end of a run shows, said of the vectors of the outcome.
use Rattle.std.proofs.Common.{◌≡◌, ℕ, List, pos, sym, ◌∙◌, ap, subst}
use Rattle.dc_math.specs.Rational.{ℚ, ◌*ℚ◌, of_ℤ, ◌≤ℚ◌, ◌<ℚ◌, NonNegative}
use Rattle.dc_math.specs.Sums.{sum_ℚ_same}
use Rattle.dc_frac.specs.declared.Frac.{Frac}
use Rattle.dc_frac.specs.Value.{value}
use Rattle.dc_lp.specs.Folds.{numbers}
use Rattle.dc_lp.specs.Linear.{Linear, left_side, combined, combined_right, cost_of, IsSolution, IsDual, IsRefutation, IsRay, CostAtLeast}
use Rattle.dc_lp.proofs.Duality as duality
use Rattle.dc_lp.specs.Tables.{Table}
use Rattle.dc_pivots.specs.Runs as runs
use Rattle.dc_pivots.specs.declared.Ending.{Ending}
use Rattle.dc_pivots.specs.declared.Ending.TheVariants as endings
use Rattle.dc_pivots.specs.Outcomes as ends
use Rattle.dc_simplex.specs.declared.Outcome.{Outcome}
use Rattle.dc_simplex.specs.declared.Outcome.TheVariants.{Optimal, Infeasible, Unbounded}
use Rattle.dc_simplex.specs.Outcomes.{IsVector, TellsEnd, Shows}

module _ (p : Linear ℚ) (f : ℕ → ℚ) (xs : List Frac) where
  -- ---- a vector of unknowns
  left-same : IsVector p.columns f xs → (i : ℕ) → left_side p (numbers xs) i ≡ left_side p f i
  left-same v i = sum_ℚ_same p.columns _ _ (λ j l. ap (λ z. p.coefficient i j *ℚ z) (v.each j l))

  cost-same : IsVector p.columns f xs → cost_of p (numbers xs) ≡ cost_of p f
  cost-same v = sum_ℚ_same p.columns _ _ (λ j l. ap (λ z. p.cost j *ℚ z) (v.each j l))

  solution-same : IsVector p.columns f xs → IsSolution p f → IsSolution p (numbers xs)
  solution-same v h = record {
    signs = λ j l. subst NonNegative (sym (v.each j l)) (h.signs j l);
    equations = λ i l. left-same v i ∙ h.equations i l;
  }

  ray-same : IsVector p.columns f xs → IsRay p f → IsRay p (numbers xs)
  ray-same v h = record {
    signs = λ j l. subst NonNegative (sym (v.each j l)) (h.signs j l);
    equations = λ i l. left-same v i ∙ h.equations i l;
    falls = subst (λ z. z <ℚ of_ℤ (pos 0)) (sym (cost-same v)) h.falls;
  }

  -- ---- a vector of multipliers
  combined-same : IsVector p.equations f xs → (j : ℕ) → combined p (numbers xs) j ≡ combined p f j
  combined-same v j = sum_ℚ_same p.equations _ _ (λ i l. ap (λ z. z *ℚ p.coefficient i j) (v.each i l))

  right-same : IsVector p.equations f xs → combined_right p (numbers xs) ≡ combined_right p f
  right-same v = sum_ℚ_same p.equations _ _ (λ i l. ap (λ z. z *ℚ p.right_side i) (v.each i l))

  dual-same : IsVector p.equations f xs → IsDual p f → IsDual p (numbers xs)
  dual-same v h = record { prices = λ j l. subst (λ z. z ≤ℚ p.cost j) (sym (combined-same v j)) (h.prices j l) }

  refutation-same : IsVector p.equations f xs → IsRefutation p f → IsRefutation p (numbers xs)
  refutation-same v h = record {
    prices = λ j l. subst (λ z. z ≤ℚ of_ℤ (pos 0)) (sym (combined-same v j)) (h.prices j l);
    right_side = subst (λ z. of_ℤ (pos 0) <ℚ z) (sym (right-same v)) h.right_side;
  }

pub shown : (p : Linear ℚ) (t : Table ℚ) (e : Ending) (o : Outcome) → ends.Shows p t e → TellsEnd p t e o → Shows p o
shown p t endings.Optimal (Optimal x y v n) h k =
    let dual : IsDual p (numbers y.items) = dual-same p _ y.items k.dual h.dual in
    let price : combined_right p (numbers y.items) ≡ value v = right-same p _ y.items k.dual ∙ h.price ∙ sym k.value in
    record {
      solution = solution-same p _ x.items k.solution h.solution;
      dual = dual;
      cost = cost-same p _ x.items k.solution ∙ h.cost ∙ sym k.value;
      price = price;
      least = subst (CostAtLeast p) price (duality.weak p _ dual);
    }
shown p t endings.Optimal (Infeasible y n) h k = absurd k
shown p t endings.Optimal (Unbounded x r n) h k = absurd k
shown p t endings.Infeasible (Optimal x y v n) h k = absurd k
shown p t endings.Infeasible (Infeasible y n) h k =
    let refutation : IsRefutation p (numbers y.items) = refutation-same p _ y.items k h in
    record { refutation = refutation; none = duality.excludes p _ refutation }
shown p t endings.Infeasible (Unbounded x r n) h k = absurd k
shown p t (endings.Unbounded j) (Optimal x y v n) h k = absurd k
shown p t (endings.Unbounded j) (Infeasible y n) h k = absurd k
shown p t (endings.Unbounded j) (Unbounded x r n) h k =
    let ray = ray-same p _ r.items k.ray h.ray in
    record { solution = solution-same p _ x.items k.solution h.solution; ray = ray; falls = duality.ray p _ ray }
