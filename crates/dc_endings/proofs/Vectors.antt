-- The vectors of the table at which a run ends.
use Rattle.std.specs.Prelude.{◌≡◌, ◌⊎◌, ℕ, suc, ◌+◌, ◌*◌, ◌-◌, ◌<◌, ◌==◌, Bool, true, false, cond, length, ℤ, pos, Option, Some, None, [], ◌∷◌}
use Rattle.std.proofs.Common.{refl, sym, ◌∙◌, ap, subst, arith, inl, inr}
use Rattle.dc_math.specs.Rational.{ℚ, of_ℤ, ◌-ℚ◌, neg_ℚ, le_ℚ}
use Rattle.dc_math.specs.RationalRing.{ring, reads, read_nat, same_form}
use Rattle.dc_math.specs.RationalField.{rationals}
use Rattle.dc_math.specs.Order.{of_ℤ-neg_ℤ, zero-minus}
use Rattle.dc_lp.specs.Linear.{Linear}
use Rattle.dc_lp.specs.Tables.{Table}
use Rattle.dc_lp.specs.Meanings.{at, right}
use Rattle.dc_pivots.specs.declared.Ending.{Ending}
use Rattle.dc_pivots.specs.declared.Ending.TheVariants.{Optimal, Infeasible, Unbounded}
use Rattle.dc_pivots.specs.Vectors.{basic_row, entry_or_zero}
use Rattle.dc_pivots.specs.FieldLaws.{AreOpposite}
use Rattle.dc_pivots.proofs.Opposites.{stay_opposite}
use Rattle.dc_simplex.specs.Outcomes.{solution_at, direction_at, multiplier_at, value_of}
use Rattle.dc_simplex.specs.Ends.{ComesTo}
use Rattle.dc_cert.specs.declared.sparse.Sparse.{Sparse}
use Rattle.dc_cert.specs.declared.certificate.Body.{Body}
use Rattle.dc_cert.specs.declared.certificate.Body.TheVariants.{Threshold, Nothing, Vacuous}
use Rattle.dc_points.specs.Stated.{rational}
use Rattle.dc_mainlines.specs.Paired.{IsPaired}
use Rattle.dc_session.specs.Made.{AreItemsOf, unknown_in, multiplier_in, IsBodyOf}
use Rattle.dc_endings.proofs.Numbers.{IsNumber, zero_number, one_number, neg_number, fraction_is, items_are}
use Rattle.dc_endings.proofs.Starts.{IsLight, AreNumbers}
use Rattle.dc_endings.proofs.Runs.{run_numbers}

-- ---- its entries
pub end_numbers : (m : Linear ℤ) (budget : ℕ) (e : Ending) (t : Table ℚ) → IsLight m → ComesTo (rational m) budget e t → AreNumbers t
end_numbers m budget e t light h =
    let a = h.answer.0 in run_numbers m light h.pivots (record { phase = a.phase; table = t }) a.reaches.reached a.reaches.fit

module _ (t : Table ℚ) (numbers : AreNumbers t) where
  entry_number : (k : ℕ) (o : Option ℕ) → IsNumber (entry_or_zero ℚ rationals t k o)
  entry_number k None = zero_number
  entry_number k (Some i) = numbers i k

  pub solution_number : (k : ℕ) → IsNumber (solution_at t k)
  solution_number k = entry_number (right t) (basic_row t k)

  pub direction_number : (j k : ℕ) → IsNumber (direction_at t j k)
  direction_number j k = by (k == j)
    where
      by : (b : Bool) → IsNumber (cond b (of_ℤ (pos 1)) (neg_ℚ (entry_or_zero ℚ rationals t j (basic_row t k))))
      by true = one_number
      by false = neg_number (entry_or_zero ℚ rationals t j (basic_row t k)) (entry_number j (basic_row t k))

  pub multiplier_number : (p : Linear ℚ) (row i : ℕ) → IsNumber (multiplier_at p t row i)
  multiplier_number p row i = by (le_ℚ (of_ℤ (pos 0)) (p.right_side i))
    where
      by : (b : Bool) → IsNumber (cond b (neg_ℚ (at t row (p.columns + i))) (at t row (p.columns + i)))
      by true = neg_number (at t row (p.columns + i)) (numbers row (p.columns + i))
      by false = numbers row (p.columns + i)

  pub value_number : IsNumber (value_of t)
  value_number = neg_number (at t (length t.basis + 1) (right t)) (numbers (length t.basis + 1) (right t))

-- ---- the body of the main problem
difference_number : (x y : ℚ) → (x ≡ of_ℤ (pos 0)) ⊎ (y ≡ of_ℤ (pos 0)) → IsNumber x → IsNumber y → IsNumber (x -ℚ y)
difference_number x y (inl e) h k = subst IsNumber (sym (ap (λ z. z -ℚ y) e ∙ zero-minus y)) (neg_number y k)
difference_number x y (inr e) h k = subst IsNumber (sym (ap (λ z. x -ℚ z) e ∙ minus_none x)) h
  where
    minus_none : (x : ℚ) → x -ℚ of_ℤ (pos 0) ≡ x
    minus_none x = ring (x ∷ []) (λ ρ i. simp (i, read_nat ρ, reads) (same_form _ _ _ refl))

module _ (m : Linear ℤ) (u : ℕ) (paired : IsPaired m u) (light : IsLight m) (budget : ℕ) (t : Table ℚ) where
  opposites : (k : ℕ) → k < u → AreOpposite ℚ rationals (rational m) (suc (k * 2)) (k * 2)
  opposites k l = record {
    first = let r = paired.room in omega arith;
    second = let r = paired.room in omega arith;
    apart = λ e. omega arith;
    entries = λ i. ap of_ℤ (paired.minus i k l) ∙ of_ℤ-neg_ℤ (m.coefficient i (k * 2));
    costs = ap of_ℤ (paired.minus_cost k l) ∙ of_ℤ-neg_ℤ (m.cost (k * 2));
  }

  turned : {x y : ℚ} → (x ≡ of_ℤ (pos 0)) ⊎ (y ≡ of_ℤ (pos 0)) → (y ≡ of_ℤ (pos 0)) ⊎ (x ≡ of_ℤ (pos 0))
  turned (inl e) = inr e
  turned (inr e) = inl e

  module _ (e : Ending) (c : ComesTo (rational m) budget e t) where
    numbers : AreNumbers t
    numbers = end_numbers m budget e t light c

    unknown_number : (k : ℕ) → k < u → IsNumber (unknown_in (solution_at t) k)
    unknown_number k l =
        let a = c.answer.0 in
        difference_number (solution_at t (k * 2)) (solution_at t (suc (k * 2)))
        (turned ((stay_opposite ℚ rationals (rational m) (suc (k * 2)) (k * 2) (opposites k l)).solution c.pivots (record { phase = a.phase; table = t }) a.reaches.reached))
        (solution_number t numbers (k * 2)) (solution_number t numbers (suc (k * 2)))

    has_dual : (row : ℕ) → (v : Sparse) × AreItemsOf m.equations (multiplier_at (rational m) t row) v
    has_dual row = items_are m.equations (multiplier_at (rational m) t row) (λ k l. multiplier_number t numbers (rational m) row k)

    has_unknown : (v : Sparse) × AreItemsOf u (unknown_in (solution_at t)) v
    has_unknown = items_are u (unknown_in (solution_at t)) unknown_number

    has_lambda : (v : Sparse) × AreItemsOf (m.columns - u * 2) (multiplier_in u (solution_at t)) v
    has_lambda = items_are (m.columns - u * 2) (multiplier_in u (solution_at t)) (λ k l. solution_number t numbers (u * 2 + k))

  module _ (j : ℕ) (c : ComesTo (rational m) budget (Unbounded j) t) where
    ray_number : (k : ℕ) → k < u → IsNumber (unknown_in (direction_at t j) k)
    ray_number k l =
        let a = c.answer.0 in
        let n = numbers (Unbounded j) c in
        difference_number (direction_at t j (k * 2)) (direction_at t j (suc (k * 2)))
        (turned ((stay_opposite ℚ rationals (rational m) (suc (k * 2)) (k * 2) (opposites k l)).ray c.pivots (record { phase = a.phase; table = t }) j a.reaches.reached a.over))
        (direction_number t n j (k * 2)) (direction_number t n j (suc (k * 2)))

    has_ray_unknown : (v : Sparse) × AreItemsOf u (unknown_in (direction_at t j)) v
    has_ray_unknown = items_are u (unknown_in (direction_at t j)) ray_number

    has_ray_lambda : (v : Sparse) × AreItemsOf (m.columns - u * 2) (multiplier_in u (direction_at t j)) v
    has_ray_lambda = items_are (m.columns - u * 2) (multiplier_in u (direction_at t j)) (λ k l. direction_number t (numbers (Unbounded j) c) j (u * 2 + k))

  pub has_body : (e : Ending) → ComesTo (rational m) budget e t → (b : Body) × IsBodyOf m u t e b
  has_body Optimal c =
      let v = fraction_is (value_of t) (value_number t (numbers Optimal c)) in
      let a = has_unknown Optimal c in
      let l = has_lambda Optimal c in
      let d = has_dual Optimal c (length t.basis + 1) in
      (Threshold v.0 a.0 l.0 d.0, record { least = v.1; unknown_is = a.1; lambda_is = l.1; dual_is = d.1 })
  has_body Infeasible c = let d = has_dual Infeasible c (length t.basis) in (Nothing d.0, d.1)
  has_body (Unbounded j) c =
      let a = has_unknown (Unbounded j) c in
      let l = has_lambda (Unbounded j) c in
      let r = has_ray_unknown j c in
      let q = has_ray_lambda j c in
      (Vacuous a.0 l.0 r.0 q.0, record { unknown_is = a.1; lambda_is = l.1; ray_unknown_is = r.1; ray_lambda_is = q.1 })
