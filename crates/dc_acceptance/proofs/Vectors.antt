-- The vectors of what is made are within the ranges of a certificate.
use Rattle.std.specs.Prelude.{◌≡◌, ◌⊎◌, ℕ, zero, suc, ◌+◌, ◌*◌, ◌<◌, ◌≤◌, ◌==◌, Bool, true, false, cond, if◌then◌else◌, List, [], ◌∷◌, length, ℤ, pos, Option, Some, None}
use Rattle.std.specs.List.{AllByRecursion}
use Rattle.std.proofs.Common.{refl, sym, ◌∙◌, ap, subst, arith, inl, inr}
use Rattle.dc_math.specs.Rational.{ℚ, Fraction, of_ℤ, ◌-ℚ◌, neg_ℚ, le_ℚ}
use Rattle.dc_math.specs.RationalRing.{ring, reads, read_nat, same_form}
use Rattle.dc_math.specs.RationalField.{rationals}
use Rattle.dc_math.specs.Order.{of_ℤ-neg_ℤ, zero-minus}
use Rattle.dc_math.specs.Tests.{is_zero}
use Rattle.dc_frac.specs.declared.Frac.{Frac}
use Rattle.dc_frac.specs.Fits.{IsSmall}
use Rattle.dc_frac.specs.Value.{value}
use Rattle.dc_frac.proofs.ValueLaws.{lowest-value}
use Rattle.dc_affine.specs.declared.atom.Atom.{Atom}
use Rattle.dc_lp.specs.Folds.{numbers}
use Rattle.dc_lp.specs.Linear.{Linear}
use Rattle.dc_lp.specs.Tables.{Table}
use Rattle.dc_lp.specs.Meanings.{at, right}
use Rattle.dc_pivots.specs.declared.Ending.{Ending}
use Rattle.dc_pivots.specs.declared.Ending.TheVariants.{Optimal, Infeasible, Unbounded}
use Rattle.dc_pivots.specs.Vectors.{basic_row, entry_or_zero}
use Rattle.dc_pivots.specs.FieldLaws.{AreOpposite}
use Rattle.dc_pivots.proofs.Opposites.{stay_opposite}
use Rattle.dc_simplex.specs.Outcomes.{solution_at, direction_at, multiplier_at, value_of}
use Rattle.dc_simplex.specs.Ends.{ComesTo}
use Rattle.dc_cert.specs.declared.sparse.Sparse.{Sparse}
use Rattle.dc_cert.specs.declared.certificate.Liveness.{Liveness}
use Rattle.dc_cert.specs.declared.certificate.Liveness.TheVariants.{Dead, Live}
use Rattle.dc_cert.specs.declared.certificate.Body.{Body}
use Rattle.dc_cert.specs.declared.certificate.Body.TheVariants.{Threshold, Nothing, Vacuous}
use Rattle.dc_cert.specs.Vectors.{AreItems, IsVector, nonzero_from}
use Rattle.dc_cert.specs.Ranges.{AreKeeps, IsShown, IsBody}
use Rattle.dc_points.specs.Stated.{rational, empty_problem, sup_problem}
use Rattle.dc_clauses.specs.Mains.{multipliers}
use Rattle.dc_mainlines.specs.Paired.{IsPaired}
use Rattle.dc_invariant.specs.Shown as shown
use Rattle.dc_invariant.specs.Shown.{IsSolutionOf, IsRefutationOf, IsLine}
use Rattle.dc_session.specs.Made.{AreItemsOf, unknown_in, multiplier_in, IsBodyOf}
use Rattle.dc_acceptance.proofs.Small.{IsFine, AreFine, zero_fine, one_fine, neg_fine, run_fine}
use Rattle.dc_acceptance.proofs.Items.{solution_items, refutation_items}
use Rattle.dc_acceptance.proofs.Lines.{keeps_many}

-- ---- items
fine_den : (f : Frac) → IsFine (value f) → IsSmall f.den
fine_den f h = subst (λ (p : Fraction). IsSmall p.den) (lowest-value f) h

are_items : (low m : ℕ) (v : List Frac) → low ≤ m → m + length v ≤ 8192 → ((k : ℕ) → k < length v → IsFine (numbers v k)) → AreItems low (nonzero_from m v)
are_items low m [] l g h = tt
are_items low m (f ∷ v) l g h = by (is_zero (value f)) refl (λ j q. are_items j (suc m) v q (omega arith) (λ k i. h (suc k) (omega arith)))
  where
    by : (b : Bool) → is_zero (value f) ≡ b → ((j : ℕ) → j ≤ suc m → AreItems j (nonzero_from (suc m) v))
        → AreItems low (cond b (nonzero_from (suc m) v) ((record { index = m; value = f }) ∷ nonzero_from (suc m) v))
    by true e r = r low (omega arith)
    by false e r = (l, record { low = omega arith; nonzero = e; small = fine_den f (h zero (omega arith)) }, r (suc m) (omega arith))

pub is_vector : (n : ℕ) (f : ℕ → ℚ) (v : Sparse) → AreItemsOf n f v → n ≤ 8192 → ((k : ℕ) → k < n → IsFine (f k)) → IsVector v
is_vector n f v h l g =
    subst (AreItems 0) (sym h.items)
    (are_items 0 0 h.whole (omega arith) (let e = h.vector.long in omega arith)
    (λ k i. let q : k < n = (let e = h.vector.long in omega arith) in subst IsFine (sym (h.vector.each k q)) (g k q)))

-- ---- the vectors of the table at the end of a run
pub end_fine : (m : Linear ℤ) (budget : ℕ) (e : Ending) (t : Table ℚ) → ComesTo (rational m) budget e t → AreFine t
end_fine m budget e t h = let a = h.answer.0 in run_fine m h.pivots (record { phase = a.phase; table = t }) a.reaches.reached a.reaches.fit

module _ (t : Table ℚ) (fine : AreFine t) where
  entry_fine : (k : ℕ) (o : Option ℕ) → IsFine (entry_or_zero ℚ rationals t k o)
  entry_fine k None = zero_fine
  entry_fine k (Some i) = fine i k

  pub solution_fine : (k : ℕ) → IsFine (solution_at t k)
  solution_fine k = entry_fine (right t) (basic_row t k)

  pub direction_fine : (j k : ℕ) → IsFine (direction_at t j k)
  direction_fine j k = by (k == j)
    where
      by : (b : Bool) → IsFine (cond b (of_ℤ (pos 1)) (neg_ℚ (entry_or_zero ℚ rationals t j (basic_row t k))))
      by true = one_fine
      by false = neg_fine (entry_or_zero ℚ rationals t j (basic_row t k)) (entry_fine j (basic_row t k))

  pub multiplier_fine : (p : Linear ℚ) (row i : ℕ) → IsFine (multiplier_at p t row i)
  multiplier_fine p row i = by (le_ℚ (of_ℤ (pos 0)) (p.right_side i))
    where
      by : (b : Bool) → IsFine (cond b (neg_ℚ (at t row (p.columns + i))) (at t row (p.columns + i)))
      by true = neg_fine (at t row (p.columns + i)) (fine row (p.columns + i))
      by false = fine row (p.columns + i)

  pub value_fine : IsFine (value_of t)
  value_fine = neg_fine (at t (length t.basis + 1) (right t)) (fine (length t.basis + 1) (right t))

-- ---- lines and keeps
solution_vector : (p : Linear ℤ) (budget : ℕ) (k : Sparse) → p.columns ≤ 8192 → IsSolutionOf p budget k → IsVector k
solution_vector p budget k l h = is_vector p.columns _ k (solution_items p budget k h) l (λ i g. solution_fine h.outcome.table (end_fine p budget Optimal h.outcome.table h.outcome.comes) i)

refutation_vector : (p : Linear ℤ) (budget : ℕ) (k : Sparse) → p.equations ≤ 8192 → IsRefutationOf p budget k → IsVector k
refutation_vector p budget k l h =
    is_vector p.equations _ k (refutation_items p budget k h) l
    (λ i g. multiplier_fine h.outcome.table (end_fine p budget Infeasible h.outcome.table h.outcome.comes) (rational p) (length h.outcome.table.basis) i)

module _ (hyps : List Atom) (n budget : ℕ) (few : length hyps ≤ 8192) where
  pub line_shown : (l : Liveness) → suc n ≤ 8192 → IsLine hyps n budget l → IsShown l
  line_shown (Dead k) g h = solution_vector (empty_problem hyps n) budget k few h.vector
  line_shown (Live k) g h = refutation_vector (empty_problem hyps n) budget k g h.vector

  module _ (form : Atom → List ℤ) (atom : Atom → Atom) where
    keeps_vectors : (atoms : List Atom) (ks : List Sparse) → shown.AreKeeps hyps n form atom budget atoms ks → AllByRecursion IsVector ks
    keeps_vectors [] [] h = tt
    keeps_vectors [] (k ∷ ks) h = absurd h
    keeps_vectors (a ∷ atoms) [] h = absurd h
    keeps_vectors (a ∷ atoms) (k ∷ ks) h = (solution_vector (sup_problem hyps (form a)) budget k few h.0.vector, keeps_vectors atoms ks h.1)

    pub keeps_shown : (b : Bool) (atoms : List Atom) (ks : List Sparse) → length atoms ≤ 1024 → shown.AreKeeps hyps n form atom budget (if b then atoms else []) ks → AreKeeps ks
    keeps_shown b atoms ks l h = record { few = by b (keeps_many hyps n budget form atom (if b then atoms else []) ks h); vectors = keeps_vectors (if b then atoms else []) ks h }
      where
        by : (b : Bool) → length ks ≡ length (if b then atoms else []) → length ks ≤ 1024
        by true e = omega arith
        by false e = omega arith

-- ---- the body
difference_fine : (x y : ℚ) → (x ≡ of_ℤ (pos 0)) ⊎ (y ≡ of_ℤ (pos 0)) → IsFine x → IsFine y → IsFine (x -ℚ y)
difference_fine x y (inl e) h k = subst IsFine (sym (ap (λ z. z -ℚ y) e ∙ zero-minus y)) (neg_fine y k)
difference_fine x y (inr e) h k = subst IsFine (sym (ap (λ z. x -ℚ z) e ∙ minus_none x)) h
  where
    minus_none : (x : ℚ) → x -ℚ of_ℤ (pos 0) ≡ x
    minus_none x = ring (x ∷ []) (λ ρ i. simp (i, read_nat ρ, reads) (same_form _ _ _ refl))

module _ (m : Linear ℤ) (u : ℕ) (paired : IsPaired m u) (few_columns : m.columns ≤ 8192) (few_equations : m.equations ≤ 8192) where
  opposites : (k : ℕ) → k < u → AreOpposite ℚ rationals (rational m) (suc (k * 2)) (k * 2)
  opposites k l = record {
    first = let r = paired.room in omega arith;
    second = let r = paired.room in omega arith;
    apart = λ e. omega arith;
    entries = λ i. ap of_ℤ (paired.minus i k l) ∙ of_ℤ-neg_ℤ (m.coefficient i (k * 2));
    costs = ap of_ℤ (paired.minus_cost k l) ∙ of_ℤ-neg_ℤ (m.cost (k * 2));
  }

  turned : {x y : ℚ} → (x ≡ of_ℤ (pos 0)) ⊎ (y ≡ of_ℤ (pos 0)) → (y ≡ of_ℤ (pos 0)) ⊎ (x ≡ of_ℤ (pos 0))
  turned (inl e) = inr e
  turned (inr e) = inl e

  module _ (budget : ℕ) (t : Table ℚ) where
    abbrev Ends : Ending → Type 0
    Ends e = ComesTo (rational m) budget e t

    unknown_vector : (e : Ending) → Ends e → (v : Sparse) → AreItemsOf u (unknown_in (solution_at t)) v → IsVector v
    unknown_vector e c v h =
        let fine = end_fine m budget e t c in
        let a = c.answer.0 in
        is_vector u (unknown_in (solution_at t)) v h (let r = paired.room in omega arith)
        (λ k l. difference_fine (solution_at t (k * 2)) (solution_at t (suc (k * 2)))
        (turned ((stay_opposite ℚ rationals (rational m) (suc (k * 2)) (k * 2) (opposites k l)).solution c.pivots (record { phase = a.phase; table = t }) a.reaches.reached))
        (solution_fine t fine (k * 2)) (solution_fine t fine (suc (k * 2))))

    ray_vector : (j : ℕ) → Ends (Unbounded j) → (v : Sparse) → AreItemsOf u (unknown_in (direction_at t j)) v → IsVector v
    ray_vector j c v h =
        let fine = end_fine m budget (Unbounded j) t c in
        let a = c.answer.0 in
        is_vector u (unknown_in (direction_at t j)) v h (let r = paired.room in omega arith)
        (λ k l. difference_fine (direction_at t j (k * 2)) (direction_at t j (suc (k * 2)))
        (turned ((stay_opposite ℚ rationals (rational m) (suc (k * 2)) (k * 2) (opposites k l)).ray c.pivots (record { phase = a.phase; table = t }) j a.reaches.reached a.over))
        (direction_fine t fine j (k * 2)) (direction_fine t fine j (suc (k * 2))))

    lambda_vector : (x : ℕ → ℚ) (v : Sparse) → ((k : ℕ) → IsFine (x k)) → AreItemsOf (multipliers m u) (multiplier_in u x) v → IsVector v
    lambda_vector x v fine h = is_vector (multipliers m u) (multiplier_in u x) v h (omega arith) (λ k l. fine (u * 2 + k))

    dual_vector : (e : Ending) → Ends e → (row : ℕ) (v : Sparse) → AreItemsOf m.equations (multiplier_at (rational m) t row) v → IsVector v
    dual_vector e c row v h = is_vector m.equations (multiplier_at (rational m) t row) v h few_equations (λ k l. multiplier_fine t (end_fine m budget e t c) (rational m) row k)

    pub is_body : (e : Ending) (b : Body) → Ends e → IsBodyOf m u t e b → IsBody b
    is_body Optimal (Threshold v a l d) c k =
        let fine = end_fine m budget Optimal t c in (
          fine_den v (subst IsFine (sym k.least) (value_fine t fine)),
          unknown_vector Optimal c a k.unknown_is,
          lambda_vector (solution_at t) l (solution_fine t fine) k.lambda_is,
          dual_vector Optimal c (length t.basis + 1) d k.dual_is,
        )
    is_body Optimal (Nothing d) c k = absurd k
    is_body Optimal (Vacuous a l r q) c k = absurd k
    is_body Infeasible (Threshold v a l d) c k = absurd k
    is_body Infeasible (Nothing d) c k = dual_vector Infeasible c (length t.basis) d k
    is_body Infeasible (Vacuous a l r q) c k = absurd k
    is_body (Unbounded j) (Threshold v a l d) c k = absurd k
    is_body (Unbounded j) (Nothing d) c k = absurd k
    is_body (Unbounded j) (Vacuous a l r q) c k =
        let fine = end_fine m budget (Unbounded j) t c in (
          unknown_vector (Unbounded j) c a k.unknown_is,
          lambda_vector (solution_at t) l (solution_fine t fine) k.lambda_is,
          ray_vector j c r k.ray_unknown_is,
          lambda_vector (direction_at t j) q (direction_fine t fine j) k.ray_lambda_is,
        )
