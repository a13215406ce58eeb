-- The items of a vector of numbers.
use Rattle.std.specs.Prelude.{◌≡◌, ℕ, suc, ◌+◌, ◌<◌, ◌≤◌, Bool, true, false, not, ◌&&◌, cond, ltb, List, [], ◌∷◌, map, length, ℤ, pos, Some}
use Rattle.std.specs.List.{list_all}
use Rattle.std.proofs.Common.{refl, sym, ◌∙◌, ap, subst, arith}
use Rattle.std.proofs.lemmas.Bool.{lt-ltb, and_from}
use Rattle.dc_math.specs.Rational.{ℚ, of_ℤ, le_ℚ, NonNegative}
use Rattle.dc_math.specs.Tests.{is_positive, is_zero, le_ℚ-true}
use Rattle.dc_frac.specs.declared.Frac.{Frac}
use Rattle.dc_frac.specs.Value.{value}
use Rattle.dc_lp.specs.Folds.{numbers}
use Rattle.dc_lp.specs.Linear.{Linear}
use Rattle.dc_simplex.specs.Outcomes.{solution_at, multiplier_at}
use Rattle.dc_cert.specs.declared.sparse.Item.{Item}
use Rattle.dc_cert.specs.declared.sparse.Sparse.{Sparse}
use Rattle.dc_cert.specs.Vectors.{nonzero_from, entry_of, in_range}
use Rattle.dc_points.specs.Stated.{rational}
use Rattle.dc_invariant.specs.Shown.{IsSolutionOf, IsRefutationOf}
use Rattle.dc_invariant.proofs.Vectors.{entry_is}
use Rattle.dc_session.specs.Made.{AreItemsOf}
use Rattle.dc_clauses.specs.Lines.{at, signs}
use Rattle.dc_acceptance.proofs.Passing.{AllPass}

-- ---- numbers that are neither 0 nor negative
pub above_zero : (x : ℚ) → NonNegative x → is_zero x ≡ false → is_positive x ≡ true
above_zero x h e = by (le_ℚ x (of_ℤ (pos 0))) (le_ℚ (of_ℤ (pos 0)) x) (le_ℚ-true (of_ℤ (pos 0)) x h) e
  where
    by : (b d : Bool) → d ≡ true → (b && d) ≡ false → not b ≡ true
    by true true q f = absurd cc
    by true false q f = absurd cc
    by false d q f = refl

abbrev positive_items : List Item → Type 0
positive_items is = AllPass (map (λ (i : Item). Some (is_positive (value i.value))) is)

range_from : (n m : ℕ) (v : List Frac) → m + length v ≤ n → list_all (λ (i : Item). ltb i.index n) (nonzero_from m v) ≡ true
range_from n m [] h = refl
range_from n m (f ∷ v) h = by (is_zero (value f)) (range_from n (suc m) v (omega arith))
  where
    by : (b : Bool) → list_all (λ (i : Item). ltb i.index n) (nonzero_from (suc m) v) ≡ true
        → list_all (λ (i : Item). ltb i.index n) (cond b (nonzero_from (suc m) v) ((record { index = m; value = f }) ∷ nonzero_from (suc m) v)) ≡ true
    by true r = r
    by false r = and_from (ltb m n) (list_all (λ (i : Item). ltb i.index n) (nonzero_from (suc m) v)) (lt-ltb m n (omega arith)) r

positive_from : (m : ℕ) (v : List Frac) → ((k : ℕ) → k < length v → NonNegative (numbers v k)) → positive_items (nonzero_from m v)
positive_from m [] h = tt
positive_from m (f ∷ v) h = by (is_zero (value f)) refl (positive_from (suc m) v (λ k l. h (suc k) (omega arith)))
  where
    by : (b : Bool) → is_zero (value f) ≡ b → positive_items (nonzero_from (suc m) v)
        → positive_items (cond b (nonzero_from (suc m) v) ((record { index = m; value = f }) ∷ nonzero_from (suc m) v))
    by true e r = r
    by false e r = (above_zero (value f) (h 0 (omega arith)) e, r)

module _ (n : ℕ) (f : ℕ → ℚ) (v : Sparse) (h : AreItemsOf n f v) where
  pub item_at : (k : ℕ) → k < n → at v k ≡ f k
  item_at k l = ap (λ is. entry_of is k) h.items ∙ entry_is h.whole k (let e = h.vector.long in omega arith) ∙ h.vector.each k l

  pub items_in_range : (m : ℕ) → n ≤ m → in_range m v ≡ true
  items_in_range m l = ap (list_all (λ (i : Item). ltb i.index m)) h.items ∙ range_from m 0 h.whole (let e = h.vector.long in omega arith)

  pub items_positive : ((k : ℕ) → k < n → NonNegative (at v k)) → AllPass (signs v)
  items_positive g =
      subst positive_items (sym h.items)
      (positive_from 0 h.whole (λ k l. let q : k < n = (let e = h.vector.long in omega arith) in subst NonNegative (item_at k q ∙ sym (h.vector.each k q)) (g k q)))

-- ---- the vectors of the outcome of a problem
pub solution_items : (p : Linear ℤ) (b : ℕ) (k : Sparse) (h : IsSolutionOf p b k) → AreItemsOf p.columns (solution_at h.outcome.table) k
solution_items p b k h = record { whole = h.whole; vector = h.outcome.vector; items = h.items }

pub refutation_items : (p : Linear ℤ) (b : ℕ) (k : Sparse) (h : IsRefutationOf p b k)
    → AreItemsOf p.equations (multiplier_at (rational p) h.outcome.table (length h.outcome.table.basis)) k
refutation_items p b k h = record { whole = h.whole; vector = h.outcome.vector; items = h.items }
