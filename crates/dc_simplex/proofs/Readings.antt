-- What is read out at the end of a run.
use Rattle.std.proofs.Common.{◌≡◌, ◌≢◌, ℕ, zero, suc, ◌+◌, ◌<◌, ◌≤◌, ◌==◌, true, false, List, [], ◌∷◌, ◌++◌, length, slice_index, Option, Some, None, refl, sym, ◌∙◌, ap, arith, eq-eqb, pos, below_more}
use Rattle.std.proofs.lemmas.Bool.{ne_eqb}
use Rattle.std.specs.Prelude.{ℤ, ◌≤ℤ◌, ◌<ℤ◌, ◌^◌}
use Rattle.std.proofs.Math.ListN.{length-append}
use Rattle.dc_math.specs.Rational.{ℚ, of_ℤ, neg_ℚ, le_ℚ}
use Rattle.dc_math.specs.RationalField.{rationals}
use Rattle.dc_math.specs.Signs.{of_ℤ-≤}
use Rattle.dc_math.specs.Order.{of_ℤ-<}
use Rattle.dc_math.specs.Tests.{le_ℚ-true, le_ℚ-false}
use Rattle.dc_frac.specs.declared.Frac.{Frac}
use Rattle.dc_frac.specs.Value.{value}
use Rattle.dc_lp.specs.declared.Problem.{Problem}
use Rattle.dc_lp.specs.Folds.{checked, numbers}
use Rattle.dc_lp.specs.Problems.{IsWellFormed, linear_of, whole_at}
use Rattle.dc_lp.specs.Tables.{Table, first_index}
use Rattle.dc_lp.specs.Meanings.{at, right, IsCell}
use Rattle.dc_pivots.specs.Vectors.{basic_row, entry_or_zero}
use Rattle.dc_simplex.specs.Outcomes.{IsVector, solution_at, direction_at, multiplier_at}
use Rattle.dc_lp.proofs.Firsts.{index-some, first_some-none, first_some-found}

-- ---- the row in which a column is basic

-- of the first n rows
unfoldable pub basic_below : Table ℚ → ℕ → ℕ → Option ℕ
basic_below t j n = first_index (λ i. slice_index t.basis i == j) n

pub basic_below-start : (t : Table ℚ) (j : ℕ) → basic_below t j 0 ≡ None
unfolding basic_below
basic_below-start t j = refl

pub basic_below-more : (t : Table ℚ) (j i : ℕ) → basic_below t j i ≡ None → slice_index t.basis i ≢ j → basic_below t j (i + 1) ≡ None
unfolding basic_below
basic_below-more t j i e h = first_some-none (λ k. checked (slice_index t.basis k == j) k) i e (rw (ne_eqb (slice_index t.basis i) j h) refl)

pub basic_row-found : (t : Table ℚ) (j i : ℕ) → basic_below t j i ≡ None → slice_index t.basis i ≡ j → i < length t.basis → basic_row t j ≡ Some i
unfolding basic_below basic_row
basic_row-found t j i e h lt = first_some-found (λ k. checked (slice_index t.basis k == j) k) i (length t.basis) i e (rw (eq-eqb (slice_index t.basis i) j h) refl) lt

pub basic_row-none : (t : Table ℚ) (j n : ℕ) → basic_below t j n ≡ None → n ≡ length t.basis → basic_row t j ≡ None
unfolding basic_below basic_row
basic_row-none t j n e same = rw (← same) e

pub basic_row-cell : (t : Table ℚ) (j i k : ℕ) → basic_row t j ≡ Some i → k ≤ right t → IsCell t i k
unfolding basic_row
basic_row-cell t j i k e le = (let h = index-some (λ x. slice_index t.basis x == j) (length t.basis) i e in let lt : i < length t.basis = h.0 in record { row = omega arith; column = omega arith })

-- ---- one number more

numbers-append : (xs : List Frac) (v : Frac) (k : ℕ) → k < length xs → numbers (xs ++ v ∷ []) k ≡ numbers xs k
numbers-append [] v k lt = absurd (omega arith)
numbers-append (x ∷ xs) v zero lt = refl
numbers-append (x ∷ xs) v (suc k) lt = numbers-append xs v k (omega arith)

numbers-last : (xs : List Frac) (v : Frac) → numbers (xs ++ v ∷ []) (length xs) ≡ value v
numbers-last [] v = refl
numbers-last (x ∷ xs) v = numbers-last xs v

pub vector-none : (f : ℕ → ℚ) → IsVector 0 f []
vector-none f = record { long = refl; each = λ k lt. absurd (omega arith) }

more : (n : ℕ) (f : ℕ → ℚ) (xs : List Frac) (v : Frac) → IsVector n f xs → value v ≡ f n → IsVector (n + 1) f (xs ++ v ∷ [])
more n f xs v h e =
    let long : length xs ≡ n = h.long in
    record {
      long = omega (arith, length-append xs (v ∷ []));
      each = below_more (λ k. numbers (xs ++ v ∷ []) k ≡ f k) n
          (λ k lt. numbers-append xs v k (omega arith) ∙ h.each k lt)
          (ap (numbers (xs ++ v ∷ [])) (sym long) ∙ numbers-last xs v ∙ e);
    }

pub vector-more : (n : ℕ) (f : ℕ → ℚ) (xs ys : List Frac) (v : Frac) → IsVector n f xs → ys ≡ xs ++ v ∷ [] → value v ≡ f n → IsVector (n + 1) f ys
vector-more n f xs ys v h e k = rw e (more n f xs v h k)

-- ---- signs of right sides

nonneg : (z : ℤ) → pos 0 ≤ℤ z → le_ℚ (of_ℤ (pos 0)) (of_ℤ z) ≡ true
nonneg z h = le_ℚ-true _ _ (of_ℤ-≤ (pos 0) z h)

negative : (z : ℤ) → z <ℤ pos 0 → le_ℚ (of_ℤ (pos 0)) (of_ℤ z) ≡ false
negative z h = le_ℚ-false _ _ (of_ℤ-< z (pos 0) h)

pub multiplier-kept : (p : Problem) (t : Table ℚ) (row i : ℕ) (v : ℚ) → whole_at p.b.items i <ℤ pos 0 → v ≡ at t row (length p.columns.items + i) → v ≡ multiplier_at (linear_of p) t row i
multiplier-kept p t row i v h e = rw (negative (whole_at p.b.items i) h) e

pub multiplier-turned : (p : Problem) (t : Table ℚ) (row i : ℕ) (v : ℚ) → pos 0 ≤ℤ whole_at p.b.items i → v ≡ neg_ℚ (at t row (length p.columns.items + i)) → v ≡ multiplier_at (linear_of p) t row i
multiplier-turned p t row i v h e = rw (nonneg (whole_at p.b.items i) h) e

pub direction-here : (t : Table ℚ) (j k : ℕ) (v : ℚ) → k ≡ j → v ≡ of_ℤ (pos 1) → v ≡ direction_at t j k
direction-here t j k v h e = rw (eq-eqb k j h) e

pub direction-else : (t : Table ℚ) (j k : ℕ) (v : ℚ) → k ≢ j → v ≡ neg_ℚ (entry_or_zero ℚ rationals t j (basic_row t k)) → v ≡ direction_at t j k
direction-else t j k v h e = rw (ne_eqb k j h) e

pub solution-read : (t : Table ℚ) (k w : ℕ) (v : ℚ) → w ≡ right t → v ≡ entry_or_zero ℚ rationals t w (basic_row t k) → v ≡ solution_at t k
solution-read t k w v same e = rw same at e

pub is_small : (p : Problem) → IsWellFormed p → p.rows + length p.columns.items + 1 < 2 ^ 64
is_small p h = (let b = p.b in let a = p.columns in let e : length b.items ≡ p.rows = h.right_sides in omega (arith, b.small, a.small, b.ok.0, b.ok.1, a.ok.0, a.ok.1))

pub ruleset readings = (basic_below-start, basic_below-more, basic_row-found, basic_row-none, basic_row-cell, vector-none, vector-more, multiplier-kept, multiplier-turned, direction-here, direction-else, is_small)
