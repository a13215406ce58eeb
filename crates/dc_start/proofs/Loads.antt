-- The starting table, number by number.
use Rattle.std.proofs.Common.{◌≡◌, ◌≢◌, ℕ, zero, suc, ◌+◌, ◌<◌, ◌≤◌, true, false, ◌==◌, List, [], ◌∷◌, ◌++◌, length, refl, sym, ◌∙◌, ap, ap₂, arith, inl, inr, eq-eqb, nat_lt, add-one, slice_index_or}
use Rattle.std.specs.Prelude.{ℤ, pos, neg_ℤ, ◌-ℤ◌, int_lt}
use Rattle.std.proofs.lemmas.Bool.{cases_Bool, ne_eqb, ltb-true, ltb-false}
use Rattle.std.proofs.lemmas.Int.{ints}
use Rattle.std.proofs.lemmas.List.FromFn.{map-range_with_len_more, length-map-range_with_len}
use Rattle.dc_math.specs.Rational.{ℚ, of_ℤ, neg_ℚ, ◌+ℚ◌, of_ℤ-+ℤ}
use Rattle.dc_math.specs.RationalField.{rationals}
use Rattle.dc_math.specs.Order.{of_ℤ-neg_ℤ, of_ℤ-<}
use Rattle.dc_math.specs.Signs.{of_ℤ-≤}
use Rattle.dc_math.specs.Tests.{le_ℚ-true, le_ℚ-false}
use Rattle.dc_lp.specs.declared.Problem.{Problem}
use Rattle.dc_lp.specs.Problems.{coefficient, whole_at, linear_of, columns}
use Rattle.dc_lp.specs.Tables as tables
use Rattle.dc_lp.specs.Tables.{made}
use Rattle.dc_start.specs.Starts.{signed, whole_entry, lowered, start_value}

lt-yes : (a b : ℕ) → a < b → nat_lt a b ≡ true
lt-yes a b l = elim (cases_Bool (nat_lt a b)) [
  | inl e ↦ e
  | inr e ↦ (let le : b ≤ a = ltb-false a b e in absurd (omega arith))
]

lt-no : (a b : ℕ) → b ≤ a → nat_lt a b ≡ false
lt-no a b l = elim (cases_Bool (nat_lt a b)) [
  | inl e ↦ (let lt : a < b = ltb-true a b e in absurd (omega arith))
  | inr e ↦ e
]

-- ---- an equation's number

module _ (p : Problem) (i k : ℕ) where
  pub entry-real : k < columns p → signed (whole_at p.b.items i) (coefficient p i k) ≡ whole_entry p i k
  unfolding whole_entry
  entry-real l = sym (rw (lt-yes k (columns p) l) refl)

  pub entry-unit : columns p ≤ k → k < columns p + p.rows → k ≡ columns p + i → pos 1 ≡ whole_entry p i k
  unfolding whole_entry
  entry-unit l m e = sym (rw (lt-no k (columns p) l, lt-yes k (columns p + p.rows) m, eq-eqb k (columns p + i) e) refl)

  pub entry-none : columns p ≤ k → k < columns p + p.rows → k ≢ columns p + i → pos 0 ≡ whole_entry p i k
  unfolding whole_entry
  entry-none l m e = sym (rw (lt-no k (columns p) l, lt-yes k (columns p + p.rows) m, ne_eqb k (columns p + i) e) refl)

  pub entry-right : columns p ≤ k → columns p + p.rows ≤ k → signed (whole_at p.b.items i) (whole_at p.b.items i) ≡ whole_entry p i k
  unfolding whole_entry
  entry-right l m = sym (rw (lt-no k (columns p) l, lt-no k (columns p + p.rows) m) refl)

-- ---- over the rational numbers

signed-of : (p : Problem) (i : ℕ) (x : ℤ) → of_ℤ (signed (whole_at p.b.items i) x) ≡ tables.signed ℚ rationals (linear_of p) i (of_ℤ x)
signed-of p i x = elim (cases_Bool (int_lt (whole_at p.b.items i) (pos 0))) [
  | inl e ↦ rw (e, le_ℚ-false _ _ (of_ℤ-< (whole_at p.b.items i) (pos 0) (omega (arith, ints)))) (of_ℤ-neg_ℤ x)
  | inr e ↦ rw (e, le_ℚ-true _ _ (of_ℤ-≤ (pos 0) (whole_at p.b.items i) (omega (arith, ints)))) refl
]

pub entry-of : (p : Problem) (i k : ℕ) → of_ℤ (whole_entry p i k) ≡ tables.start_entry ℚ rationals (linear_of p) i k
unfolding whole_entry tables.start_entry
entry-of p i k = elim (cases_Bool (nat_lt k (columns p))) [
  | inl e ↦ rw e (signed-of p i (coefficient p i k))
  | inr e ↦ elim (cases_Bool (nat_lt k (columns p + p.rows))) [
    | inl f ↦ elim (cases_Bool (k == columns p + i)) [
      | inl g ↦ rw (e, f, g) refl
      | inr g ↦ rw (e, f, g) refl
    ]
    | inr f ↦ rw (e, f) (signed-of p i (whole_at p.b.items i))
  ]
]

minus-of : (a b : ℤ) → of_ℤ (a -ℤ b) ≡ of_ℤ a +ℚ neg_ℚ (of_ℤ b)
minus-of a b = of_ℤ-+ℤ a (neg_ℤ b) ∙ ap (λ x. of_ℤ a +ℚ x) (of_ℤ-neg_ℤ b)

pub lowered-of : (p : Problem) (k n : ℕ) → of_ℤ (lowered p k n) ≡ tables.minus_sum ℚ rationals (linear_of p) k n
unfolding lowered tables.minus_sum
lowered-of p k zero = refl
lowered-of p k (suc n) = minus-of (lowered p k n) (whole_entry p n k) ∙ ap₂ (λ x y. x +ℚ neg_ℚ y) (lowered-of p k n) (entry-of p n k)

module _ (p : Problem) (i k : ℕ) (v : ℚ) where
  pub value-equation : i < p.rows → v ≡ of_ℤ (whole_entry p i k) → v ≡ start_value p i k
  unfolding tables.start_value
  value-equation l e = e ∙ entry-of p i k ∙ sym (rw (lt-yes i p.rows l) refl)

  pub value-lowered : i ≡ p.rows → v ≡ of_ℤ (lowered p k p.rows) → v ≡ start_value p i k
  unfolding tables.start_value
  value-lowered s e = e ∙ lowered-of p k p.rows ∙ sym (rw (lt-no i p.rows (omega arith), eq-eqb i p.rows s) refl)

  pub value-cost : p.rows ≤ i → i ≢ p.rows → k < columns p → v ≡ of_ℤ (whole_at p.cost.items k) → v ≡ start_value p i k
  unfolding tables.start_value
  value-cost l ne lk e = e ∙ sym (rw (lt-no i p.rows l, ne_eqb i p.rows ne, lt-yes k (columns p) lk) refl)

  pub value-none : p.rows ≤ i → i ≢ p.rows → columns p ≤ k → v ≡ of_ℤ (pos 0) → v ≡ start_value p i k
  unfolding tables.start_value
  value-none l ne lk e = e ∙ sym (rw (lt-no i p.rows l, ne_eqb i p.rows ne, lt-no k (columns p) lk) refl)

pub basis-start : (n : ℕ) → [] ≡ made 0 (λ i. n + i)
basis-start n = refl

pub basis-more : (n i : ℕ) (xs ys : List ℕ) → xs ≡ made i (λ k. n + k) → ys ≡ xs ++ (n + i) ∷ [] → ys ≡ made (i + 1) (λ k. n + k)
basis-more n i xs ys e f = f ∙ ap (λ zs. zs ++ (n + i) ∷ []) e ∙ sym (map-range_with_len_more (λ k. n + k) 0 i i (omega arith))

pub made-length : (n : ℕ) (f : ℕ → ℕ) → length (made n f) ≡ n
made-length n f = length-map-range_with_len f 0 n

-- a number of a list
pub whole-read : (xs : List ℤ) (i : ℕ) (x : ℤ) → i < length xs → x ≡ slice_index_or xs i x → x ≡ whole_at xs i
whole-read [] i x l e = absurd (omega arith)
whole-read (y ∷ xs) zero x l e = e
whole-read (y ∷ xs) (suc i) x l e = whole-read xs i x (omega arith) e

pub lowered-more : (p : Problem) (k n : ℕ) (a b : ℤ) → a ≡ lowered p k n → b ≡ whole_entry p n k → a -ℤ b ≡ lowered p k (n + 1)
unfolding lowered
lowered-more p k n a b e f = rw (add-one, e, f) refl

pub lowered-start : (p : Problem) (k : ℕ) → pos 0 ≡ lowered p k 0
unfolding lowered
lowered-start p k = refl

pub ruleset loads = (basis-start, basis-more, entry-unit, entry-none)
