-- The tests of sums, as the code has them.
use Rattle.std.specs.Prelude.{◌≡◌, ℕ, zero, suc, ◌+◌, ◌≤◌, ◌<◌, Bool, true, false, ltb, if◌then◌else◌, List, [], ◌∷◌, length, ℤ, pos, sum_by, unsigned_abs, Option, Some, None}
use Rattle.std.proofs.Common.{refl, sym, ◌∙◌, ap, arith, get_or}
use Rattle.std.proofs.lemmas.Bool.{lt-ltb, le-ltb}
use Rattle.std.proofs.lemmas.List.Sums.{sum_by-cons}
use Rattle.std.proofs.lemmas.Option.{slice_get_read, get_or_from_slice_get}
use Rattle.dc_math.specs.Rational.{ℚ}
use Rattle.dc_frac.specs.declared.Frac.{Frac}
use Rattle.dc_frac.specs.Value.{value}
use Rattle.dc_lp.specs.declared.Entry.{Entry}
use Rattle.dc_lp.specs.declared.Problem.{Problem}
use Rattle.dc_lp.specs.Folds.{folded}
use Rattle.dc_lp.specs.Problems.{coefficient_in, entries, whole_at}
use Rattle.dc_clauses.specs.Steps.{Test}
use Rattle.dc_clauses.specs.Lines.{is, is_at_most}
use Rattle.dc_clauses.specs.Mains.{whole_problem, short_column, short_coefficient}
use Rattle.dc_mainlines.specs.Sums.{sum_of, sum_at, priced, solved}

-- ---- the sum of a row
pub sum_read : (sums : List (Option Frac)) (i : ℕ) (o : Option Frac) (f : Frac) → i < length sums → o ≡ get_or sums i o → o ≡ Some f → Some (value f) ≡ sum_at sums i
sum_read sums i o f l e q = sym (ap sum_of (get_or_from_slice_get sums i o None (slice_get_read sums (length sums) i o refl l e) ∙ q))

pub sum_none : (sums : List (Option Frac)) (i : ℕ) (o : Option Frac) → i < length sums → o ≡ get_or sums i o → o ≡ None → None ≡ sum_at sums i
sum_none sums i o l e q = sym (ap sum_of (get_or_from_slice_get sums i o None (slice_get_read sums (length sums) i o refl l e) ∙ q))

pub not_solved : (sums : List (Option Frac)) (right : ℕ → ℤ) (i : ℕ) → None ≡ sum_at sums i → None ≡ solved sums right i
not_solved sums right i e = ap (λ s. is s (right i)) e

-- ---- a column's price
pub price_read : (p : Problem) (u k column n : ℕ) (es : List Entry) (y : ℕ → ℚ) (o : Option ℚ) → o ≡ folded n (coefficient_in es) y → n ≡ p.rows → entries p column ≡ es → column ≡ short_column (whole_problem p) u k
    → o ≡ folded p.rows (λ i. short_coefficient (whole_problem p) u i k) y
price_read p u k column n es y o e l q f =
    e ∙ ap (λ m. folded m (coefficient_in es) y) l ∙ ap (λ (fs : List Entry). folded p.rows (coefficient_in fs) y) (sym q ∙ ap (entries p) f)

module _ (p : Problem) (u k column : ℕ) (cost : ℕ → ℤ) (y : ℕ → ℚ) (f : column ≡ short_column (whole_problem p) u k) where
  pub unknown_priced : (t : Test) → k < u → t ≡ is (folded p.rows (λ i. short_coefficient (whole_problem p) u i k) y) (cost column) → t ≡ priced (whole_problem p) u cost y k
  unknown_priced t l e =
      e ∙ ap (λ j. is (folded p.rows (λ i. short_coefficient (whole_problem p) u i k) y) (cost j)) f
      ∙ ap (λ b. if b then is (folded p.rows (λ i. short_coefficient (whole_problem p) u i k) y) (cost (short_column (whole_problem p) u k)) else is_at_most (folded p.rows (λ i. short_coefficient (whole_problem p) u i k) y) (pos 0)) (sym (lt-ltb k u l))

  pub multiplier_priced : (t : Test) → u ≤ k → t ≡ is_at_most (folded p.rows (λ i. short_coefficient (whole_problem p) u i k) y) (pos 0) → t ≡ priced (whole_problem p) u cost y k
  multiplier_priced t l e =
      e ∙ ap (λ b. if b then is (folded p.rows (λ i. short_coefficient (whole_problem p) u i k) y) (cost (short_column (whole_problem p) u k)) else is_at_most (folded p.rows (λ i. short_coefficient (whole_problem p) u i k) y) (pos 0)) (sym (le-ltb k u l))

  pub none_priced : None ≡ folded p.rows (λ i. short_coefficient (whole_problem p) u i k) y → None ≡ priced (whole_problem p) u cost y k
  none_priced e = by (ltb k u)
    where
      by : (b : Bool) → None ≡ (if b then is (folded p.rows (λ i. short_coefficient (whole_problem p) u i k) y) (cost (short_column (whole_problem p) u k)) else is_at_most (folded p.rows (λ i. short_coefficient (whole_problem p) u i k) y) (pos 0))
      by true = ap (λ s. is s (cost (short_column (whole_problem p) u k))) e
      by false = ap (λ s. is_at_most s (pos 0)) e

-- ---- right sides are small
pub size_within : (xs : List ℤ) (k : ℕ) → unsigned_abs (whole_at xs k) ≤ sum_by unsigned_abs xs
size_within [] k = omega arith
size_within (x ∷ xs) k = by k (λ j. size_within xs j)
  where
    all : sum_by unsigned_abs (x ∷ xs) ≡ unsigned_abs x + sum_by unsigned_abs xs
    all = sum_by-cons unsigned_abs x xs

    by : (k : ℕ) → ((j : ℕ) → unsigned_abs (whole_at xs j) ≤ sum_by unsigned_abs xs) → unsigned_abs (whole_at (x ∷ xs) k) ≤ sum_by unsigned_abs (x ∷ xs)
    by zero r = let e = all in omega arith
    by (suc k) r = let e = all in let h = r k in omega arith
