-- The steps of a fold.
use Rattle.std.specs.Prelude.{◌≡◌, ℕ, zero, suc, ◌+◌, ◌-◌, ◌<◌, ◌≤◌, ℤ, pos, true, List, [], ◌∷◌, length, map, Option, Some, None, IsTrue, IsFalse, slice_index_or, unsigned_abs}
use Rattle.std.specs.Option.{option_map, option_and_then}
use Rattle.std.proofs.Common.{refl, sym, ◌∙◌, ap, arith, inl, add-one, zero-add, suc-add}
use Rattle.dc_math.specs.Rational.{ℚ, ◌+ℚ◌, ◌*ℚ◌, of_ℤ}
use Rattle.dc_frac.specs.declared.Frac.{Frac}
use Rattle.dc_frac.specs.Value.{value, IsChecked}
use Rattle.dc_frac.specs.Fits.{fits, sum_fits, product_fits, IsSmall}
use Rattle.dc_lp.specs.declared.Entry.{Entry}
use Rattle.dc_lp.specs.declared.Problem.{Problem}
use Rattle.dc_lp.specs.Problems.{IsColumn, IsWellFormed, coefficient_in, coefficient, entries}
use Rattle.dc_lp.proofs.Columns.{row_after, row_after-rows, none_behind, next, coefficient-weight, entries-at}
use Rattle.dc_lp.specs.Folds.{added, folded, numbers}
use Rattle.dc_lp.proofs.FoldSums.{folded-fits, added-none, zero-term}

-- ---- one term
pub added-zero : (s : ℚ) (a : ℤ) (x : ℚ) → a ≡ pos 0 → fits s ≡ true → Some s ≡ added s a x
added-zero s a x e h = sym (added-none s a x (zero-term a x (inl e)) h)

pub added-past_product : (s : ℚ) (a : ℤ) (x : ℚ) → IsFalse (product_fits (of_ℤ a) x) → None ≡ added s a x
unfolding added
added-past_product s a x h = rw h refl

pub added-is : (r : Option Frac) (s : ℚ) (a : ℤ) (x p : ℚ) → IsTrue (product_fits (of_ℤ a) x) → p ≡ of_ℤ a *ℚ x → IsChecked r (sum_fits s p) (s +ℚ p) → option_map value r ≡ added s a x
unfolding added
added-is None s a x p h e c = rw (h, ← e, c) refl
added-is (Some r) s a x p h e c = rw (h, ← e, c.0) (ap Some c.1)

-- ---- the numbers of a list
pub numbers-at : (xs : List Frac) (i : ℕ) (d : Frac) → i < length xs → numbers xs i ≡ value (slice_index_or xs i d)
numbers-at [] i d h = absurd (omega arith)
numbers-at (x ∷ xs) zero d h = refl
numbers-at (x ∷ xs) (suc i) d h = numbers-at xs i d (omega arith)

-- ---- one index more
module _ (a : ℕ → ℤ) (x : ℕ → ℚ) where
  pub folded-none : folded 0 a x ≡ Some (of_ℤ (pos 0))
  unfolding folded
  folded-none = refl

  step : (n : ℕ) → folded (suc n) a x ≡ option_and_then (λ s. added s (a n) (x n)) (folded n a x)
  unfolding folded
  step n = refl

  pub folded-next : (n : ℕ) (s : ℚ) → folded n a x ≡ Some s → folded (n + 1) a x ≡ added s (a n) (x n)
  folded-next n s e = rw (add-one, step n, e) refl

  none_after : (n m : ℕ) → folded n a x ≡ None → folded (m + n) a x ≡ None
  none_after n zero e = rw (zero-add n) e
  none_after n (suc m) e = rw (suc-add m n, step (m + n), none_after n m e) refl

  pub folded-past : (n m : ℕ) (s : ℚ) → folded n a x ≡ Some s → n < m → None ≡ added s (a n) (x n) → None ≡ folded m a x
  folded-past n m s e l h =
      let none : folded (n + 1) a x ≡ None = folded-next n s e ∙ sym h in
      let k : (m - (n + 1)) + (n + 1) ≡ m = omega arith in
      sym (ap (λ i. folded i a x) (sym k) ∙ none_after (n + 1) (m - (n + 1)) none)

  -- rows without an entry add nothing
  skips : (o : Option ℚ) (n m : ℕ) → folded m a x ≡ o → a n ≡ pos 0 → option_and_then (λ s. added s (a n) (x n)) o ≡ o
  skips None n m f e = refl
  skips (Some s) n m f e = sym (added-zero s (a n) (x n) e (folded-fits m a x s f))

  over_gap : (n m : ℕ) → ((k : ℕ) → n ≤ k → k < m + n → a k ≡ pos 0) → folded (m + n) a x ≡ folded n a x
  over_gap n zero z = rw (zero-add n) refl
  over_gap n (suc m) z = rw (suc-add m n, step (m + n), skips (folded (m + n) a x) (m + n) (m + n) refl (z (m + n) (omega arith) (omega arith))) (over_gap n m (λ k l h. z k l (omega arith)))

  pub folded-gap : (n m : ℕ) → n ≤ m → ((k : ℕ) → n ≤ k → k < m → a k ≡ pos 0) → folded m a x ≡ folded n a x
  folded-gap n m l z =
      let k : (m - n) + n ≡ m = omega arith in
      ap (λ i. folded i a x) (sym k) ∙ over_gap n (m - n) (λ i li h. z i li (omega arith))

-- ---- the same over a list of fractions, of which x is number n
module _ (a : ℕ → ℤ) (xs : List Frac) where
  reads_number : (n : ℕ) (x : Frac) → x ≡ slice_index_or xs n x → n < length xs → value x ≡ numbers xs n
  reads_number n x e l = ap value e ∙ sym (numbers-at xs n x l)

  pub more_summed : (n : ℕ) (z : ℤ) (s t x : Frac) → folded n a (numbers xs) ≡ Some (value s) → z ≡ a n → x ≡ slice_index_or xs n x → n < length xs → Some (value t) ≡ added (value s) z (value x) → folded (n + 1) a (numbers xs) ≡ Some (value t)
  more_summed n z s t x e za xe l h = folded-next a (numbers xs) n (value s) e ∙ ap (added (value s) (a n)) (sym (reads_number n x xe l)) ∙ ap (λ w. added (value s) w (value x)) (sym za) ∙ sym h

  pub past_summed : (n m : ℕ) (z : ℤ) (s x : Frac) → folded n a (numbers xs) ≡ Some (value s) → z ≡ a n → x ≡ slice_index_or xs n x → n < length xs → n < m → None ≡ added (value s) z (value x) → None ≡ folded m a (numbers xs)
  past_summed n m z s x e za xe l lm h =
      folded-past a (numbers xs) n m (value s) e lm (h ∙ ap (λ w. added (value s) w (value x)) za ∙ ap (added (value s) (a n)) (reads_number n x xe l))

-- ---- over the entries of a column: what number i adds, and that nothing is left behind the last
module _ (es : List Entry) (ys : List Frac) (h : IsColumn (length ys) es) where
  upto_entry : (i : ℕ) (d : Entry) (s : ℚ) → i < length es → folded (row_after 0 es i) (coefficient_in es) (numbers ys) ≡ Some s → folded (slice_index_or es i d).row (coefficient_in es) (numbers ys) ≡ Some s
  upto_entry i d s l e =
      let n = next 0 (length ys) es i d h.entries l in
      folded-gap (coefficient_in es) (numbers ys) (row_after 0 es i) (slice_index_or es i d).row n.later n.between ∙ e

  pub entry-row : (i : ℕ) (d : Entry) → i < length es → (slice_index_or es i d).row < length ys
  entry-row i d l = (next 0 (length ys) es i d h.entries l).inside

  pub entry-small : (i : ℕ) (d : Entry) → i < length es → IsSmall (slice_index_or es i d).value
  entry-small i d l =
      let n = next 0 (length ys) es i d h.entries l in
      let w = coefficient-weight es (slice_index_or es i d).row in
      let v : unsigned_abs (coefficient_in es (slice_index_or es i d).row) ≡ unsigned_abs (slice_index_or es i d).value = ap unsigned_abs n.value in
      omega (arith, w, v, h.weight)

  pub more_priced : (i : ℕ) (d : Entry) (z : ℤ) (s t x : Frac) → i < length es → folded (row_after 0 es i) (coefficient_in es) (numbers ys) ≡ Some (value s)
      → z ≡ (slice_index_or es i d).value → x ≡ slice_index_or ys (slice_index_or es i d).row x → Some (value t) ≡ added (value s) z (value x)
      → folded (row_after 0 es (i + 1)) (coefficient_in es) (numbers ys) ≡ Some (value t)
  more_priced i d z s t x l e ze xe g =
      let n = next 0 (length ys) es i d h.entries l in
      ap (λ k. folded k (coefficient_in es) (numbers ys)) (ap (row_after 0 es) (add-one i) ∙ n.after ∙ sym (add-one (slice_index_or es i d).row))
      ∙ more_summed (coefficient_in es) ys (slice_index_or es i d).row z s t x (upto_entry i d (value s) l e) (ze ∙ sym n.value) xe n.inside g

  pub past_priced : (i : ℕ) (d : Entry) (z : ℤ) (s x : Frac) → i < length es → folded (row_after 0 es i) (coefficient_in es) (numbers ys) ≡ Some (value s)
      → z ≡ (slice_index_or es i d).value → x ≡ slice_index_or ys (slice_index_or es i d).row x → None ≡ added (value s) z (value x)
      → None ≡ folded (length ys) (coefficient_in es) (numbers ys)
  past_priced i d z s x l e ze xe g =
      let n = next 0 (length ys) es i d h.entries l in
      past_summed (coefficient_in es) ys (slice_index_or es i d).row (length ys) z s x (upto_entry i d (value s) l e) (ze ∙ sym n.value) xe n.inside n.inside g

  pub all_priced : (i : ℕ) (s : ℚ) → i ≡ length es → folded (row_after 0 es i) (coefficient_in es) (numbers ys) ≡ Some s → Some s ≡ folded (length ys) (coefficient_in es) (numbers ys)
  all_priced i s k e =
      sym (folded-gap (coefficient_in es) (numbers ys) (row_after 0 es (length es)) (length ys) (row_after-rows 0 (length ys) es (length es) (omega arith) h.entries) (λ r a b. none_behind 0 (length ys) es r h.entries a)
      ∙ ap (λ j. folded (row_after 0 es j) (coefficient_in es) (numbers ys)) (sym k) ∙ e)

-- ---- the coefficient that is read from a column
pub coefficient_read : {C : Type 0} (cs : List C) (items : C → List Entry) (v : C) (es : List Entry) (i j : ℕ) (z : ℤ) → j < length cs → v ≡ slice_index_or cs j v → es ≡ items v → z ≡ coefficient_in es i → z ≡ coefficient_in (slice_index_or (map items cs) j []) i
coefficient_read cs items v es i j z l e f g = g ∙ ap (λ fs. coefficient_in fs i) (f ∙ sym (entries-at items cs j v l e))

pub coefficient_small : (p : Problem) (i j : ℕ) → IsWellFormed p → j < length p.columns.items → IsSmall (coefficient p i j)
coefficient_small p i j h l = (let w = coefficient-weight (entries p j) i in let c = (h.columns j l).weight in omega (arith, w, c))
