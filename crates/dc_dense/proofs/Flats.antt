-- Tables in one list.
use Rattle.std.proofs.Common.{◌≡◌, ◌≢◌, ℕ, zero, suc, ◌+◌, ◌*◌, ◌<◌, ◌≤◌, Bool, true, false, cond, ◌&&◌, ◌||◌, ◌==◌, List, [], ◌∷◌, length, set, IsTrue, IsFalse, pos, refl, sym, ◌∙◌, ap, arith, add-one, below_more, eq-eqb, ◌⊎◌, inl, inr, slice_index_or}
use Rattle.std.proofs.lemmas.Bool.{cases_Bool, ne_eqb, eqb-true, eqb-false}
use Rattle.std.proofs.lemmas.List.FromFn.{get_or-map-range_with_len}
use Rattle.dc_math.specs.Rational.{ℚ, of_ℤ, ◌-ℚ◌, ◌*ℚ◌, ◌+ℚ◌, neg_ℚ, zero-*ℚ, fraction_of, of_ℤ_is}
use Rattle.dc_math.specs.RationalRing.{ring, reads, read_nat, same_form, linear₁}
use Rattle.dc_math.specs.Inverse.{inverse, ◌/ℚ◌, *ℚ-inverse}
use Rattle.dc_math.specs.Tests.{is_zero, eq_ℚ_true, eq_ℚ_false}
use Rattle.dc_frac.specs.declared.Frac.{Frac}
use Rattle.dc_frac.specs.Value.{value}
use Rattle.dc_frac.specs.Fits.{fits, quotient_fits}
use Rattle.dc_math.specs.Gcd.{Coprime-gcd}
use Rattle.dc_math.specs.Lowest.{lowest, lowest-of_reduced}
use Rattle.dc_lp.specs.Meanings.{all_below}
use Rattle.dc_lp.specs.Tables.{made}
use Rattle.dc_dense.specs.Flat.{item, flat, divisions_fit, ChangesWithin, IsDivided, reductions_fit, IsReduced, row_fits, rows_fit, reduced_item, AreReduced, items_fit, pivoted_item}
use Rattle.dc_start.specs.Changes.{step_fits}
use Rattle.dc_start.proofs.Changes.{quotient-zero, step-zero}
use Rattle.dc_dense.proofs.Indices.{rows_apart}
use Rattle.dc_lp.proofs.Belows.{or_true, or_true_or, all_below-fails, all_below-same}

-- ---- one number

pub item-read : (xs : List Frac) (q : ℕ) (d : Frac) → q < length xs → value (slice_index_or xs q d) ≡ item xs q
unfolding item
item-read [] q d lt = absurd (omega arith)
item-read (x ∷ xs) zero d lt = refl
item-read (x ∷ xs) (suc q) d lt = item-read xs q d (omega arith)

pub item-is : (xs : List Frac) (q : ℕ) (x : Frac) → q < length xs → x ≡ slice_index_or xs q x → value x ≡ item xs q
item-is xs q x lt e = ap value e ∙ item-read xs q x lt

pub item-set_other : (xs : List Frac) (k q : ℕ) (v : Frac) → q ≢ k → item (set xs k v) q ≡ item xs q
unfolding item
item-set_other [] k q v ne = refl
item-set_other (x ∷ xs) zero zero v ne = absurd (ne refl)
item-set_other (x ∷ xs) zero (suc q) v ne = refl
item-set_other (x ∷ xs) (suc k) zero v ne = refl
item-set_other (x ∷ xs) (suc k) (suc q) v ne = item-set_other xs k q v (λ e. ne (ap suc e))

pub item-set_same : (xs : List Frac) (k : ℕ) (v : Frac) → k < length xs → item (set xs k v) k ≡ value v
unfolding item
item-set_same [] k v lt = absurd (omega arith)
item-set_same (x ∷ xs) zero v lt = refl
item-set_same (x ∷ xs) (suc k) v lt = item-set_same xs k v (omega arith)

-- ---- the pivot's row

pub divisions_fit-start : (xs : List Frac) (from : ℕ) (by : ℚ) → divisions_fit xs from by 0 ≡ true
unfolding divisions_fit
divisions_fit-start xs from by = refl

divisions_fit-more : (xs : List Frac) (from : ℕ) (by : ℚ) (n : ℕ) → divisions_fit xs from by n ≡ true → quotient_fits (item xs (from + n)) by ≡ true → divisions_fit xs from by (n + 1) ≡ true
unfolding divisions_fit
divisions_fit-more xs from by n e h = rw (add-one, e, h) refl

divisions_fit-fails : (xs : List Frac) (from : ℕ) (by : ℚ) (i n : ℕ) → quotient_fits (item xs (from + i)) by ≡ false → i < n → divisions_fit xs from by n ≡ false
unfolding divisions_fit
divisions_fit-fails xs from by i n e lt = all_below-fails (λ k. quotient_fits (item xs (from + k)) by) i n e lt

-- the first k numbers are divided, and nothing else has changed
pub record IsDividing (old new : List Frac) (from : ℕ) (by : ℚ) (k : ℕ) : Type 0 where
  pub fit : divisions_fit old from by k ≡ true
  pub divided : IsDivided old new from k by
  pub others : ChangesWithin old new from k

pub IsDividing-start : (xs : List Frac) (from : ℕ) (by : ℚ) → IsDividing xs xs from by 0
IsDividing-start xs from by = record {
  fit = divisions_fit-start xs from by;
  divided = λ k lt. absurd (omega arith);
  others = record { before = λ q l. refl; behind = λ q l. refl };
}

module _ (old xs : List Frac) (from : ℕ) (by : ℚ) (k : ℕ) (h : IsDividing old xs from by k) where
  here_still : item xs (from + k) ≡ item old (from + k)
  here_still = h.others.behind (from + k) (omega arith)

  pub IsDividing-more : (x v : Frac) → from + k < length xs → value x ≡ item xs (from + k) → IsTrue (quotient_fits (value x) by) × (value v ≡ value x /ℚ by) → IsDividing old (set xs (from + k) v) from by (k + 1)
  IsDividing-more x v lt r e =
      let was : value x ≡ item old (from + k) = r ∙ here_still in
      record {
        fit = divisions_fit-more old from by k h.fit (sym (ap (λ z. quotient_fits z by) was) ∙ e.0);
        divided = below_more (λ i. item (set xs (from + k) v) (from + i) ≡ item old (from + i) /ℚ by) k
            (λ i il. item-set_other xs (from + k) (from + i) v (omega arith) ∙ h.divided i il)
            (item-set_same xs (from + k) v lt ∙ e.1 ∙ ap (λ z. z /ℚ by) was);
        others = record {
          before = λ q l. item-set_other xs (from + k) q v (omega arith) ∙ h.others.before q l;
          behind = λ q l. item-set_other xs (from + k) q v (omega arith) ∙ h.others.behind q (omega arith);
        };
      }

  pub IsDividing-fails : (n : ℕ) (x : Frac) → k < n → value x ≡ item xs (from + k) → IsFalse (quotient_fits (value x) by) → divisions_fit old from by n ≡ false
  IsDividing-fails n x lt r e = divisions_fit-fails old from by k n (sym (ap (λ z. quotient_fits z by) (r ∙ here_still)) ∙ e) lt

-- ---- another row

reductions_fit-more : (xs : List Frac) (from pivot col : ℕ) (factor : ℚ) (n : ℕ) → reductions_fit xs from pivot col factor n ≡ true → (n ≡ col) ⊎ (step_fits factor (item xs (pivot + n)) (item xs (from + n)) ≡ true) → reductions_fit xs from pivot col factor (n + 1) ≡ true
unfolding reductions_fit
reductions_fit-more xs from pivot col factor n e (inl h) = rw (add-one, e, eq-eqb n col h) refl
reductions_fit-more xs from pivot col factor n e (inr h) = rw (add-one, e, h) (or_true (n == col))

reductions_fit-fails : (xs : List Frac) (from pivot col : ℕ) (factor : ℚ) (i n : ℕ) → i ≢ col → step_fits factor (item xs (pivot + i)) (item xs (from + i)) ≡ false → i < n → reductions_fit xs from pivot col factor n ≡ false
unfolding reductions_fit
reductions_fit-fails xs from pivot col factor i n ne e lt = all_below-fails (λ k. k == col || step_fits factor (item xs (pivot + k)) (item xs (from + k))) i n (rw (ne_eqb i col ne, e) refl) lt

reductions_fit-start : (xs : List Frac) (from pivot col : ℕ) (factor : ℚ) → reductions_fit xs from pivot col factor 0 ≡ true
unfolding reductions_fit
reductions_fit-start xs from pivot col factor = refl

pub record IsReducing (old new : List Frac) (from pivot col : ℕ) (factor : ℚ) (k : ℕ) : Type 0 where
  pub fit : reductions_fit old from pivot col factor k ≡ true
  pub reduced : IsReduced old new from pivot col factor k
  pub others : ChangesWithin old new from k

pub IsReducing-start : (xs : List Frac) (from pivot col : ℕ) (factor : ℚ) → IsReducing xs xs from pivot col factor 0
IsReducing-start xs from pivot col factor = record {
  fit = reductions_fit-start xs from pivot col factor;
  reduced = λ k lt. absurd (omega arith);
  others = record { before = λ q l. refl; behind = λ q l. refl };
}

module _ (old xs : List Frac) (from pivot col width : ℕ) (factor : ℚ) (k : ℕ) (apart : (from + width ≤ pivot) ⊎ (pivot + width ≤ from)) (lt : k < width) (lu : from + k < length xs) (h : IsReducing old xs from pivot col factor k) where
  reducing_set : (v : Frac) → reductions_fit old from pivot col factor (k + 1) ≡ true → value v ≡ cond (k == col) (of_ℤ (pos 0)) (item old (from + k) -ℚ factor *ℚ item old (pivot + k)) → IsReducing old (set xs (from + k) v) from pivot col factor (k + 1)
  reducing_set v e f = record {
    fit = e;
    reduced = below_more (λ i. item (set xs (from + k) v) (from + i) ≡ cond (i == col) (of_ℤ (pos 0)) (item old (from + i) -ℚ factor *ℚ item old (pivot + i))) k
        (λ i il. item-set_other xs (from + k) (from + i) v (omega arith) ∙ h.reduced i il)
        (item-set_same xs (from + k) v lu ∙ f);
    others = record {
      before = λ q l. item-set_other xs (from + k) q v (omega arith) ∙ h.others.before q l;
      behind = λ q l. item-set_other xs (from + k) q v (omega arith) ∙ h.others.behind q (omega arith);
    };
  }

  here : item xs (from + k) ≡ item old (from + k)
  here = h.others.behind (from + k) (omega arith)

  there : item xs (pivot + k) ≡ item old (pivot + k)
  there = elim apart [
    | inl before ↦ h.others.behind (pivot + k) (omega arith)
    | inr behind ↦ h.others.before (pivot + k) (omega arith)
  ]

  pub IsReducing-column : (v : Frac) → k ≡ col → value v ≡ of_ℤ (pos 0) → IsReducing old (set xs (from + k) v) from pivot col factor (k + 1)
  IsReducing-column v e z = reducing_set v (reductions_fit-more old from pivot col factor k h.fit (inl e)) (rw (eq-eqb k col e) z)

  pub IsReducing-more : (x y v : Frac) → k ≢ col → value y ≡ item xs (from + k) → value x ≡ item xs (pivot + k) → IsTrue (step_fits factor (value x) (value y)) × (value v ≡ value y -ℚ factor *ℚ value x) → IsReducing old (set xs (from + k) v) from pivot col factor (k + 1)
  IsReducing-more x y v ne r s e =
      let yes : value y ≡ item old (from + k) = r ∙ here in
      let pes : value x ≡ item old (pivot + k) = s ∙ there in
      let fit : step_fits factor (item old (pivot + k)) (item old (from + k)) ≡ true = rw (← yes, ← pes) e.0 in
      reducing_set v (reductions_fit-more old from pivot col factor k h.fit (inr fit)) (rw (ne_eqb k col ne, ← yes, ← pes) e.1)

  pub IsReducing-fails : (x y : Frac) → k ≢ col → value y ≡ item xs (from + k) → value x ≡ item xs (pivot + k) → IsFalse (step_fits factor (value x) (value y)) → reductions_fit old from pivot col factor width ≡ false
  IsReducing-fails x y ne r s e =
      let yes : value y ≡ item old (from + k) = r ∙ here in
      let pes : value x ≡ item old (pivot + k) = s ∙ there in
      reductions_fit-fails old from pivot col factor k width ne (rw (← yes, ← pes) e) lt

-- ---- rows

pub row_fits-zero : (xs : List Frac) (w row col i : ℕ) → is_zero (item xs (i * w + col)) ≡ true → row_fits xs w row col i ≡ true
unfolding row_fits
row_fits-zero xs w row col i h = rw h (or_true_or (i == row) (reductions_fit xs (i * w) (row * w) col (item xs (i * w + col)) w))

pub row_fits-else : (xs : List Frac) (w row col i : ℕ) → i ≢ row → is_zero (item xs (i * w + col)) ≡ false → row_fits xs w row col i ≡ reductions_fit xs (i * w) (row * w) col (item xs (i * w + col)) w
unfolding row_fits
row_fits-else xs w row col i ne h = rw (ne_eqb i row ne, h) refl

pub reduced_item-zero : (xs : List Frac) (w row col i k : ℕ) → is_zero (item xs (i * w + col)) ≡ true → reduced_item xs w row col i k ≡ item xs (i * w + k)
unfolding reduced_item
reduced_item-zero xs w row col i k h = rw (h, or_true (i == row)) refl

pub reduced_item-row : (xs : List Frac) (w row col i k : ℕ) → i ≡ row → reduced_item xs w row col i k ≡ item xs (i * w + k)
unfolding reduced_item
reduced_item-row xs w row col i k h = rw (eq-eqb i row h) refl

pub reduced_item-else : (xs : List Frac) (w row col i k : ℕ) → i ≢ row → is_zero (item xs (i * w + col)) ≡ false → reduced_item xs w row col i k ≡ cond (k == col) (of_ℤ (pos 0)) (item xs (i * w + k) -ℚ item xs (i * w + col) *ℚ item xs (row * w + k))
unfolding reduced_item
reduced_item-else xs w row col i k ne h = rw (ne_eqb i row ne, h) refl

pub rows_fit-start : (xs : List Frac) (w row col : ℕ) → rows_fit xs w row col 0 ≡ true
unfolding rows_fit
rows_fit-start xs w row col = refl

rows_fit-more : (xs : List Frac) (w row col n : ℕ) → rows_fit xs w row col n ≡ true → row_fits xs w row col n ≡ true → rows_fit xs w row col (n + 1) ≡ true
unfolding rows_fit
rows_fit-more xs w row col n e h = rw (add-one, e, h) refl

rows_fit-fails : (xs : List Frac) (w row col i n : ℕ) → row_fits xs w row col i ≡ false → i < n → rows_fit xs w row col n ≡ false
unfolding rows_fit
rows_fit-fails xs w row col i n e lt = all_below-fails (row_fits xs w row col) i n e lt

row_fits-row : (xs : List Frac) (w row col i : ℕ) → i ≡ row → row_fits xs w row col i ≡ true
unfolding row_fits
row_fits-row xs w row col i e = rw (eq-eqb i row e) refl

-- rows 0 to i - 1 are reduced, and row `row` and the others are as they were
pub record AreReducing (old new : List Frac) (w row col i : ℕ) : Type 0 where
  pub fit : rows_fit old w row col i ≡ true
  pub reduced : AreReduced old new w row col i
  pub later : (a : ℕ) → i ≤ a → (k : ℕ) → k < w → item new (a * w + k) ≡ item old (a * w + k)
  pub pivot : (k : ℕ) → k < w → item new (row * w + k) ≡ item old (row * w + k)
  pub long : length new ≡ length old

row_fits-same : (xs ys : List Frac) (w row col i : ℕ) → col < w → ((k : ℕ) → k < w → item xs (i * w + k) ≡ item ys (i * w + k)) → ((k : ℕ) → k < w → item xs (row * w + k) ≡ item ys (row * w + k)) → row_fits xs w row col i ≡ row_fits ys w row col i
unfolding row_fits reductions_fit
row_fits-same xs ys w row col i lt h p =
    rw (h col lt) (ap (λ b. i == row || is_zero (item ys (i * w + col)) || b)
    (all_below-same w _ _ (λ k l. rw (h k l, p k l) refl)))

reduced_item-same : (xs ys : List Frac) (w row col i k : ℕ) → col < w → k < w → ((k : ℕ) → k < w → item xs (i * w + k) ≡ item ys (i * w + k)) → ((k : ℕ) → k < w → item xs (row * w + k) ≡ item ys (row * w + k)) → reduced_item xs w row col i k ≡ reduced_item ys w row col i k
unfolding reduced_item
reduced_item-same xs ys w row col i k lc lk h p = rw (h col lc, h k lk, p k lk) refl

pub AreReducing-start : (xs : List Frac) (w row col : ℕ) → AreReducing xs xs w row col 0
AreReducing-start xs w row col = record {
  fit = rows_fit-start xs w row col;
  reduced = λ i lt. absurd (omega arith);
  later = λ a l k lk. refl;
  pivot = λ k lk. refl;
  long = refl;
}

pub AreReducing-skip : (old xs : List Frac) (w row col i : ℕ) → AreReducing old xs w row col i → i ≡ row → AreReducing old xs w row col (i + 1)
AreReducing-skip old xs w row col i h e = record {
  fit = rows_fit-more old w row col i h.fit (row_fits-row old w row col i e);
  reduced = below_more (λ a. (k : ℕ) → k < w → item xs (a * w + k) ≡ reduced_item old w row col a k) i h.reduced
      (λ k l. h.later i (omega arith) k l ∙ sym (reduced_item-row old w row col i k e));
  later = λ a l. h.later a (omega arith);
  pivot = h.pivot;
  long = h.long;
}

pub AreReducing-more : (old xs ys : List Frac) (w row col i : ℕ) → AreReducing old xs w row col i → i ≢ row → col < w → true ≡ row_fits xs w row col i
    → ((k : ℕ) → k < w → item ys (i * w + k) ≡ reduced_item xs w row col i k) → ChangesWithin xs ys (i * w) w → length ys ≡ length xs → AreReducing old ys w row col (i + 1)
AreReducing-more old xs ys w row col i h ne lc f g o len =
    let here = h.later i (omega arith) in
    let others : (a k : ℕ) → a ≢ i → k < w → item ys (a * w + k) ≡ item xs (a * w + k) =
    λ a k na lk. elim (rows_apart a i w na) [
      | inl before ↦ o.before (a * w + k) (omega arith)
      | inr behind ↦ o.behind (a * w + k) (omega arith)
    ] in
    record {
      fit = rows_fit-more old w row col i h.fit (sym (row_fits-same xs old w row col i lc here h.pivot) ∙ sym f);
      reduced = below_more (λ a. (k : ℕ) → k < w → item ys (a * w + k) ≡ reduced_item old w row col a k) i
          (λ a la k lk. others a k (omega arith) lk ∙ h.reduced a la k lk)
          (λ k lk. g k lk ∙ reduced_item-same xs old w row col i k lc lk here h.pivot);
      later = λ a la k lk. others a k (omega arith) lk ∙ h.later a (omega arith) k lk;
      pivot = λ k lk. others row k (λ e. ne (sym e)) lk ∙ h.pivot k lk;
      long = len ∙ h.long;
    }

pub AreReducing-fails : (old xs : List Frac) (w row col i n : ℕ) → AreReducing old xs w row col i → col < w → i < n → false ≡ row_fits xs w row col i → rows_fit old w row col n ≡ false
AreReducing-fails old xs w row col i n h lc lt f =
    rows_fit-fails old w row col i n (sym (row_fits-same xs old w row col i lc (h.later i (omega arith)) h.pivot) ∙ sym f) lt

-- ---- a whole pivot: mid is old with row `row` divided, new is mid with the other rows reduced

-- y less y / p times p
nothing_left : (y p i : ℚ) → p *ℚ i ≡ of_ℤ (pos 1) → y +ℚ neg_ℚ (y *ℚ (p *ℚ i)) ≡ of_ℤ (pos 0)
nothing_left y p i e = linear₁ (neg_ℚ y) _ _ _ _ e (ring (y ∷ p ∷ i ∷ []) (λ ρ p₁ p₂ p₃. simp (p₁, p₂, p₃, read_nat ρ, reads) (same_form _ _ _ refl)))

difference-same : (y p : ℚ) → is_zero p ≡ false → y -ℚ y *ℚ (p /ℚ p) ≡ of_ℤ (pos 0)
difference-same y p h = nothing_left y p (inverse p) (*ℚ-inverse p (eq_ℚ_false p (of_ℤ (pos 0)) h))

module _ (old mid : List Frac) (w h row col : ℕ) (inside : row < h) (lc : col < w) (divided : IsDivided old mid (row * w) w (item old (row * w + col))) (others : ChangesWithin old mid (row * w) w) where
  mid-other : (i k : ℕ) → i ≢ row → k < w → item mid (i * w + k) ≡ item old (i * w + k)
  mid-other i k ne lk = elim (rows_apart i row w ne) [
    | inl before ↦ others.before (i * w + k) (omega arith)
    | inr behind ↦ others.behind (i * w + k) (omega arith)
  ]

  -- what must fit in row i, by what stands in old
  abbrev fits_row : ℕ → Bool
  fits_row i = i == row || is_zero (item old (i * w + col)) || all_below w (λ k. k == col || step_fits (item old (i * w + col)) (item old (row * w + k) /ℚ item old (row * w + col)) (item old (i * w + k)))

  row_fits-mid : (i : ℕ) → row_fits mid w row col i ≡ fits_row i
  unfolding row_fits reductions_fit
  row_fits-mid i = elim (cases_Bool (i == row)) [
    | inl e ↦ rw e refl
    | inr e ↦ (let ne : i ≢ row = eqb-false i row e in
        ap (λ x. i == row || is_zero x || all_below w (λ k. k == col || step_fits x (item mid (row * w + k)) (item mid (i * w + k)))) (mid-other i col ne lc)
        ∙ ap (λ b. i == row || is_zero (item old (i * w + col)) || b) (all_below-same w _ _
        (λ k lk. ap (λ x. k == col || step_fits (item old (i * w + col)) x (item mid (i * w + k))) (divided k lk) ∙ ap (λ x. k == col || step_fits (item old (i * w + col)) (item old (row * w + k) /ℚ item old (row * w + col)) x) (mid-other i k ne lk))))
  ]

  pub items_fit-divided : divisions_fit old (row * w) (item old (row * w + col)) w ≡ true → rows_fit mid w row col h ≡ items_fit old w h row col
  unfolding rows_fit items_fit divisions_fit
  items_fit-divided e = all_below-same h (row_fits mid w row col) fits_row (λ i l. row_fits-mid i) ∙ sym (ap (λ b. b && all_below h fits_row) e)

  abbrev lower : ℕ → ℕ → ℚ
  lower i k = cond (is_zero (item old (i * w + col))) (item old (i * w + k))
      (item old (i * w + k) -ℚ item old (i * w + col) *ℚ (item old (row * w + k) /ℚ item old (row * w + col)))

  -- in the pivot's column the difference is 0
  in_column : is_zero (item old (row * w + col)) ≡ false → (i k : ℕ) → cond (k == col) (of_ℤ (pos 0)) (item old (i * w + k) -ℚ item old (i * w + col) *ℚ (item old (row * w + k) /ℚ item old (row * w + col)))
      ≡ item old (i * w + k) -ℚ item old (i * w + col) *ℚ (item old (row * w + k) /ℚ item old (row * w + col))
  in_column nz i k = elim (cases_Bool (k == col)) [
    | inl e ↦ (let same : k ≡ col = eqb-true k col e in
        ap (λ b. cond b (of_ℤ (pos 0)) (item old (i * w + k) -ℚ item old (i * w + col) *ℚ (item old (row * w + k) /ℚ item old (row * w + col)))) e
        ∙ sym (ap (λ x. item old (i * w + x) -ℚ item old (i * w + col) *ℚ (item old (row * w + x) /ℚ item old (row * w + col))) same ∙ difference-same (item old (i * w + col)) (item old (row * w + col)) nz))
    | inr e ↦ rw e refl
  ]

  other_rows : is_zero (item old (row * w + col)) ≡ false → (i k : ℕ) → i ≢ row → k < w → reduced_item mid w row col i k ≡ lower i k
  other_rows nz i k ne lk = elim (cases_Bool (is_zero (item old (i * w + col)))) [
    | inl z ↦ reduced_item-zero mid w row col i k (ap is_zero (mid-other i col ne lc) ∙ z) ∙ mid-other i k ne lk ∙ sym (rw z refl)
    | inr z ↦
        reduced_item-else mid w row col i k ne (ap is_zero (mid-other i col ne lc) ∙ z)
        ∙ ap (λ x. cond (k == col) (of_ℤ (pos 0)) (item mid (i * w + k) -ℚ x *ℚ item mid (row * w + k))) (mid-other i col ne lc)
        ∙ ap (λ x. cond (k == col) (of_ℤ (pos 0)) (x -ℚ item old (i * w + col) *ℚ item mid (row * w + k))) (mid-other i k ne lk)
        ∙ ap (λ x. cond (k == col) (of_ℤ (pos 0)) (item old (i * w + k) -ℚ item old (i * w + col) *ℚ x)) (divided k lk)
        ∙ in_column nz i k
        ∙ sym (rw z refl)
  ]

  pub pivoted_item-divided : is_zero (item old (row * w + col)) ≡ false → (i k : ℕ) → i < h → k < w → reduced_item mid w row col i k ≡ pivoted_item old w row col i k
  pivoted_item-divided nz i k li lk = elim (cases_Bool (i == row)) [
    | inl e ↦ (let same : i ≡ row = eqb-true i row e in
        reduced_item-row mid w row col i k same ∙ ap (λ x. item mid (x * w + k)) same ∙ divided k lk ∙ sym (rw e refl))
    | inr e ↦ (let ne : i ≢ row = eqb-false i row e in other_rows nz i k ne lk ∙ sym (rw e refl))
  ]

pub items_fit-undivided : (old : List Frac) (w h row col : ℕ) → divisions_fit old (row * w) (item old (row * w + col)) w ≡ false → items_fit old w h row col ≡ false
unfolding items_fit divisions_fit
items_fit-undivided old w h row col e = ap (λ b. b && all_below h (λ i. i == row || is_zero (item old (i * w + col)) || all_below w (λ k. k == col || step_fits (item old (i * w + col)) (item old (row * w + k) /ℚ item old (row * w + col)) (item old (i * w + k))))) e

pub flat-at : (h w : ℕ) (xs : List Frac) (i k : ℕ) → i < h → k < w → slice_index_or (slice_index_or (flat h w xs) i []) k (of_ℤ (pos 0)) ≡ item xs (i * w + k)
unfolding flat
flat-at h w xs i k hi hk =
    ap (λ r. slice_index_or r k (of_ℤ (pos 0))) (get_or-map-range_with_len (λ i. made w (λ k. item xs (i * w + k))) 0 h i i [] hi (omega arith))
    ∙ get_or-map-range_with_len (λ k. item xs (i * w + k)) 0 w k k (of_ℤ (pos 0)) hk (omega arith)

pub ruleset flats = (item-is, divisions_fit-start, IsDividing-start, IsReducing-start, AreReducing-start, row_fits-zero, row_fits-else, reduced_item-zero, reduced_item-else, rows_fit-start, items_fit-undivided)
