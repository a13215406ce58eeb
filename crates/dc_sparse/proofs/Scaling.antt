-- Rows that are scaled: what is held of them, and what changes when a row is written anew.
use Rattle.std.proofs.Common.{get_or-set_other, ◌≡◌, ◌≢◌, ℕ, zero, suc, [], ◌∷◌, ◌++◌, slice_index_or, ◌<◌, ◌≤◌, true, false, cond, ◌==◌, pos, List, length, set, Option, Some, None, refl, sym, ◌∙◌, ap, subst, arith, inl, inr, nat_lt, eq-eqb}
use Rattle.std.proofs.lemmas.Bool.{cases_Bool, ne_eqb, eqb-true, eqb-false, ltb-true, ltb-false}
use Rattle.std.proofs.Math.ListN.{length-set}
use Rattle.std.proofs.lemmas.Grind.{get_or-set_at}
use Rattle.dc_math.specs.Rational.{ℚ, of_ℤ}
use Rattle.dc_math.specs.Inverse.{◌/ℚ◌}
use Rattle.dc_math.specs.Order.{Positive, Positive_nonzero, one_positive}
use Rattle.dc_math.specs.Tests.{is_zero, is_negative}
use Rattle.dc_frac.specs.declared.Frac.{Frac}
use Rattle.dc_frac.specs.Value.{value}
use Rattle.dc_frac.specs.Fits.{quotient_fits, IsWithin}
use Rattle.dc_sparse.specs.declared.web.Node.{Node}
use Rattle.dc_sparse.specs.declared.web.Web.{Web}
use Rattle.dc_sparse.specs.Entries.{entry_at}
use Rattle.dc_sparse.specs.Rows.{divisions_fit, AreDivided}
use Rattle.dc_sparse.specs.Scales.{IsWhole, IsDen, scale_at, den_of, IsScaled, AreScaled, AreFractions, scaled_at}
use Rattle.dc_sparse.proofs.Entries.{entry-vacant}
use Rattle.dc_lp.proofs.Counts.{all_below-on}
use Rattle.dc_sparse.proofs.Quotients.{zero_by}
use Rattle.dc_sparse.proofs.Wholes.{zero_test, is_zero-zero, is_zero-/ℚ, is_negative-/ℚ, by_one, over_within}

-- ---- denominators

pub scale-set : (ds : List (Option Frac)) (i : ℕ) (o : Option Frac) (l : ℕ) → i < length ds → scale_at (set ds i o) l ≡ cond (l == i) o (scale_at ds l)
unfolding scale_at
scale-set ds i o l lt = elim (cases_Bool (l == i)) [
  | inl q ↦ rw q (get_or-set_at ds i l o None (eqb-true l i q) lt)
  | inr q ↦ rw q (get_or-set_other ds i l o None (eqb-false l i q))
]

pub scale-read : (ds : List (Option Frac)) (i : ℕ) (o : Option Frac) → i < length ds → o ≡ slice_index_or ds i o → scale_at ds i ≡ o
unfolding scale_at
scale-read [] i o lt e = absurd (omega arith)
scale-read (x ∷ ds) zero o lt e = sym e
scale-read (x ∷ ds) (suc i) o lt e = scale-read ds i o (omega arith) e

pub empty_scaled : AreScaled [] [] 0
unfolding scale_at
empty_scaled = record { long = refl; rows = λ i. tt }

fractions_append : (ds : List (Option Frac)) (l : ℕ) → ((l : ℕ) → scale_at ds l ≡ None) → scale_at (ds ++ None ∷ []) l ≡ None
unfolding scale_at
fractions_append [] zero h = refl
fractions_append [] (suc l) h = refl
fractions_append (x ∷ ds) zero h = h 0
fractions_append (x ∷ ds) (suc l) h = fractions_append ds l (λ m. h (suc m))

pub no_fractions : AreFractions [] 0
unfolding scale_at
no_fractions i le = refl

pub fractions_more : (ds : List (Option Frac)) → AreFractions ds 0 → AreFractions (ds ++ None ∷ []) 0
fractions_more ds h i le = fractions_append ds i (λ l. h l (omega arith))

pub scale-here : (ds : List (Option Frac)) (i : ℕ) (o : Option Frac) → i < length ds → scale_at (set ds i o) i ≡ o
scale-here ds i o lt = scale-set ds i o i lt ∙ rw (eq-eqb i i refl) refl

pub scale-elsewhere : (ds : List (Option Frac)) (i : ℕ) (o : Option Frac) (l : ℕ) → i < length ds → l ≢ i → scale_at (set ds i o) l ≡ scale_at ds l
scale-elsewhere ds i o l lt ne = scale-set ds i o l lt ∙ rw (ne_eqb l i ne) refl

pub den_of-positive : (o : Option Frac) (row : ℕ → ℚ) → IsScaled o row → Positive (den_of o)
den_of-positive None row h = one_positive
den_of-positive (Some d) row h = h.0.positive

pub den_of-nonzero : (o : Option Frac) (row : ℕ → ℚ) → IsScaled o row → is_zero (den_of o) ≡ false
den_of-nonzero o row h = zero_test (den_of o) (Positive_nonzero (den_of o) (den_of-positive o row h))

scaled_same : (o : Option Frac) (row other : ℕ → ℚ) → ((k : ℕ) → other k ≡ row k) → IsScaled o row → IsScaled o other
scaled_same None row other e h = tt
scaled_same (Some d) row other e h = (h.0, λ k. subst (IsWhole 41) (sym (e k)) (h.1 k))

-- ---- entries

module _ (xs : List Node) (ds : List (Option Frac)) (h : ℕ) (scaled : AreScaled xs ds h) where
  pub scaled-zero : (i k : ℕ) → is_zero (scaled_at xs ds i k) ≡ is_zero (entry_at xs i k)
  unfolding scaled_at
  scaled-zero i k = is_zero-/ℚ (entry_at xs i k) (den_of (scale_at ds i)) (den_of-nonzero (scale_at ds i) (entry_at xs i) (scaled.rows i))

  pub scaled-negative : (i k : ℕ) → is_negative (scaled_at xs ds i k) ≡ is_negative (entry_at xs i k)
  unfolding scaled_at
  scaled-negative i k = is_negative-/ℚ (entry_at xs i k) (den_of (scale_at ds i)) (den_of-positive (scale_at ds i) (entry_at xs i) (scaled.rows i))

  -- a row of whole numbers
  module _ (i : ℕ) (d : Frac) (e : scale_at ds i ≡ Some d) where
    pub row_scaled : IsDen (value d) × ((k : ℕ) → IsWhole 41 (entry_at xs i k))
    row_scaled = subst (λ o. IsScaled o (entry_at xs i)) e (scaled.rows i)

    pub row_within : (k : ℕ) → IsWithin 41 (scaled_at xs ds i k)
    unfolding scaled_at
    row_within k = subst (λ (o : Option Frac). IsWithin 41 (entry_at xs i k /ℚ den_of o)) (sym e) (over_within (entry_at xs i k) (value d) (row_scaled.1 k) row_scaled.0)

  -- all rows but n are as they were, and row n is written anew
  pub scaled-set : (ys : List Node) (n : ℕ) (o : Option Frac) → n < length ds → ((a b : ℕ) → a ≢ n → entry_at ys a b ≡ entry_at xs a b) → IsScaled o (entry_at ys n) → AreScaled ys (set ds n o) h
  scaled-set ys n o lt keeps new = record {
    long = length-set ds n o ∙ scaled.long;
    rows = λ i. elim (cases_Bool (i == n)) [
      | inl q ↦ (let same : i ≡ n = eqb-true i n q in subst (λ a. IsScaled (scale_at (set ds n o) a) (entry_at ys a)) (sym same) (subst (λ p. IsScaled p (entry_at ys n)) (sym (scale-here ds n o lt)) new))
      | inr q ↦ (let ne : i ≢ n = eqb-false i n q in subst (λ p. IsScaled p (entry_at ys i)) (sym (scale-elsewhere ds n o i lt ne)) (scaled_same (scale_at ds i) (entry_at xs i) (entry_at ys i) (λ k. keeps i k ne) (scaled.rows i)))
    ];
  }

  pub scaled-same : (ys : List Node) (g : ℕ) → g ≡ h → ((a b : ℕ) → entry_at ys a b ≡ entry_at xs a b) → AreScaled ys ds g
  scaled-same ys g e keeps = record { long = scaled.long ∙ sym e; rows = λ i. scaled_same (scale_at ds i) (entry_at xs i) (entry_at ys i) (keeps i) (scaled.rows i) }

  -- a row of fractions may be written at will
  pub scaled-free : (ys : List Node) (g n : ℕ) → g ≡ h → scale_at ds n ≡ None → ((a b : ℕ) → a ≢ n → entry_at ys a b ≡ entry_at xs a b) → AreScaled ys ds g
  scaled-free ys g n e none keeps = record {
    long = scaled.long ∙ sym e;
    rows = λ i. elim (cases_Bool (i == n)) [
      | inl q ↦ (let same : i ≡ n = eqb-true i n q in subst (λ a. IsScaled (scale_at ds a) (entry_at ys a)) (sym same) (subst (λ p. IsScaled p (entry_at ys n)) (sym none) tt))
      | inr q ↦ (let ne : i ≢ n = eqb-false i n q in scaled_same (scale_at ds i) (entry_at xs i) (entry_at ys i) (λ k. keeps i k ne) (scaled.rows i))
    ];
  }

pub taller : (xs : List Node) (ds : List (Option Frac)) (h g : ℕ) → g ≡ h → AreScaled xs ds h → AreScaled xs ds g
taller xs ds h g e s = record { long = s.long ∙ sym e; rows = s.rows }

-- a row of fractions holds what the arena has
pub scaled-none : (xs : List Node) (ds : List (Option Frac)) (i k : ℕ) → scale_at ds i ≡ None → scaled_at xs ds i k ≡ entry_at xs i k
unfolding scaled_at
scaled-none xs ds i k e = ap (λ (o : Option Frac). entry_at xs i k /ℚ den_of o) e ∙ by_one (entry_at xs i k)

pub scaled-some : (xs : List Node) (ds : List (Option Frac)) (i k : ℕ) (d : Frac) → scale_at ds i ≡ Some d → scaled_at xs ds i k ≡ entry_at xs i k /ℚ value d
unfolding scaled_at
scaled-some xs ds i k d e = ap (λ (o : Option Frac). entry_at xs i k /ℚ den_of o) e

pub scaled-kept : (xs ys : List Node) (ds cs : List (Option Frac)) (i k : ℕ) → scale_at cs i ≡ scale_at ds i → entry_at ys i k ≡ entry_at xs i k → scaled_at ys cs i k ≡ scaled_at xs ds i k
unfolding scaled_at
scaled-kept xs ys ds cs i k e f = ap (λ o. entry_at ys i k /ℚ den_of o) e ∙ ap (λ x. x /ℚ den_of (scale_at ds i)) f

-- ---- rows that are divided

-- behind the last column all is 0
pub beyond : (w : Web) (i k : ℕ) → length w.col_heads.items ≤ k → entry_at w.nodes.items i k ≡ of_ℤ (pos 0)
beyond w i k le = entry-vacant w.nodes.items i k (λ c lc e q. (let l = (w.woven.within c lc).1 in omega arith))

pub divided-all : (v w : Web) (i : ℕ) (by : ℚ) → length w.col_heads.items ≡ length v.col_heads.items → AreDivided v.nodes.items w.nodes.items i by (length v.col_heads.items) → (k : ℕ) → entry_at w.nodes.items i k ≡ entry_at v.nodes.items i k /ℚ by
divided-all v w i by e h k = elim (cases_Bool (nat_lt k (length v.col_heads.items))) [
  | inl q ↦ h k (ltb-true k (length v.col_heads.items) q)
  | inr q ↦
      (let le : length v.col_heads.items ≤ k = ltb-false k (length v.col_heads.items) q in
      beyond w i k (omega arith) ∙ sym (zero_by (entry_at v.nodes.items i k) by (ap is_zero (beyond v i k le) ∙ is_zero-zero)))
]

pub divisions_true : (xs : List Node) (i : ℕ) (by : ℚ) (n : ℕ) → ((k : ℕ) → quotient_fits (entry_at xs i k) by ≡ true) → divisions_fit xs i by n ≡ true
unfolding divisions_fit
divisions_true xs i by n h = all_below-on (λ k. quotient_fits (entry_at xs i k) by) 0 n (omega arith) refl (λ k l u. h k)
