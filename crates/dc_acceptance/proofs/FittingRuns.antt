-- Runs whose pivots fit: what holds of 0, of each number that fits and of a run's first table holds of all its tables.
use Rattle.std.specs.Prelude.{◌≡◌, ◌⊎◌, ℕ, zero, suc, ◌+◌, ◌<◌, ◌≤◌, ◌==◌, Bool, true, false, ◌&&◌, ◌||◌, if◌then◌else◌, List, [], ◌∷◌, ℤ, pos, slice_index_or, slice_set, Option, Some, None}
use Rattle.std.specs.Option.{option_and_then}
use Rattle.std.proofs.Common.{refl, sym, ◌∙◌, ap, subst, arith, inl, inr}
use Rattle.std.proofs.lemmas.Bool.{cases_lt, and_parts, eqb-true}
use Rattle.std.proofs.lemmas.List.FromFn.{length-map-range_with_len, get_or-map-range_with_len}
use Rattle.std.proofs.lemmas.Option.{same_Some}
use Rattle.dc_math.specs.Rational.{ℚ, of_ℤ, ◌+ℚ◌, ◌*ℚ◌, neg_ℚ, *ℚ_comm, zero-*ℚ}
use Rattle.dc_math.specs.RationalRing.{ring, reads, read_nat, same_form}
use Rattle.dc_math.specs.RationalField.{rationals}
use Rattle.dc_math.specs.Tests.{eq_ℚ, eq_ℚ-true, eq_ℚ_true, is_zero}
use Rattle.dc_math.specs.Inverse.{inverse, *ℚ-inverse}
use Rattle.dc_frac.specs.Fits.{fits, product_fits, quotient_fits, difference_fits}
use Rattle.dc_frac.proofs.FitLaws.{sum-fits}
use Rattle.dc_lp.specs.Linear.{Linear}
use Rattle.dc_lp.specs.Tables as tables
use Rattle.dc_lp.specs.Tables.{Table, made}
use Rattle.dc_lp.specs.Meanings.{all_below, at, width, height, divided, pivoted, division_fits, reduction_fits, pivot_fits}
use Rattle.dc_pivots.specs.Runs.{State, run, after, due_at}
use Rattle.dc_pivots.specs.declared.Due.{Due}
use Rattle.dc_pivots.specs.declared.Due.TheVariants.{Pivot, End}
use Rattle.dc_simplex.specs.Limits.{AllFit, test_fits, change_fits, due_in}
use Rattle.dc_points.specs.Stated.{rational}
use Rattle.dc_families.proofs.Lists.{differ, past_none}

-- ---- lists
pub each_made : {A : Type 0} (P : A → Type 0) (n : ℕ) (f : ℕ → A) (k : ℕ) (d : A) → P d → ((i : ℕ) → i < n → P (f i)) → P (slice_index_or (made n f) k d)
each_made P n f k d p h = by (cases_lt k n)
  where
    by : (k < n) ⊎ (n ≤ k) → P (slice_index_or (made n f) k d)
    by (inl l) = subst P (sym (get_or-map-range_with_len f 0 n k k d l (omega arith))) (h k l)
    by (inr l) = subst P (sym (past_none (made n f) k d (let e = length-map-range_with_len f 0 n in omega arith))) p

pub below_at : (n : ℕ) (test : ℕ → Bool) (k : ℕ) → all_below n test ≡ true → k < n → test k ≡ true
below_at zero test k e l = absurd (omega arith)
below_at (suc n) test k e l = by (cases_lt k n) (λ g. below_at n test k (and_parts (all_below n test) (test n) e).0 g)
  where
    by : (k < n) ⊎ (n ≤ k) → (k < n → test k ≡ true) → test k ≡ true
    by (inl g) r = r g
    by (inr g) r = ap test (let q : k ≡ n = omega arith in q) ∙ (and_parts (all_below n test) (test n) e).1

-- ---- tables
abbrev pub AreAll : (ℚ → Type 0) → Table ℚ → Type 0
AreAll P t = (i k : ℕ) → P (at t i k)

module _ (P : ℚ → Type 0) (zero_has : P (of_ℤ (pos 0))) (fitting : (x : ℚ) → fits x ≡ true → P x) where
  abbrev EachHas : List ℚ → Type 0
  EachHas xs = (k : ℕ) → P (slice_index_or xs k (of_ℤ (pos 0)))

  nothing_has : EachHas []
  nothing_has zero = zero_has
  nothing_has (suc k) = zero_has

  -- a table made by its entries
  pub made_have : (real h w : ℕ) (basis : List ℕ) (f : ℕ → ℕ → ℚ) → ((i k : ℕ) → i < h → k < w → P (f i k))
      → AreAll P (record { real = real; rows = made h (λ i. made w (f i)); basis = basis })
  made_have real h w basis f g i k =
      each_made EachHas h (λ i. made w (f i)) i [] nothing_has
      (λ i l k. each_made P w (f i) k (of_ℤ (pos 0)) zero_has (λ k m. g i k l m)) k

  -- ---- a pivot
  module _ (t : Table ℚ) (r j : ℕ) (h : AreAll P t) (f : pivot_fits t r j ≡ true) where
    both : (division_fits t r j ≡ true) × (all_below (height t) (λ i. i == r || reduction_fits t r j i) ≡ true)
    unfolding pivot_fits
    both = and_parts (division_fits t r j) (all_below (height t) (λ i. i == r || reduction_fits t r j i)) f

    divided_has : (k : ℕ) → k < width t → P (divided t r j k)
    unfolding division_fits
    divided_has k l = fitting (divided t r j k) (below_at (width t) (λ k. quotient_fits (at t r k) (at t r j)) k both.0 l)

    no_zero : (x y : ℚ) → P x → y ≡ of_ℤ (pos 0) → P (x +ℚ neg_ℚ y)
    no_zero x y k e = subst P (sym (ap (λ z. x +ℚ neg_ℚ z) e ∙ minus_none x)) k
      where
        minus_none : (x : ℚ) → x +ℚ neg_ℚ (of_ℤ (pos 0)) ≡ x
        minus_none x = ring (x ∷ []) (λ ρ i. simp (i, read_nat ρ, reads) (same_form _ _ _ refl))

    -- the factor is 0 where the pivot's entry is, and else 1
    own_has : (i : ℕ) → P (at t i j +ℚ neg_ℚ (at t i j *ℚ divided t r j j))
    own_has i = by (eq_ℚ (at t r j) (of_ℤ (pos 0))) refl
      where
        by : (b : Bool) → eq_ℚ (at t r j) (of_ℤ (pos 0)) ≡ b → P (at t i j +ℚ neg_ℚ (at t i j *ℚ divided t r j j))
        by true e =
            no_zero (at t i j) (at t i j *ℚ divided t r j j) (h i j)
            (ap (λ z. at t i j *ℚ (z *ℚ inverse (at t r j))) (eq_ℚ_true (at t r j) (of_ℤ (pos 0)) e)
            ∙ ap (λ z. at t i j *ℚ z) (zero-*ℚ (inverse (at t r j))) ∙ *ℚ_comm (at t i j) (of_ℤ (pos 0)) ∙ zero-*ℚ (at t i j))
        by false e =
            subst P
            (sym (ap (λ z. at t i j +ℚ neg_ℚ (at t i j *ℚ z)) (*ℚ-inverse (at t r j) (λ q. differ (sym (eq_ℚ-true (at t r j) (of_ℤ (pos 0)) q) ∙ e))) ∙ itself (at t i j)))
            zero_has
          where
            itself : (x : ℚ) → x +ℚ neg_ℚ (x *ℚ of_ℤ (pos 1)) ≡ of_ℤ (pos 0)
            itself x = ring (x ∷ []) (λ ρ n. simp (n, read_nat ρ, reads) (same_form _ _ _ refl))

    abbrev Reduces : ℕ → ℕ → Bool
    Reduces i k = k == j || is_zero (divided t r j k) || product_fits (at t i j) (divided t r j k) && difference_fits (at t i k) (at t i j *ℚ divided t r j k)

    reduced_has : (i k : ℕ) → Reduces i k ≡ true → P (at t i k +ℚ neg_ℚ (at t i j *ℚ divided t r j k))
    reduced_has i k e = by (k == j) (is_zero (divided t r j k)) (product_fits (at t i j) (divided t r j k)) (difference_fits (at t i k) (at t i j *ℚ divided t r j k)) refl refl refl e
      where
        by : (a b c d : Bool) → (k == j) ≡ a → is_zero (divided t r j k) ≡ b → difference_fits (at t i k) (at t i j *ℚ divided t r j k) ≡ d → (a || b || c && d) ≡ true
            → P (at t i k +ℚ neg_ℚ (at t i j *ℚ divided t r j k))
        by true b c d p q s w = subst (λ l. P (at t i l +ℚ neg_ℚ (at t i j *ℚ divided t r j l))) (sym (eqb-true k j p)) (own_has i)
        by false true c d p q s w =
            no_zero (at t i k) (at t i j *ℚ divided t r j k) (h i k)
            (ap (λ x. at t i j *ℚ x) (eq_ℚ_true (divided t r j k) (of_ℤ (pos 0)) q) ∙ *ℚ_comm (at t i j) (of_ℤ (pos 0)) ∙ zero-*ℚ (at t i j))
        by false false true true p q s w = fitting (at t i k +ℚ neg_ℚ (at t i j *ℚ divided t r j k)) (sum-fits (at t i k) (neg_ℚ (at t i j *ℚ divided t r j k)) s)
        by false false true false p q s w = absurd cc
        by false false false d p q s w = absurd cc

    entry_has : (i k : ℕ) → i < height t → k < width t → P (tables.pivoted_entry ℚ rationals t r j i k)
    unfolding reduction_fits
    entry_has i k l g = by (i == r) (is_zero (at t i j)) (below_at (height t) (λ i. i == r || reduction_fits t r j i) i both.1 l)
      where
        by : (a b : Bool) → (a || (b || all_below (width t) (Reduces i))) ≡ true
            → P (if a then divided t r j k else if b then at t i k else at t i k +ℚ neg_ℚ (at t i j *ℚ divided t r j k))
        by true b e = divided_has k g
        by false true e = h i k
        by false false e = reduced_has i k (below_at (width t) (Reduces i) k e g)

    pub pivoted_have : AreAll P (pivoted t r j)
    unfolding tables.pivoted
    pivoted_have = made_have t.real (height t) (width t) (slice_set t.basis r j) (tables.pivoted_entry ℚ rationals t r j) entry_has

  -- ---- a run
  module _ (m : Linear ℤ) (started : AreAll P (tables.start ℚ rationals (rational m))) where
    after_have : (s : State ℚ) (d : Due) (u : State ℚ) → after ℚ rationals s.table d ≡ Some u → AreAll P s.table → change_fits s.table d ≡ true → AreAll P u.table
    after_have s (Pivot phase r j) u e h f = subst (λ (x : State ℚ). AreAll P x.table) (same_Some _ _ e) (pivoted_have s.table r j h f)
    after_have s (End x) u e h f = absurd cc

    pub run_have : (n : ℕ) (s : State ℚ) → run ℚ rationals (rational m) n ≡ Some s → AllFit (rational m) n → AreAll P s.table
    run_have zero s e f = subst (λ (x : State ℚ). AreAll P x.table) (same_Some _ _ e) started
    run_have (suc n) s e f = by (run ℚ rationals (rational m) n) refl e (λ u q. run_have n u q (λ i y l. f i y (omega arith)))
      where
        by : (o : Option (State ℚ)) → run ℚ rationals (rational m) n ≡ o → option_and_then (λ x. after ℚ rationals x.table (due_at ℚ rationals x)) o ≡ Some s
            → ((u : State ℚ) → run ℚ rationals (rational m) n ≡ Some u → AreAll P u.table) → AreAll P s.table
        by None q g k = absurd cc
        by (Some u) q g k =
            after_have u (due_at ℚ rationals u) s g (k u q)
            (and_parts (test_fits u.table (due_in u.phase u.table)) (change_fits u.table (due_in u.phase u.table)) (f n u (omega arith) q)).1
