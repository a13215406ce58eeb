-- A table in one list is a table.
use Rattle.std.proofs.Common.{◌≡◌, ℕ, ◌+◌, ◌*◌, ◌<◌, Bool, true, false, cond, ◌&&◌, ◌||◌, ◌==◌, List, [], ◌++◌, length, set, take, drop, Option, Some, None, refl, sym, ◌∙◌, ap, ap₂, arith}
use Rattle.std.proofs.lemmas.List.FromFn.{get_or-map-range_with_len, length-map-range_with_len, fill_by_all}
use Rattle.std.proofs.lemmas.Grind.{common_steps}
use Rattle.std.proofs.Math.Bool.{or_assoc}
use Rattle.dc_math.specs.Rational.{ℚ, ◌*ℚ◌, ◌-ℚ◌}
use Rattle.dc_math.specs.Inverse.{◌/ℚ◌}
use Rattle.dc_math.specs.RationalField.{rationals}
use Rattle.dc_math.specs.Tests as tests
use Rattle.dc_frac.specs.declared.Frac.{Frac}
use Rattle.dc_frac.specs.Fits.{quotient_fits, product_fits, difference_fits}
use Rattle.dc_lp.specs.Tables as tables
use Rattle.dc_lp.specs.Tables.{Table, made, first_index}
use Rattle.dc_lp.specs.Folds.{checked}
use Rattle.dc_lp.specs.Meanings.{Meaning, resting, at, entering, all_below, pivoted, pivot_fits, division_fits, reduction_fits, divided}
use Rattle.dc_start.specs.Changes.{step_fits}
use Rattle.dc_dense.specs.Flat.{item, flat, items_fit, pivoted_item, ArePivoted}
use Rattle.dc_lp.proofs.Belows.{all_below-same}
use Rattle.dc_lp.proofs.Firsts.{first_some-none, first_some-found}
use Rattle.dc_dense.proofs.Flats.{flat-at}

pub made-same : {A : Type 0} (n : ℕ) (f g : ℕ → A) → ((i : ℕ) → i < n → f i ≡ g i) → made n f ≡ made n g
made-same n f g h = sym (fill_by_all f (made n f) n (f 0) (length-map-range_with_len f 0 n) (λ k l. get_or-map-range_with_len f 0 n k k (f 0) l (omega arith))) ∙ fill_by_all g (made n f) n (f 0) (length-map-range_with_len f 0 n) (λ k l. get_or-map-range_with_len f 0 n k k (f 0) l (omega arith) ∙ h k l)

module _ (real h w : ℕ) (basis : List ℕ) (xs : List Frac) (tall : h ≡ length basis + 2) (wide : w ≡ real + length basis + 1) where
  abbrev table : Table ℚ
  table = record { real = real; rows = flat h w xs; basis = basis }

  pub table-at : (i k : ℕ) → i < h → k < w → at table i k ≡ item xs (i * w + k)
  table-at i k li lk = flat-at h w xs i k li lk

  module _ (r j : ℕ) (lr : r < h) (lj : j < w) where
    divided-at : (k : ℕ) → k < w → divided table r j k ≡ item xs (r * w + k) /ℚ item xs (r * w + j)
    divided-at k lk = ap₂ ◌/ℚ◌ (table-at r k lr lk) (table-at r j lr lj)

    pub zero-at : (i k : ℕ) → i < h → k < w → tests.is_zero (at table i k) ≡ tests.is_zero (item xs (i * w + k))
    zero-at i k li lk = ap tests.is_zero (table-at i k li lk)

    pub pivoted_item-at : (i k : ℕ) → i < h → k < w → pivoted_item xs w r j i k ≡ tables.pivoted_entry ℚ rationals table r j i k
    pivoted_item-at i k li lk = sym (
        ap (λ b. cond (i == r) (divided table r j k) (cond b (at table i k) (at table i k -ℚ at table i j *ℚ divided table r j k))) (zero-at i j li lj)
        ∙ ap (λ x. cond (i == r) x (cond (tests.is_zero (item xs (i * w + j))) (at table i k) (at table i k -ℚ at table i j *ℚ x))) (divided-at k lk)
        ∙ ap (λ x. cond (i == r) (item xs (r * w + k) /ℚ item xs (r * w + j)) (cond (tests.is_zero (item xs (i * w + j))) (at table i k) (at table i k -ℚ x *ℚ (item xs (r * w + k) /ℚ item xs (r * w + j))))) (table-at i j li lj)
        ∙ ap (λ x. cond (i == r) (item xs (r * w + k) /ℚ item xs (r * w + j)) (cond (tests.is_zero (item xs (i * w + j))) x (x -ℚ item xs (i * w + j) *ℚ (item xs (r * w + k) /ℚ item xs (r * w + j))))) (table-at i k li lk))

    pub pivoted-flat : (ys : List Frac) → ArePivoted xs ys w h r j → flat h w ys ≡ (pivoted table r j).rows
    unfolding flat tables.pivoted
    pivoted-flat ys p =
        made-same h (λ i. made w (λ k. item ys (i * w + k))) (λ i. made w (λ k. tables.pivoted_entry ℚ rationals table r j i k)) (λ i li. made-same w (λ k. item ys (i * w + k)) (λ k. tables.pivoted_entry ℚ rationals table r j i k) (λ k lk. p.each i k li lk ∙ pivoted_item-at i k li lk))
        ∙ ap (λ x. made x (λ i. made w (λ k. tables.pivoted_entry ℚ rationals table r j i k))) tall
        ∙ ap (λ x. made (length basis + 2) (λ i. made x (λ k. tables.pivoted_entry ℚ rationals table r j i k))) wide

    -- ---- what must fit

    division-flat : division_fits table r j ≡ all_below w (λ k. quotient_fits (item xs (r * w + k)) (item xs (r * w + j)))
    unfolding division_fits
    division-flat =
        ap (λ x. all_below x (λ k. quotient_fits (at table r k) (at table r j))) (sym wide)
        ∙ all_below-same w _ _ (λ k lk. ap₂ quotient_fits (table-at r k lr lk) (table-at r j lr lj))

    -- one column of another row
    abbrev cell_fits : ℚ → ℚ → ℚ → ℕ → Bool
    cell_fits factor x y k = k == j || step_fits factor x y

    step-flat : (i k : ℕ) → i < h → k < w → (k == j || tests.is_zero (divided table r j k) || product_fits (at table i j) (divided table r j k) && difference_fits (at table i k) (at table i j *ℚ divided table r j k))
        ≡ cell_fits (item xs (i * w + j)) (item xs (r * w + k) /ℚ item xs (r * w + j)) (item xs (i * w + k)) k
    step-flat i k li lk =
        sym (sym (or_assoc (k == j) (tests.is_zero (divided table r j k)) (product_fits (at table i j) (divided table r j k) && difference_fits (at table i k) (at table i j *ℚ divided table r j k))))
        ∙ ap (λ x. cell_fits (at table i j) x (at table i k) k) (divided-at k lk)
        ∙ ap (λ x. cell_fits x (item xs (r * w + k) /ℚ item xs (r * w + j)) (at table i k) k) (table-at i j li lj)
        ∙ ap (λ x. cell_fits (item xs (i * w + j)) (item xs (r * w + k) /ℚ item xs (r * w + j)) x k) (table-at i k li lk)

    row-flat : (i : ℕ) → i < h → (i == r || reduction_fits table r j i) ≡ (i == r || tests.is_zero (item xs (i * w + j)) || all_below w (λ k. k == j || step_fits (item xs (i * w + j)) (item xs (r * w + k) /ℚ item xs (r * w + j)) (item xs (i * w + k))))
    unfolding reduction_fits
    row-flat i li =
        sym (or_assoc (i == r) (tests.is_zero (at table i j)) _)
        ∙ ap (λ b. i == r || b || all_below (real + length basis + 1) (λ k. k == j || tests.is_zero (divided table r j k) || product_fits (at table i j) (divided table r j k) && difference_fits (at table i k) (at table i j *ℚ divided table r j k))) (zero-at i j li lj)
        ∙ ap (λ x. i == r || tests.is_zero (item xs (i * w + j)) || all_below x (λ k. k == j || tests.is_zero (divided table r j k) || product_fits (at table i j) (divided table r j k) && difference_fits (at table i k) (at table i j *ℚ divided table r j k))) (sym wide)
        ∙ ap (λ b. i == r || tests.is_zero (item xs (i * w + j)) || b) (all_below-same w _ _ (λ k lk. step-flat i k li lk))

    pub pivot_fits-flat : pivot_fits table r j ≡ items_fit xs w h r j
    unfolding pivot_fits items_fit
    pivot_fits-flat = ap₂ ◌&&◌ division-flat (
        ap (λ x. all_below x (λ i. i == r || reduction_fits table r j i)) (sym tall)
        ∙ all_below-same h _ _ (λ i li. row-flat i li))

pub pivoted-meaning : (loaded broken : Bool) (real h w : ℕ) (basis : List ℕ) (xs zs : List Frac) (r j : ℕ) → loaded ≡ true → broken ≡ false
    → flat h w zs ≡ (pivoted (record { real = real; rows = flat h w xs; basis = basis }) r j).rows
    → ◌≡◌ {A = Meaning} (record { loaded = loaded; broken = broken; ready = None; table = record { real = real; rows = flat h w zs; basis = set basis r j } })
    (resting (pivoted (record { real = real; rows = flat h w xs; basis = basis }) r j))
unfolding tables.pivoted
pivoted-meaning loaded broken real h w basis xs zs r j e f g =
    let M : Bool → Bool → List (List ℚ) → Meaning = λ a b rs. record { loaded = a; broken = b; ready = None; table = record { real = real; rows = rs; basis = set basis r j } } in
    ap (λ a. M a broken (flat h w zs)) e ∙ ap (λ b. M true b (flat h w zs)) f ∙ ap (M true false) g

pub refilled : (n : ℕ) (ws old : List Frac) → length ws ≡ n → length old ≡ n → take n (ws ++ drop (length ws) old) ≡ ws
refilled n ws old e f =
    let none : drop (length ws) old ≡ [] = grind (arith, common_steps) in
    ap (λ x. take n (ws ++ x)) none ∙ grind (arith, common_steps)

-- ---- the column that enters

unfoldable pub entering_below : Table ℚ → ℕ → ℕ → Option ℕ
entering_below t i n = first_index (λ k. tests.is_negative (at t i k)) n

pub entering_below-start : (t : Table ℚ) (i : ℕ) → entering_below t i 0 ≡ None
unfolding entering_below
entering_below-start t i = refl

pub entering_below-more : (t : Table ℚ) (i n : ℕ) → entering_below t i n ≡ None → tests.is_negative (at t i n) ≡ false → entering_below t i (n + 1) ≡ None
unfolding entering_below
entering_below-more t i n e h = first_some-none (λ k. checked (tests.is_negative (at t i k)) k) n e (rw (h) refl)

pub entering-found : (t : Table ℚ) (i j : ℕ) → entering_below t i j ≡ None → tests.is_negative (at t i j) ≡ true → j < t.real → entering t i ≡ Some j
unfolding entering_below tables.entering
entering-found t i j e h lt = first_some-found (λ k. checked (tests.is_negative (at t i k)) k) j t.real j e (rw (h) refl) lt

pub entering-none : (t : Table ℚ) (i n : ℕ) → entering_below t i n ≡ None → n ≡ t.real → entering t i ≡ None
unfolding entering_below tables.entering
entering-none t i n e same = rw (← same) e

pub ruleset links = (entering_below-start, entering_below-more, entering-found, entering-none)
