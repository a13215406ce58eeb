-- The table that an arena holds is a table.
use Rattle.std.proofs.Common.{◌≡◌, ℕ, ◌+◌, ◌<◌, Bool, true, false, cond, not, ◌&&◌, ◌||◌, ◌==◌, pos, List, [], length, set, Option, Some, None, slice_index_or, refl, sym, ◌∙◌, ap, ap₂, arith}
use Rattle.std.proofs.lemmas.List.FromFn.{get_or-map-range_with_len, length-map-range_with_len, fill_by_all}
use Rattle.std.proofs.Math.Bool.{or_assoc}
use Rattle.dc_math.specs.Rational.{ℚ, ◌*ℚ◌, ◌-ℚ◌, of_ℤ}
use Rattle.dc_math.specs.Inverse.{◌/ℚ◌}
use Rattle.dc_math.specs.RationalField.{rationals}
use Rattle.dc_math.specs.Tests as tests
use Rattle.dc_frac.specs.Fits.{quotient_fits, product_fits, difference_fits}
use Rattle.dc_lp.specs.Tables as tables
use Rattle.dc_lp.specs.Tables.{Table, made}
use Rattle.dc_lp.proofs.Belows.{all_below-same}
use Rattle.dc_lp.specs.Meanings.{Meaning, resting, at, entering, all_below, pivoted, pivot_fits, division_fits, reduction_fits, divided}
use Rattle.dc_sparse.specs.declared.web.Node.{Node}
use Rattle.dc_sparse.specs.Entries.{entry_at}
use Rattle.dc_start.specs.Changes.{step_fits}
use Rattle.dc_sparse.specs.Rows.{rows_gaps, gaps_in_rows, IsFirstNegative}
use Rattle.dc_lp.specs.Fill.{gaps, meets_gap, count_cells, entry_count}
use Rattle.dc_sparse.specs.Sizes.{held_count}
use Rattle.dc_sparse.specs.Pivots.{grid, entries_fit, pivoted_at, ArePivoted}
use Rattle.dc_lp.proofs.Firsts.{none-index, some-index}
use Rattle.dc_lp.proofs.Counts.{count_cells-same}

pub grid-at : (h w : ℕ) (e : ℕ → ℕ → ℚ) (i k : ℕ) → i < h → k < w → slice_index_or (slice_index_or (grid h w e) i []) k (of_ℤ (pos 0)) ≡ e i k
unfolding grid
grid-at h w e i k hi hk =
    ap (λ r. slice_index_or r k (of_ℤ (pos 0))) (get_or-map-range_with_len (λ i. made w (λ k. e i k)) 0 h i i [] hi (omega arith))
    ∙ get_or-map-range_with_len (λ k. e i k) 0 w k k (of_ℤ (pos 0)) hk (omega arith)

pub made-same : {A : Type 0} (n : ℕ) (f g : ℕ → A) → ((i : ℕ) → i < n → f i ≡ g i) → made n f ≡ made n g
made-same n f g h = sym (fill_by_all f (made n f) n (f 0) (length-map-range_with_len f 0 n) (λ k l. get_or-map-range_with_len f 0 n k k (f 0) l (omega arith))) ∙ fill_by_all g (made n f) n (f 0) (length-map-range_with_len f 0 n) (λ k l. get_or-map-range_with_len f 0 n k k (f 0) l (omega arith) ∙ h k l)

module _ (real h w : ℕ) (basis : List ℕ) (e : ℕ → ℕ → ℚ) (tall : h ≡ length basis + 2) (wide : w ≡ real + length basis + 1) where
  abbrev table : Table ℚ
  table = record { real = real; rows = grid h w e; basis = basis }

  pub table-at : (i k : ℕ) → i < h → k < w → at table i k ≡ e i k
  table-at i k li lk = grid-at h w e i k li lk

  -- as many entries as the arena holds, where those are 0 that are 0 there
  pub entries-grid : (xs : List Node) → ((i k : ℕ) → tests.is_zero (e i k) ≡ tests.is_zero (entry_at xs i k)) → entry_count table ≡ held_count xs h w
  unfolding entry_count held_count
  entries-grid xs same =
      ap (λ x. count_cells x (real + length basis + 1) (λ i k. not (tests.is_zero (at table i k)))) (sym tall)
      ∙ ap (λ x. count_cells h x (λ i k. not (tests.is_zero (at table i k)))) (sym wide)
      ∙ count_cells-same (λ i k. not (tests.is_zero (at table i k))) (λ i k. not (tests.is_zero (entry_at xs i k))) h w
      (λ i k li lk. ap not (ap tests.is_zero (table-at i k li lk) ∙ same i k))

  module _ (r j : ℕ) (lr : r < h) (lj : j < w) where
    divided-at : (k : ℕ) → k < w → divided table r j k ≡ e r k /ℚ e r j
    divided-at k lk = ap₂ ◌/ℚ◌ (table-at r k lr lk) (table-at r j lr lj)

    pub zero-at : (i k : ℕ) → i < h → k < w → tests.is_zero (at table i k) ≡ tests.is_zero (e i k)
    zero-at i k li lk = ap tests.is_zero (table-at i k li lk)

    pub pivoted_at-at : (i k : ℕ) → i < h → k < w → pivoted_at e r j i k ≡ tables.pivoted_entry ℚ rationals table r j i k
    pivoted_at-at i k li lk = sym (
        ap (λ b. cond (i == r) (divided table r j k) (cond b (at table i k) (at table i k -ℚ at table i j *ℚ divided table r j k))) (zero-at i j li lj)
        ∙ ap (λ x. cond (i == r) x (cond (tests.is_zero (e i j)) (at table i k) (at table i k -ℚ at table i j *ℚ x))) (divided-at k lk)
        ∙ ap (λ x. cond (i == r) (e r k /ℚ e r j) (cond (tests.is_zero (e i j)) (at table i k) (at table i k -ℚ x *ℚ (e r k /ℚ e r j)))) (table-at i j li lj)
        ∙ ap (λ x. cond (i == r) (e r k /ℚ e r j) (cond (tests.is_zero (e i j)) x (x -ℚ e i j *ℚ (e r k /ℚ e r j)))) (table-at i k li lk))

    pub pivoted-grid : (f : ℕ → ℕ → ℚ) → ArePivoted e f w h r j → grid h w f ≡ (pivoted table r j).rows
    unfolding grid tables.pivoted
    pivoted-grid f p =
        made-same h (λ i. made w (λ k. f i k)) (λ i. made w (λ k. tables.pivoted_entry ℚ rationals table r j i k)) (λ i li. made-same w (λ k. f i k) (λ k. tables.pivoted_entry ℚ rationals table r j i k) (λ k lk. p.each i k li lk ∙ pivoted_at-at i k li lk))
        ∙ ap (λ x. made x (λ i. made w (λ k. tables.pivoted_entry ℚ rationals table r j i k))) tall
        ∙ ap (λ x. made (length basis + 2) (λ i. made x (λ k. tables.pivoted_entry ℚ rationals table r j i k))) wide

    -- ---- what must fit

    division-grid : division_fits table r j ≡ all_below w (λ k. quotient_fits (e r k) (e r j))
    unfolding division_fits
    division-grid =
        ap (λ x. all_below x (λ k. quotient_fits (at table r k) (at table r j))) (sym wide)
        ∙ all_below-same w _ _ (λ k lk. ap₂ quotient_fits (table-at r k lr lk) (table-at r j lr lj))

    -- one column of another row
    abbrev cell_fits : ℚ → ℚ → ℚ → ℕ → Bool
    cell_fits factor x y k = k == j || step_fits factor x y

    step-grid : (i k : ℕ) → i < h → k < w → (k == j || tests.is_zero (divided table r j k) || product_fits (at table i j) (divided table r j k) && difference_fits (at table i k) (at table i j *ℚ divided table r j k))
        ≡ cell_fits (e i j) (e r k /ℚ e r j) (e i k) k
    step-grid i k li lk =
        sym (sym (or_assoc (k == j) (tests.is_zero (divided table r j k)) (product_fits (at table i j) (divided table r j k) && difference_fits (at table i k) (at table i j *ℚ divided table r j k))))
        ∙ ap (λ x. cell_fits (at table i j) x (at table i k) k) (divided-at k lk)
        ∙ ap (λ x. cell_fits x (e r k /ℚ e r j) (at table i k) k) (table-at i j li lj)
        ∙ ap (λ x. cell_fits (e i j) (e r k /ℚ e r j) x k) (table-at i k li lk)

    row-grid : (i : ℕ) → i < h → (i == r || reduction_fits table r j i) ≡ (i == r || tests.is_zero (e i j) || all_below w (λ k. k == j || step_fits (e i j) (e r k /ℚ e r j) (e i k)))
    unfolding reduction_fits
    row-grid i li =
        sym (or_assoc (i == r) (tests.is_zero (at table i j)) _)
        ∙ ap (λ b. i == r || b || all_below (real + length basis + 1) (λ k. k == j || tests.is_zero (divided table r j k) || product_fits (at table i j) (divided table r j k) && difference_fits (at table i k) (at table i j *ℚ divided table r j k))) (zero-at i j li lj)
        ∙ ap (λ x. i == r || tests.is_zero (e i j) || all_below x (λ k. k == j || tests.is_zero (divided table r j k) || product_fits (at table i j) (divided table r j k) && difference_fits (at table i k) (at table i j *ℚ divided table r j k))) (sym wide)
        ∙ ap (λ b. i == r || tests.is_zero (e i j) || b) (all_below-same w _ _ (λ k lk. step-grid i k li lk))

    pub pivot_fits-grid : pivot_fits table r j ≡ entries_fit e w h r j
    unfolding pivot_fits entries_fit
    pivot_fits-grid = ap₂ ◌&&◌ division-grid (
        ap (λ x. all_below x (λ i. i == r || reduction_fits table r j i)) (sym tall)
        ∙ all_below-same h _ _ (λ i li. row-grid i li))

    -- the fill of a pivot
    pub gaps-held : gaps table r j ≡ gaps_in_rows e w r j h
    unfolding gaps
    gaps-held =
        ap (λ x. count_cells x (real + length basis + 1) (meets_gap table r j)) (sym tall)
        ∙ ap (λ x. count_cells h x (meets_gap table r j)) (sym wide)
        ∙ count_cells-same (meets_gap table r j) _ h w (λ i k li lk. rw (zero-at i k li lk, zero-at i j li lj, zero-at r k lr lk) refl)

    -- it is what the arena has to have free
    pub gaps-grid : (xs : List Node) → ((i k : ℕ) → tests.is_zero (e i k) ≡ tests.is_zero (entry_at xs i k)) → gaps table r j ≡ rows_gaps xs w r j h
    unfolding rows_gaps
    gaps-grid xs same = gaps-held ∙ count_cells-same _ _ h w (λ i k li lk. rw (same i k, same i j, same r k) refl)

pub pivoted-meaning : (loaded broken : Bool) (real h w : ℕ) (basis : List ℕ) (e f : ℕ → ℕ → ℚ) (r j : ℕ) → loaded ≡ true → broken ≡ false
    → grid h w f ≡ (pivoted (record { real = real; rows = grid h w e; basis = basis }) r j).rows
    → ◌≡◌ {A = Meaning} (record { loaded = loaded; broken = broken; ready = None; table = record { real = real; rows = grid h w f; basis = set basis r j } })
    (resting (pivoted (record { real = real; rows = grid h w e; basis = basis }) r j))
unfolding tables.pivoted
pivoted-meaning loaded broken real h w basis e f r j l b g =
    let M : Bool → Bool → List (List ℚ) → Meaning = λ a b rs. record { loaded = a; broken = b; ready = None; table = record { real = real; rows = rs; basis = set basis r j } } in
    ap (λ a. M a broken (grid h w f)) l ∙ ap (λ x. M true x (grid h w f)) b ∙ ap (M true false) g

pub grid-same : (h w : ℕ) (e f : ℕ → ℕ → ℚ) → ((i k : ℕ) → i < h → k < w → f i k ≡ e i k) → grid h w f ≡ grid h w e
unfolding grid
grid-same h w e f same = made-same h _ _ (λ i li. made-same w _ _ (λ k lk. same i k li lk))

-- ---- the column that enters

module _ (real h w : ℕ) (basis : List ℕ) (e : ℕ → ℕ → ℚ) (tall : h ≡ length basis + 2) (wide : w ≡ real + length basis + 1) (i : ℕ) (inside : i < h)
    (xs : List Node) (same : (k : ℕ) → tests.is_negative (e i k) ≡ tests.is_negative (entry_at xs i k)) where
  abbrev whole : Table ℚ
  whole = record { real = real; rows = grid h w e; basis = basis }

  negative_at : (k : ℕ) → k < real → tests.is_negative (at whole i k) ≡ tests.is_negative (entry_at xs i k)
  negative_at k lt = ap tests.is_negative (table-at real h w basis e tall wide i k inside (omega arith)) ∙ same k

  pub entering-is : (o : Option ℕ) → IsFirstNegative xs i real o → o ≡ entering whole i
  unfolding tables.entering
  entering-is None f = sym (none-index (λ k. tests.is_negative (at whole i k)) real (λ k l. negative_at k l ∙ f k l))
  entering-is (Some k) f = sym (some-index (λ k. tests.is_negative (at whole i k)) real k f.0 (negative_at k f.0 ∙ f.1) (λ j l. negative_at j (let u = f.0 in omega arith) ∙ f.2 j l))
