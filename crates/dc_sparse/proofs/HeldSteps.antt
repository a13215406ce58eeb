-- Rows that are reduced one after another, down the pivot's column.
use Rattle.std.proofs.Common.{◌≡◌, ◌≢◌, ℕ, suc, ◌+◌, ◌<◌, ◌≤◌, Bool, true, false, not, ◌&&◌, ◌||◌, ◌==◌, nat_lt, List, Option, Some, None, refl, sym, ◌∙◌, ap, arith, add-one, inl, inr, eq-eqb, length}
use Rattle.std.proofs.lemmas.Bool.{cases_Bool, ne_eqb, eqb-true, eqb-false, ltb-true, ltb-false}
use Rattle.dc_math.specs.Rational.{ℚ}
use Rattle.dc_math.specs.Tests.{is_zero}
use Rattle.dc_lp.specs.Fill.{count_below, count_cells}
use Rattle.dc_lp.proofs.Belows.{all_below-fails, all_below-same, or_true}
use Rattle.dc_sparse.specs.declared.web.Node.{Node}
use Rattle.dc_sparse.specs.Lines.{AreApart, AreLinked, IsFrom, IsFirst}
use Rattle.dc_sparse.specs.Nodes.{row_at, down_at, by_rows, by_columns}
use Rattle.dc_sparse.specs.Entries.{entry_at, StandsAt}
use Rattle.dc_sparse.specs.Rows.{steps_fit, stepped_at, row_fits, rows_fit, reduced_at, RowsAreReduced, gaps_in_row, gaps_in_rows}
use Rattle.dc_sparse.proofs.Links.{next_first}
use Rattle.dc_sparse.proofs.Entries.{entry-node, item-live}
use Rattle.dc_sparse.proofs.ColumnSteps.{gap_above}
use Rattle.dc_lp.proofs.Counts.{all_below-on, count_below-same, count_cells-on}

-- ---- a walk down a column, over a row that changes

module _ (xs ys : List Node) (i : ℕ) (stays : (n a b : ℕ) → a ≢ i → StandsAt xs n a b → StandsAt ys n a b) (stood : (n a b : ℕ) → a ≢ i → StandsAt ys n a b → StandsAt xs n a b) where
  from_below : (col k c : ℕ) → i < k → IsFrom (by_columns xs) col k c → StandsAt ys c (row_at xs c) col
  from_below col k c lt f = (let l = f.index in stays c (row_at xs c) col (λ e. absurd (omega arith)) (record { live = f.live; row = refl; col = f.line }))

  from_above : (col k c : ℕ) → i < k → IsFrom (by_columns ys) col k c → StandsAt xs c (row_at ys c) col
  from_above col k c lt f = (let l = f.index in stood c (row_at ys c) col (λ e. absurd (omega arith)) (record { live = f.live; row = refl; col = f.line }))

  -- from below the row on the first node of a column stays
  pub first_below : (col k : ℕ) (o : Option ℕ) → i < k → IsFirst (by_columns xs) col k o → IsFirst (by_columns ys) col k o
  first_below col k None lt f = λ c g.
      let l = g.index in
      let s = from_above col k c lt g in
      let e = s.row in
      f c (record { live = s.live; line = s.col; index = omega arith })
  first_below col k (Some b) lt f =
      let s = from_below col k b lt f.0 in
      let eb = s.row in
      let lb = f.0.index in (
        record { live = s.live; line = s.col; index = omega arith },
        λ c g.
            let t = from_above col k c lt g in
            let ec = t.row in
            let lc = g.index in
            let l = f.1 c (record { live = t.live; line = t.col; index = omega arith }) in
            omega arith,
      )

-- ---- rows 0 to n - 1 are reduced

pub record AreReducing (old new : ℕ → ℕ → ℚ) (w pivot col was now n : ℕ) : Type 0 where
  pub fit : rows_fit old w pivot col n ≡ true
  pub reduced : RowsAreReduced old new w pivot col n
  pub later : (a b : ℕ) → n ≤ a → new a b ≡ old a b
  pub pivot_row : (b : ℕ) → new pivot b ≡ old pivot b
  pub spare : was ≤ now + gaps_in_rows old w pivot col n

pub rows_start : (e : ℕ → ℕ → ℚ) (w pivot col was : ℕ) → AreReducing e e w pivot col was was 0
unfolding rows_fit
rows_start e w pivot col was = record {
  fit = refl;
  reduced = λ i lt. absurd (omega arith);
  later = λ a b le. refl;
  pivot_row = λ b. refl;
  spare = omega arith;
}

module _ (old new : ℕ → ℕ → ℚ) (w pivot col was now n : ℕ) (h : AreReducing old new w pivot col was now n) where
  stays_as : (i k : ℕ) → (i == pivot || is_zero (old i col)) ≡ true → reduced_at old pivot col i k ≡ old i k
  stays_as i k e = rw e refl

  -- rows that stay are passed
  pub rows_skip : (m : ℕ) → n ≤ m → ((i : ℕ) → n ≤ i → i < m → (i == pivot || is_zero (old i col)) ≡ true) → AreReducing old new w pivot col was now m
  unfolding rows_fit
  rows_skip m le gap = record {
    fit = all_below-on (row_fits old w pivot col) n m le h.fit (λ i l u. rw (gap i l u) refl);
    reduced = λ i lt k lk. elim (cases_Bool (nat_lt i n)) [
      | inl e ↦ h.reduced i (ltb-true i n e) k lk
      | inr e ↦ (let up : n ≤ i = ltb-false i n e in h.later i k up ∙ sym (stays_as i k (gap i up lt)))
    ];
    later = λ a b l. h.later a b (omega arith);
    pivot_row = h.pivot_row;
    spare = (let s = h.spare in let c = count_cells-on w (λ i k. is_zero (old i k) && not (is_zero (old i col)) && not (is_zero (old pivot k))) n m le in omega arith);
  }

  -- the gaps of row n are what they were
  same_gaps : gaps_in_row new n pivot w ≡ gaps_in_row old n pivot w
  same_gaps = count_below-same _ _ w (λ k lk. rw (h.later n k (omega arith), h.pivot_row k) refl)

  same_fit : steps_fit new w pivot col n ≡ steps_fit old w pivot col n
  same_fit = all_below-same w _ _ (λ k lk. rw (h.later n col (omega arith), h.later n k (omega arith), h.pivot_row k) refl)

  module _ (other : n ≢ pivot) (entry : is_zero (old n col) ≡ false) where
    gaps_here : count_below w (λ k. is_zero (old n k) && not (is_zero (old n col)) && not (is_zero (old pivot k))) ≡ gaps_in_row old n pivot w
    gaps_here = count_below-same _ _ w (λ k lk. rw entry (by (is_zero (old n k)) (not (is_zero (old pivot k)))))
      where
        by : (a b : Bool) → a && true && b ≡ a && b
        by true b = refl
        by false b = refl

    -- the free nodes suffice for row n
    pub rows_room : (height : ℕ) → n < height → gaps_in_rows old w pivot col height ≤ was → gaps_in_row new n pivot w ≤ now
    rows_room height lt room =
        let s = h.spare in
        let c : count_cells (suc n) w (λ i k. is_zero (old i k) && not (is_zero (old i col)) && not (is_zero (old pivot k))) ≤ count_cells height w (λ i k. is_zero (old i k) && not (is_zero (old i col)) && not (is_zero (old pivot k))) = count_cells-on w _ (suc n) height (omega arith) in
        let g = gaps_here in
        let q = same_gaps in
        omega arith

    not_stays : (n == pivot || is_zero (old n col)) ≡ false
    not_stays = rw (ne_eqb n pivot other, entry) refl

    -- row n is reduced
    pub rows_more : (newer : ℕ → ℕ → ℚ) (then : ℕ) → steps_fit new w pivot col n ≡ true → ((k : ℕ) → k < w → newer n k ≡ stepped_at new pivot col n k)
        → ((a b : ℕ) → a ≢ n → newer a b ≡ new a b) → now ≤ then + gaps_in_row new n pivot w → AreReducing old newer w pivot col was then (n + 1)
    unfolding rows_fit
    rows_more newer then f r k s = record {
      fit = rw (add-one, h.fit, ne_eqb n pivot other, entry, ← same_fit, f) refl;
      reduced = λ i lt b lb. elim (cases_Bool (i == n)) [
        | inl q ↦
            (let same : i ≡ n = eqb-true i n q in
            let here : newer n b ≡ reduced_at old pivot col n b = r b lb ∙ rw (h.later n col (omega arith), h.later n b (omega arith), h.pivot_row b, not_stays) refl in
            ap (λ x. newer x b) same ∙ here ∙ ap (λ x. reduced_at old pivot col x b) (sym same))
        | inr q ↦ (let ne : i ≢ n = eqb-false i n q in k i b ne ∙ h.reduced i (omega arith) b lb)
      ];
      later = λ a b l. k a b (λ e. absurd (omega arith)) ∙ h.later a b (omega arith);
      pivot_row = λ b. k pivot b (λ e. other (sym e)) ∙ h.pivot_row b;
      spare = (let t = h.spare in let g = gaps_here in let q = same_gaps in rw add-one (omega arith));
    }

    pub rows_fails : (height : ℕ) → n < height → steps_fit new w pivot col n ≡ false → rows_fit old w pivot col height ≡ false
    unfolding rows_fit
    rows_fails height lt f = all_below-fails (row_fits old w pivot col) n height (rw (ne_eqb n pivot other, entry, ← same_fit, f) refl) lt

-- what the loop down the column keeps, xs being the nodes that hold the new entries
pub record AreDown (old new : ℕ → ℕ → ℚ) (xs : List Node) (w pivot col was now done : ℕ) (to : Option ℕ) : Type 0 where
  pub rows : AreReducing old new w pivot col was now done
  pub next : IsFirst (by_columns xs) col done to

module _ (old new : ℕ → ℕ → ℚ) (xs : List Node) (same : (i k : ℕ) → is_zero (new i k) ≡ is_zero (entry_at xs i k)) (w pivot col was now done node : ℕ) (h : AreDown old new xs w pivot col was now done (Some node)) where
  pub down_at_row : AreReducing old new w pivot col was now (row_at xs node)
  down_at_row = rows_skip old new w pivot col was now done h.rows (row_at xs node) h.next.0.index
      (λ i le lt. rw (ap is_zero (sym (h.rows.later i col le)) ∙ same i col ∙ gap_above xs col done (Some node) h.next i le (λ m e. (let q : row_at xs node ≡ row_at xs m = cc in omega arith))) (or_true (i == pivot)))

  module _ (one : AreApart (by_rows xs)) (inside : node < length xs) where
    down_stands : StandsAt xs node (row_at xs node) col
    down_stands = record { live = h.next.0.live; row = refl; col = h.next.0.line }

    pub down_nonzero : is_zero (old (row_at xs node) col) ≡ false
    down_nonzero =
        ap is_zero (sym (down_at_row.later (row_at xs node) col (omega arith))) ∙ same (row_at xs node) col
        ∙ ap is_zero (entry-node xs node (row_at xs node) col inside one down_stands) ∙ item-live xs node h.next.0.live

  -- the walk goes on below the node's row
  down_next : (lines : ℕ) (head : ℕ → Option ℕ) → AreLinked (by_columns xs) lines head → IsFirst (by_columns xs) col (row_at xs node + 1) (down_at xs node)
  down_next lines head linked = next_first (by_columns xs) lines head col node linked (h.next.0.live, h.next.0.line)

  pub down_pivot : (lines : ℕ) (head : ℕ → Option ℕ) → AreLinked (by_columns xs) lines head → row_at xs node ≡ pivot → AreDown old new xs w pivot col was now (row_at xs node + 1) (down_at xs node)
  down_pivot lines head linked e = record {
    rows = rows_skip old new w pivot col was now (row_at xs node) down_at_row (row_at xs node + 1) (omega arith)
        (λ i le lt. (let here : i ≡ row_at xs node = omega arith in rw (eq-eqb i pivot (here ∙ e)) refl));
    next = down_next lines head linked;
  }

  module _ (other : row_at xs node ≢ pivot) (one : AreApart (by_rows xs)) (inside : node < length xs) where
    pub down_room : (height : ℕ) → row_at xs node < height → gaps_in_rows old w pivot col height ≤ was → gaps_in_row new (row_at xs node) pivot w ≤ now
    down_room height lt room = rows_room old new w pivot col was now (row_at xs node) down_at_row other (down_nonzero one inside) height lt room

    pub down_fails : (height : ℕ) → row_at xs node < height → steps_fit new w pivot col (row_at xs node) ≡ false → rows_fit old w pivot col height ≡ false
    down_fails height lt f = rows_fails old new w pivot col was now (row_at xs node) down_at_row other (down_nonzero one inside) height lt f

    pub down_more : (newer : ℕ → ℕ → ℚ) (ys : List Node) (then : ℕ) (lines : ℕ) (head : ℕ → Option ℕ) → AreLinked (by_columns xs) lines head
        → steps_fit new w pivot col (row_at xs node) ≡ true → ((k : ℕ) → k < w → newer (row_at xs node) k ≡ stepped_at new pivot col (row_at xs node) k)
        → ((a b : ℕ) → a ≢ row_at xs node → newer a b ≡ new a b)
        → ((n a b : ℕ) → a ≢ row_at xs node → StandsAt xs n a b → StandsAt ys n a b) → ((n a b : ℕ) → a ≢ row_at xs node → StandsAt ys n a b → StandsAt xs n a b)
        → now ≤ then + gaps_in_row new (row_at xs node) pivot w
        → AreDown old newer ys w pivot col was then (row_at xs node + 1) (down_at xs node)
    down_more newer ys then lines head linked f r k stays stood s = record {
      rows = rows_more old new w pivot col was now (row_at xs node) down_at_row other (down_nonzero one inside) newer then f r k s;
      next = first_below xs ys (row_at xs node) stays stood col (row_at xs node + 1) (down_at xs node) (omega arith) (down_next lines head linked);
    }

pub down_end : (old new : ℕ → ℕ → ℚ) (xs : List Node) → ((i k : ℕ) → is_zero (new i k) ≡ is_zero (entry_at xs i k)) → (w pivot col was now done height : ℕ) → AreDown old new xs w pivot col was now done None → done ≤ height → AreReducing old new w pivot col was now height
down_end old new xs same w pivot col was now done height h le = rows_skip old new w pivot col was now done h.rows height le
    (λ i l lt. rw (ap is_zero (sym (h.rows.later i col l)) ∙ same i col ∙ gap_above xs col done None h.next i l (λ m e. absurd (let r : ⊥ = cc in r))) (or_true (i == pivot)))
