-- A row that is reduced column after column.
use Rattle.std.proofs.Common.{◌≡◌, ◌≢◌, ℕ, zero, suc, ◌+◌, ◌<◌, ◌≤◌, Bool, true, false, cond, not, ◌&&◌, ◌||◌, ◌==◌, nat_lt, pos, List, Option, Some, None, refl, sym, ◌∙◌, ap, subst, arith, add-one, inl, inr, length}
use Rattle.std.proofs.lemmas.Bool.{cases_Bool, ne_eqb, eqb-true, eqb-false, ltb-true, ltb-false}
use Rattle.std.proofs.Math.Bool.{and-false}
use Rattle.dc_math.specs.Rational.{ℚ, ◌-ℚ◌, ◌*ℚ◌, of_ℤ, ≤ℚ_refl}
use Rattle.dc_math.specs.Tests.{is_zero, is_negative, eq_ℚ_true, eq_ℚ-true, lt_ℚ-false}
use Rattle.dc_frac.specs.declared.Frac.{Frac}
use Rattle.dc_frac.specs.Value.{IsChecked}
use Rattle.dc_lp.specs.Fill.{count_below}
use Rattle.dc_lp.proofs.Belows.{all_below-fails, or_true}
use Rattle.dc_start.proofs.Changes.{step-zero}
use Rattle.dc_sparse.specs.declared.web.Node.{Node}
use Rattle.dc_sparse.specs.Lines.{AreApart, AreLinked, IsFirst, IsLast, StandsBefore}
use Rattle.dc_sparse.specs.Nodes.{col_at, item, right_at, by_rows}
use Rattle.dc_sparse.specs.Webs.{IsVacant}
use Rattle.dc_sparse.specs.Entries.{entry_at, StandsAt, IsPut, takes}
use Rattle.dc_start.specs.Changes.{step_fits}
use Rattle.dc_sparse.specs.Rows.{reductions_fit, entry_after, reduced_entry, row_gaps, entries_in, KeepsRows, NoneNegative}
use Rattle.dc_sparse.proofs.Links.{next_first}
use Rattle.dc_sparse.proofs.Entries.{entry-vacant, entry-node, item-live}
use Rattle.dc_lp.proofs.Counts.{all_below-on, count_below-on, count_below-none}

-- ---- the free nodes that a row needs

gap_most : (a b : Bool) → cond (a && b) 1 0 ≤ cond (a && true) 1 0
gap_most true true = omega arith
gap_most true false = omega arith
gap_most false b = omega arith

pub gaps_skip : (xs : List Node) (i pivot was now n m : ℕ) → n ≤ m → was ≤ now + row_gaps xs i pivot n → was ≤ now + row_gaps xs i pivot m
unfolding row_gaps
gaps_skip xs i pivot was now n m le s = (let c = count_below-on (λ k. is_zero (entry_at xs i k) && not (is_zero (entry_at xs pivot k))) n m le in omega arith)

-- row i's entry in column n is still what it was, and row `pivot` has one there
module _ (xs : List Node) (i pivot was now n : ℕ) (x v : ℚ) (spare : was ≤ now + row_gaps xs i pivot n) (same : x ≡ entry_at xs i n) (nz : is_zero (entry_at xs pivot n) ≡ false) where
  taken : takes x v ≤ cond (is_zero (entry_at xs i n) && not (is_zero (entry_at xs pivot n))) 1 0
  taken = rw (same, nz) (gap_most (is_zero (entry_at xs i n)) (not (is_zero v)))

  -- the free nodes suffice for it
  pub gaps_room : (w : ℕ) → n < w → row_gaps xs i pivot w ≤ was → takes x v ≤ now
  unfolding row_gaps
  gaps_room w lt room =
      let s = spare in
      let t = taken in
      let c : count_below (suc n) (λ k. is_zero (entry_at xs i k) && not (is_zero (entry_at xs pivot k))) ≤ count_below w (λ k. is_zero (entry_at xs i k) && not (is_zero (entry_at xs pivot k))) = count_below-on _ (suc n) w (omega arith) in
      omega arith

  pub gaps_put : (then : ℕ) → now ≤ then + takes x v → was ≤ then + row_gaps xs i pivot (n + 1)
  unfolding row_gaps
  gaps_put then s = (let r = spare in let t = taken in rw add-one (omega arith))

-- ---- a row on its way: columns 0 to n - 1 are reduced

pub record IsReducing (old new : List Node) (i pivot col : ℕ) (factor : ℚ) (was now n : ℕ) : Type 0 where
  pub fit : reductions_fit old i pivot col factor n ≡ true
  pub reduced : (k : ℕ) → k < n → entry_at new i k ≡ entry_after old i pivot col factor k
  pub later : (k : ℕ) → n ≤ k → entry_at new i k ≡ entry_at old i k
  pub rows : KeepsRows old new i
  pub spare : was ≤ now + row_gaps old i pivot n

pub reducing_start : (xs : List Node) (i pivot col : ℕ) (factor : ℚ) (was : ℕ) → IsReducing xs xs i pivot col factor was was 0
unfolding reductions_fit row_gaps
reducing_start xs i pivot col factor was = record {
  fit = refl;
  reduced = λ k lt. absurd (omega arith);
  later = λ k le. refl;
  rows = record { entries = λ a b ne. refl; stays = λ n a b ne s. s; stood = λ n a b ne s. s };
  spare = omega arith;
}

module _ (old new : List Node) (i pivot col : ℕ) (factor : ℚ) (was now n : ℕ) (h : IsReducing old new i pivot col factor was now n) (pivot_entry : is_zero (entry_at old pivot col) ≡ false) where
  not_col : (k : ℕ) → is_zero (entry_at old pivot k) ≡ true → k ≢ col
  not_col k z e = (let q : is_zero (entry_at old pivot k) ≡ is_zero (entry_at old pivot col) = ap (λ x. is_zero (entry_at old pivot x)) e in cc)

  -- columns in which the pivot's row has no entry are passed
  pub reducing_skip : (m : ℕ) → n ≤ m → ((k : ℕ) → n ≤ k → k < m → is_zero (entry_at old pivot k) ≡ true) → IsReducing old new i pivot col factor was now m
  unfolding reductions_fit
  reducing_skip m le gap = record {
    fit = all_below-on (λ k. k == col || step_fits factor (entry_at old pivot k) (entry_at old i k)) n m le h.fit
        (λ k l u. rw (gap k l u) (or_true (k == col)));
    reduced = λ k lt. elim (cases_Bool (nat_lt k n)) [
      | inl e ↦ h.reduced k (ltb-true k n e)
      | inr e ↦
          (let up : n ≤ k = ltb-false k n e in
          let z = gap k up lt in
          h.later k up
          ∙ (step-zero factor (entry_at old pivot k) (entry_at old i k) z).1
          ∙ sym (rw (ne_eqb k col (not_col k z)) refl))
    ];
    later = λ k l. h.later k (omega arith);
    rows = h.rows;
    spare = gaps_skip old i pivot was now n m le h.spare;
  }

  -- the entry in column n is made what it is to be
  pub reducing_put : (newer : List Node) (then : ℕ) (v : ℚ) → pivot ≢ i → is_zero (entry_at old pivot n) ≡ false
      → (n == col || step_fits factor (entry_at old pivot n) (entry_at old i n)) ≡ true → v ≡ entry_after old i pivot col factor n
      → IsPut new newer i n v → now ≤ then + takes (entry_at new i n) v → IsReducing old newer i pivot col factor was then (n + 1)
  unfolding reductions_fit
  reducing_put newer then v apart nz f e p s = record {
    fit = rw (add-one, h.fit, f) refl;
    reduced = λ k lt. elim (cases_Bool (k == n)) [
      | inl q ↦ (let same : k ≡ n = eqb-true k n q in ap (entry_at newer i) same ∙ p.here ∙ e ∙ ap (entry_after old i pivot col factor) (sym same))
      | inr q ↦ (let ne : k ≢ n = eqb-false k n q in p.others i k (λ _ z. ne z) ∙ h.reduced k (omega arith))
    ];
    later = λ k le. p.others i k (λ _ z. absurd (omega arith)) ∙ h.later k (omega arith);
    rows = record {
      entries = λ a b ne. p.others a b (λ z _. ne z) ∙ h.rows.entries a b ne;
      stays = λ m a b ne t. p.stays m a b (λ z _. ne z) (h.rows.stays m a b ne t);
      stood = λ m a b ne t. h.rows.stood m a b ne (p.stood m a b (λ z _. ne z) t);
    };
    spare = gaps_put old i pivot was now n (entry_at new i n) v h.spare (h.later n (omega arith)) nz then s;
  }

  pub reducing_fails : (w : ℕ) → n < w → (n == col || step_fits factor (entry_at old pivot n) (entry_at old i n)) ≡ false → reductions_fit old i pivot col factor w ≡ false
  unfolding reductions_fit
  reducing_fails w lt e = all_below-fails (λ k. k == col || step_fits factor (entry_at old pivot k) (entry_at old i k)) n w e lt

  -- the free nodes suffice for the next column
  pub reducing_room : (w : ℕ) (v : ℚ) → n < w → row_gaps old i pivot w ≤ was → is_zero (entry_at old pivot n) ≡ false → takes (entry_at new i n) v ≤ now
  reducing_room w v lt room nz = gaps_room old i pivot was now n (entry_at new i n) v h.spare (h.later n (omega arith)) nz w lt room

-- ---- the walk along the pivot's row

-- before the next node of a row its entries are 0
pub gap_before : (xs : List Node) (i n : ℕ) (o : Option ℕ) → IsFirst (by_rows xs) i n o → (k : ℕ) → n ≤ k → ((m : ℕ) → o ≡ Some m → k < col_at xs m) → is_zero (entry_at xs i k) ≡ true
gap_before xs i n o f k le lt = ap is_zero (entry-vacant xs i k (vacant o f lt)) ∙ eq_ℚ-true (of_ℤ (pos 0)) (of_ℤ (pos 0)) refl
  where
    vacant : (o : Option ℕ) → IsFirst (by_rows xs) i n o → ((m : ℕ) → o ≡ Some m → k < col_at xs m) → IsVacant xs i k
    vacant None f lt c lc e q = f c (record { live = lc; line = e; index = omega arith })
    vacant (Some m) f lt c lc e q = (let w = f.1 c (record { live = lc; line = e; index = omega arith }) in let l = lt m refl in omega arith)

-- what the loop along row `pivot` keeps: the columns before `done` are reduced, `source` is the
-- next node, `left` stands before it in row i
pub record IsAlong (old new : List Node) (i pivot col : ℕ) (factor : ℚ) (was now done : ℕ) (source left : Option ℕ) : Type 0 where
  pub row : IsReducing old new i pivot col factor was now done
  pub next : IsFirst (by_rows new) pivot done source
  pub stop : StandsBefore (by_rows new) i done left

pub stop_later : (xs : List Node) (i k m : ℕ) (o : Option ℕ) → k ≤ m → StandsBefore (by_rows xs) i k o → StandsBefore (by_rows xs) i m o
stop_later xs i k m None le s = tt
stop_later xs i k m (Some p) le s = (let l = s.index in record { live = s.live; line = s.line; index = omega arith })

-- the node before an index stands before the next one, after the entry there is put
pub stop_put : (xs ys : List Node) (i k : ℕ) (v : ℚ) (o : Option ℕ) → IsPut xs ys i k v → IsLast (by_rows xs) i k o → StandsBefore (by_rows ys) i (k + 1) o
stop_put xs ys i k v None p l = tt
stop_put xs ys i k v (Some q) p l =
    let b = l.0.index in
    let s = p.stays q i (col_at xs q) (λ _ e. absurd (omega arith)) (record { live = l.0.live; row = l.0.line; col = refl }) in
    let c = s.col in
    record { live = s.live; line = s.row; index = omega arith }

module _ (old new : List Node) (i pivot col : ℕ) (factor : ℚ) (was now done : ℕ) (node : ℕ) (left : Option ℕ) (h : IsAlong old new i pivot col factor was now done (Some node) left)
    (apart : pivot ≢ i) (pivot_entry : is_zero (entry_at old pivot col) ≡ false) where
  -- up to the next node of row `pivot` nothing has to be done
  pub along_at : IsReducing old new i pivot col factor was now (col_at new node)
  along_at = reducing_skip old new i pivot col factor was now done h.row pivot_entry (col_at new node) h.next.0.index
      (λ k le lt. ap is_zero (sym (h.row.rows.entries pivot k apart)) ∙ gap_before new pivot done (Some node) h.next k le (λ m e. (let q : col_at new node ≡ col_at new m = cc in omega arith)))

  pub along_stands : StandsAt new node pivot (col_at new node)
  along_stands = record { live = h.next.0.live; row = h.next.0.line; col = refl }

  module _ (one : AreApart (by_rows new)) (inside : node < length new) where
    -- the entry of row `pivot` there is what it was
    pub along_by : item new node ≡ entry_at old pivot (col_at new node)
    along_by = sym (entry-node new node pivot (col_at new node) inside one along_stands) ∙ h.row.rows.entries pivot (col_at new node) apart

    pub along_nonzero : is_zero (entry_at old pivot (col_at new node)) ≡ false
    along_nonzero = ap is_zero (sym along_by) ∙ item-live new node h.next.0.live

    -- so is the entry of row i
    pub along_entry : entry_at new i (col_at new node) ≡ entry_at old i (col_at new node)
    along_entry = along_at.later (col_at new node) (omega arith)

    pub along_room : (w : ℕ) (v : ℚ) → col_at new node < w → row_gaps old i pivot w ≤ was → takes (entry_at new i (col_at new node)) v ≤ now
    along_room w v lt room = reducing_room old new i pivot col factor was now (col_at new node) along_at pivot_entry w v lt room along_nonzero

    pub along_fails : (w : ℕ) → col_at new node < w → (col_at new node == col || step_fits factor (item new node) (entry_at new i (col_at new node))) ≡ false → reductions_fit old i pivot col factor w ≡ false
    along_fails w lt e = reducing_fails old new i pivot col factor was now (col_at new node) along_at pivot_entry w lt (rw (← along_by, ← along_entry) e)

    pub along_step : (newer : List Node) (then : ℕ) (v : ℚ) (before : Option ℕ) (lines : ℕ) (head : ℕ → Option ℕ)
        → (col_at new node == col || step_fits factor (item new node) (entry_at new i (col_at new node))) ≡ true → v ≡ reduced_entry (col_at new node) col factor (item new node) (entry_at new i (col_at new node))
        → IsPut new newer i (col_at new node) v → now ≤ then + takes (entry_at new i (col_at new node)) v → IsLast (by_rows new) i (col_at new node) before → AreLinked (by_rows newer) lines head
        → IsAlong old newer i pivot col factor was then (col_at new node + 1) (right_at newer node) before
    along_step newer then v before lines head f e p s l linked =
        let t : StandsAt newer node pivot (col_at new node) = p.stays node pivot (col_at new node) (λ z _. apart z) along_stands in
        let n : IsFirst (by_rows newer) pivot (col_at newer node + 1) (right_at newer node) = next_first (by_rows newer) lines head pivot node linked (t.live, t.row) in
        record {
          row = reducing_put old new i pivot col factor was now (col_at new node) along_at pivot_entry newer then v apart along_nonzero (rw (← along_by, ← along_entry) f) (rw (← along_by, ← along_entry) e) p s;
          next = subst (λ k. IsFirst (by_rows newer) pivot (k + 1) (right_at newer node)) t.col n;
          stop = stop_put new newer i (col_at new node) v before p l;
        }

    pub along_stop : StandsBefore (by_rows new) i (col_at new node) left
    along_stop = stop_later new i done (col_at new node) left h.next.0.index h.stop

pub along_end : (old new : List Node) (i pivot col : ℕ) (factor : ℚ) (was now done w : ℕ) (left : Option ℕ) → IsAlong old new i pivot col factor was now done None left → pivot ≢ i → is_zero (entry_at old pivot col) ≡ false → done ≤ w → IsReducing old new i pivot col factor was now w
along_end old new i pivot col factor was now done w left h apart pivot_entry le =
    reducing_skip old new i pivot col factor was now done h.row pivot_entry w le
    (λ k l lt. ap is_zero (sym (h.row.rows.entries pivot k apart)) ∙ gap_before new pivot done None h.next k l (λ m e. absurd (let r : ⊥ = cc in r)))

-- in another column than the pivot's
pub reduced_step : (o : Option Frac) (k col : ℕ) (factor x y z : ℚ) → k ≢ col → y ≡ z → IsChecked o (step_fits factor x y) (y -ℚ factor *ℚ x) → IsChecked o (k == col || step_fits factor x z) (reduced_entry k col factor x z)
reduced_step o k col factor x y z ne e h = rw (ne_eqb k col ne, ← e) h

-- ---- the gaps of a row are counted

pub row_gaps-most : (xs : List Node) (i pivot n : ℕ) → row_gaps xs i pivot n ≤ n
unfolding row_gaps
row_gaps-most xs i pivot zero = omega arith
row_gaps-most xs i pivot (suc n) = (let r = row_gaps-most xs i pivot n in let c = most (is_zero (entry_at xs i n) && not (is_zero (entry_at xs pivot n))) in omega arith)
  where
    most : (b : Bool) → cond b 1 0 ≤ suc 0
    most true = omega arith
    most false = omega arith

-- what the loop along row `pivot` keeps
pub record IsCounting (xs : List Node) (i pivot count done : ℕ) (source left : Option ℕ) : Type 0 where
  pub counted : count ≡ row_gaps xs i pivot done
  pub next : IsFirst (by_rows xs) pivot done source
  pub stop : StandsBefore (by_rows xs) i done left

pub counting_start : (xs : List Node) (i pivot : ℕ) (source : Option ℕ) → IsFirst (by_rows xs) pivot 0 source → IsCounting xs i pivot 0 0 source None
unfolding row_gaps
counting_start xs i pivot source f = record { counted = refl; next = f; stop = tt }

counting_skip : (xs : List Node) (i pivot m n : ℕ) (o : Option ℕ) → IsFirst (by_rows xs) pivot m o → m ≤ n → ((c : ℕ) → o ≡ Some c → n ≤ col_at xs c) → row_gaps xs i pivot n ≡ row_gaps xs i pivot m
unfolding row_gaps
counting_skip xs i pivot m n o f le lt = count_below-none _ m n le (λ k l u. rw (gap_before xs pivot m o f k l (λ c e. (let w = lt c e in omega arith))) (and-false (is_zero (entry_at xs i k))))

pub counting_stop : (xs : List Node) (i pivot count done node : ℕ) (left : Option ℕ) → IsCounting xs i pivot count done (Some node) left → StandsBefore (by_rows xs) i (col_at xs node) left
counting_stop xs i pivot count done node left h = stop_later xs i done (col_at xs node) left h.next.0.index h.stop

pub counting_step : (xs : List Node) (i pivot count done node : ℕ) (left before : Option ℕ) (lines : ℕ) (head : ℕ → Option ℕ) → IsCounting xs i pivot count done (Some node) left → AreApart (by_rows xs) → node < length xs → AreLinked (by_rows xs) lines head
    → IsLast (by_rows xs) i (col_at xs node) before → IsCounting xs i pivot (count + cond (is_zero (entry_at xs i (col_at xs node))) 1 0) (col_at xs node + 1) (right_at xs node) before
unfolding row_gaps
counting_step xs i pivot count done node left before lines head h one inside linked last =
    let at : StandsAt xs node pivot (col_at xs node) = record { live = h.next.0.live; row = h.next.0.line; col = refl } in
    let nz : is_zero (entry_at xs pivot (col_at xs node)) ≡ false = ap is_zero (entry-node xs node pivot (col_at xs node) inside one at) ∙ item-live xs node h.next.0.live in
    let s : row_gaps xs i pivot (col_at xs node) ≡ row_gaps xs i pivot done = counting_skip xs i pivot done (col_at xs node) (Some node) h.next h.next.0.index (λ c e. (let q : col_at xs node ≡ col_at xs c = cc in omega arith)) in
    let c = h.counted in
    record {
      counted = rw (add-one, nz) (let t = here (is_zero (entry_at xs i (col_at xs node))) in omega arith);
      next = next_first (by_rows xs) lines head pivot node linked (h.next.0.live, h.next.0.line);
      stop = stop_more xs i (col_at xs node) before last;
    }
  where
    here : (b : Bool) → cond b 1 0 ≡ cond (b && true) 1 (zero)
    here true = refl
    here false = refl

    stop_more : (xs : List Node) (i k : ℕ) (o : Option ℕ) → IsLast (by_rows xs) i k o → StandsBefore (by_rows xs) i (k + 1) o
    stop_more xs i k None l = tt
    stop_more xs i k (Some p) l = (let b = l.0.index in record { live = l.0.live; line = l.0.line; index = omega arith })

pub counting_end : (xs : List Node) (i pivot count done w : ℕ) (left : Option ℕ) → IsCounting xs i pivot count done None left → done ≤ w → count ≡ row_gaps xs i pivot w
counting_end xs i pivot count done w left h le = h.counted ∙ sym (counting_skip xs i pivot done w None h.next le (λ c e. absurd (let r : ⊥ = cc in r)))

pub unit_most : (b : Bool) (n : ℕ) → n ≡ cond b 1 0 → n ≤ 1
unit_most true n e = omega arith
unit_most false n e = omega arith

-- ---- the entries of a row are counted

pub entries_in-most : (row : ℕ → ℚ) (n : ℕ) → entries_in row n ≤ n
unfolding entries_in
entries_in-most row zero = omega arith
entries_in-most row (suc n) = (let r = entries_in-most row n in let c = most (not (is_zero (row n))) in omega arith)
  where
    most : (b : Bool) → cond b 1 0 ≤ suc 0
    most true = omega arith
    most false = omega arith

pub entries_start : (row : ℕ → ℚ) → 0 ≡ entries_in row 0
unfolding entries_in
entries_start row = refl

entries_skip : (xs : List Node) (i m n : ℕ) (o : Option ℕ) → IsFirst (by_rows xs) i m o → m ≤ n → ((c : ℕ) → o ≡ Some c → n ≤ col_at xs c) → entries_in (entry_at xs i) n ≡ entries_in (entry_at xs i) m
unfolding entries_in
entries_skip xs i m n o f le lt = count_below-none _ m n le (λ k l u. rw (gap_before xs i m o f k l (λ c e. (let w = lt c e in omega arith))) refl)

pub entries_step : (xs : List Node) (i done node : ℕ) → IsFirst (by_rows xs) i done (Some node) → AreApart (by_rows xs) → node < length xs → entries_in (entry_at xs i) (col_at xs node + 1) ≡ entries_in (entry_at xs i) done + 1
unfolding entries_in
entries_step xs i done node f one inside =
    let at : StandsAt xs node i (col_at xs node) = record { live = f.0.live; row = f.0.line; col = refl } in
    let nz : is_zero (entry_at xs i (col_at xs node)) ≡ false = ap is_zero (entry-node xs node i (col_at xs node) inside one at) ∙ item-live xs node f.0.live in
    let s : entries_in (entry_at xs i) (col_at xs node) ≡ entries_in (entry_at xs i) done = entries_skip xs i done (col_at xs node) (Some node) f f.0.index (λ c e. (let q : col_at xs node ≡ col_at xs c = cc in omega arith)) in
    rw (add-one, nz) (omega arith)

pub entries_end : (xs : List Node) (i done w : ℕ) → IsFirst (by_rows xs) i done None → done ≤ w → entries_in (entry_at xs i) done ≡ entries_in (entry_at xs i) w
entries_end xs i done w f le = sym (entries_skip xs i done w None f le (λ c e. absurd (let r : ⊥ = cc in r)))

-- where the pivot's row has no entry there is no gap
gap_less : (a b : Bool) → cond (a && b) 1 0 ≤ cond b 1 0
gap_less true b = omega arith
gap_less false true = omega arith
gap_less false false = omega arith

row_gaps-entries : (xs : List Node) (i pivot w : ℕ) → row_gaps xs i pivot w ≤ entries_in (entry_at xs pivot) w
unfolding row_gaps entries_in
row_gaps-entries xs i pivot zero = omega arith
row_gaps-entries xs i pivot (suc n) = (let r = row_gaps-entries xs i pivot n in let c = gap_less (is_zero (entry_at xs i n)) (not (is_zero (entry_at xs pivot n))) in omega arith)

-- nor is there one in a column in which both rows have an entry
pub row_gaps-less : (xs : List Node) (i pivot col w : ℕ) → col < w → is_zero (entry_at xs i col) ≡ false → is_zero (entry_at xs pivot col) ≡ false → row_gaps xs i pivot w + 1 ≤ entries_in (entry_at xs pivot) w
unfolding row_gaps entries_in
row_gaps-less xs i pivot col zero lt e h = absurd (omega arith)
row_gaps-less xs i pivot col (suc n) lt e h = elim (cases_Bool (n == col)) [
  | inl q ↦
      (let same : n ≡ col = eqb-true n col q in
      let r = row_gaps-entries xs i pivot n in
      let p : cond {A = ℕ} (is_zero (entry_at xs i n) && not (is_zero (entry_at xs pivot n))) 1 0 ≡ 0 =
      ap (λ x. cond {A = ℕ} (is_zero (entry_at xs i x) && not (is_zero (entry_at xs pivot x))) 1 0) same ∙ ap (λ b. cond {A = ℕ} (b && not (is_zero (entry_at xs pivot col))) 1 0) e in
      let t : cond {A = ℕ} (not (is_zero (entry_at xs pivot n))) 1 0 ≡ 1 = ap (λ x. cond {A = ℕ} (not (is_zero (entry_at xs pivot x))) 1 0) same ∙ ap (λ b. cond {A = ℕ} (not b) 1 0) h in
      omega arith)
  | inr q ↦
      (let ne : n ≢ col = eqb-false n col q in
      let r = row_gaps-less xs i pivot col n (omega arith) e h in
      let c = gap_less (is_zero (entry_at xs i n)) (not (is_zero (entry_at xs pivot n))) in
      omega arith)
]

-- ---- no negative entry so far

zero_not_negative : (x : ℚ) → is_zero x ≡ true → is_negative x ≡ false
zero_not_negative x e = ap is_negative (eq_ℚ_true x (of_ℤ (pos 0)) e) ∙ lt_ℚ-false (of_ℤ (pos 0)) (of_ℤ (pos 0)) (≤ℚ_refl (of_ℤ (pos 0)))

pub none_on : (xs : List Node) (i m n : ℕ) (o : Option ℕ) → IsFirst (by_rows xs) i m o → NoneNegative xs i m → ((c : ℕ) → o ≡ Some c → n ≤ col_at xs c) → NoneNegative xs i n
none_on xs i m n o f h lt k l = elim (cases_Bool (nat_lt k m)) [
  | inl e ↦ h k (ltb-true k m e)
  | inr e ↦ zero_not_negative (entry_at xs i k) (gap_before xs i m o f k (ltb-false k m e) (λ c q. (let w = lt c q in omega arith)))
]

pub none_more : (xs : List Node) (i n : ℕ) → NoneNegative xs i n → is_negative (entry_at xs i n) ≡ false → NoneNegative xs i (n + 1)
none_more xs i n h e k l = elim (cases_Bool (k == n)) [
  | inl q ↦ (let same : k ≡ n = eqb-true k n q in ap (λ z. is_negative (entry_at xs i z)) same ∙ e)
  | inr q ↦ (let ne : k ≢ n = eqb-false k n q in h k (omega arith))
]
