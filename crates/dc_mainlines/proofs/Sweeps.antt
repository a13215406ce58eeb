-- Sums by rows while a column's entries, or a vector's items, are gone through.
use Rattle.std.specs.Prelude.{◌≡◌, ℕ, zero, suc, ◌+◌, ◌-◌, ◌≤◌, ◌<◌, Bool, true, false, ◌&&◌, eqb, cond, ltb, if◌then◌else◌, List, [], ◌∷◌, ◌++◌, length, All, slice_index_or, replicate, ℤ, pos, unsigned_abs, Option, Some, None}
use Rattle.std.specs.List.{list_all}
use Rattle.std.specs.Option.{option_and_then}
use Rattle.std.proofs.Common.{refl, sym, ◌∙◌, ap, ap₂, arith, drop, drop-cons, get_or, add-one, take}
use Rattle.std.proofs.lemmas.Bool.{eq-eqb, ne_eqb, eqb-true, eqb-false, ltb-true, lt-ltb, le-ltb}
use Rattle.std.proofs.Math.ListN.{set, length-set}
use Rattle.std.proofs.lemmas.Option.{slice_get_read, get_or_from_slice_get}
use Rattle.std.proofs.lemmas.List.{drop_all, get_or-set_same, get_or-set_other, get_or-replicate}
use Rattle.dc_math.specs.Rational.{ℚ, of_ℤ}
use Rattle.dc_frac.specs.declared.Frac.{Frac}
use Rattle.dc_frac.specs.Fits.{fits, IsSmall}
use Rattle.dc_frac.specs.Value.{value}
use Rattle.dc_lp.specs.declared.Entry.{Entry}
use Rattle.dc_lp.specs.declared.Problem.{Problem}
use Rattle.dc_lp.specs.Folds.{added, folded}
use Rattle.dc_lp.specs.Problems.{AreEntries, IsColumn, coefficient_in, entries}
use Rattle.dc_lp.proofs.Columns.{next, coefficient-weight}
use Rattle.dc_lp.proofs.FoldSums.{folded-fits}
use Rattle.dc_lp.proofs.Folding.{folded-none, added-zero}
use Rattle.dc_cert.specs.declared.sparse.Item.{Item}
use Rattle.dc_cert.specs.declared.sparse.Sparse.{Sparse}
use Rattle.dc_cert.specs.Vectors.{AreItems, IsBelow, IsVector, entry_after, entry_of, in_range}
use Rattle.dc_cert.proofs.Returned.{entry-before}
use Rattle.dc_clauses.specs.Lines.{at}
use Rattle.dc_clauses.specs.Mains.{whole_problem, short_column, short_coefficient, short_value, multipliers, left_fold}
use Rattle.dc_clauses.proofs.Items.{folded-zeros}
use Rattle.dc_mainlines.specs.Sums.{sum_of, sum_at, with_term, with_entry, with_items, AreSums}

-- ---- entries
-- what is read with one default is read with each
read : {A : Type 0} (xs : List A) (k : ℕ) (x d : A) → k < length xs → x ≡ get_or xs k x → get_or xs k d ≡ x
read xs k x d l e = get_or_from_slice_get xs k x d (slice_get_read xs (length xs) k x refl l e)

pub entry_small : (rows : ℕ) (es : List Entry) (k : ℕ) (d : Entry) → IsColumn rows es → k < length es → IsSmall (slice_index_or es k d).value
entry_small rows es k d h l =
    let n = next 0 rows es k d h.entries l in
    let w = coefficient-weight es (slice_index_or es k d).row in
    let v : unsigned_abs (coefficient_in es (slice_index_or es k d).row) ≡ unsigned_abs (slice_index_or es k d).value = ap unsigned_abs n.value in
    omega (arith, w, v, h.weight)

pub entry_inside : (rows : ℕ) (es : List Entry) (k : ℕ) (d : Entry) → IsColumn rows es → k < length es → (slice_index_or es k d).row < rows
entry_inside rows es k d h l = (next 0 rows es k d h.entries l).inside

no_entry : (low rows i : ℕ) (es : List Entry) (s : Option ℚ) (x : ℚ) → AreEntries low rows es → i < low → with_entry s es i x ≡ s
no_entry low rows i [] s x h l = refl
no_entry low rows i (e ∷ es) s x h l =
    ap (λ b. cond b (with_term s e.value x) (with_entry s es i x)) (ne_eqb e.row i (λ q. let a = h.0 in omega arith))
    ∙ no_entry (suc e.row) rows i es s x h.3 (let a = h.0 in omega arith)

rest_rises : (low rows : ℕ) (es : List Entry) (k : ℕ) (d : Entry) → AreEntries low rows es → k < length es → AreEntries (suc (get_or es k d).row) rows (drop (suc k) es)
rest_rises low rows [] k d h l = absurd (omega arith)
rest_rises low rows (e ∷ es) zero d h l = h.3
rest_rises low rows (e ∷ es) (suc k) d h l = rest_rises (suc e.row) rows es k d h.3 (omega arith)

-- ---- sums that are set
module _ (sums : List (Option Frac)) (r : ℕ) (v : Option Frac) where
  length_set : length (set sums r v) ≡ length sums
  length_set = length-set sums r v

  sum_set : r < length sums → sum_at (set sums r v) r ≡ sum_of v
  sum_set l = ap sum_of (get_or-set_same sums r v None l)

  sum_kept : (i : ℕ) → ¬ (i ≡ r) → sum_at (set sums r v) i ≡ sum_at sums i
  sum_kept i n = ap sum_of (get_or-set_other sums r i v None n)

-- ---- within a column
pub record MidColumn (first now : List (Option Frac)) (column rest : List Entry) (x : ℚ) : Type 0 where
  pub one_each : length now ≡ length first
  pub each : (i : ℕ) → i < length first → with_entry (sum_at now i) rest i x ≡ with_entry (sum_at first i) column i x

pub column_starts : (first : List (Option Frac)) (column : List Entry) (x : ℚ) → MidColumn first first column column x
column_starts first column x = record { one_each = refl; each = λ i l. refl }

module _ (first now : List (Option Frac)) (column : List Entry) (x : ℚ) (k : ℕ) (d : Entry) (o v : Option Frac) (z : ℤ) (h : IsColumn (length first) column) (l : k < length column)
    (p : o ≡ get_or now (get_or column k d).row o) (q : z ≡ (get_or column k d).value) (w : sum_of v ≡ with_term (sum_of o) z x) (m : MidColumn first now column (drop k column) x) where
  abbrev e : Entry
  e = get_or column k d

  abbrev rest : List Entry
  rest = drop (suc k) column

  inside : e.row < length now
  inside = let a = entry_inside (length first) column k d h l in let b = m.one_each in omega arith

  rises : AreEntries (suc e.row) (length first) rest
  rises = rest_rises 0 (length first) column k d h.entries l

  term : sum_of v ≡ with_term (sum_at now e.row) e.value x
  term = w ∙ ap₂ (λ y a. with_term (sum_of y) a x) (sym (read now (get_or column k d).row o None inside p)) q

  before : (i : ℕ) → i < length first → cond (eqb e.row i) (with_term (sum_at now i) e.value x) (with_entry (sum_at now i) rest i x) ≡ with_entry (sum_at first i) column i x
  before i g = ap (λ es. with_entry (sum_at now i) es i x) (sym (drop-cons column k d l)) ∙ m.each i g

  by : (i : ℕ) → i < length first → (b : Bool) → eqb e.row i ≡ b → with_entry (sum_at (set now e.row v) i) (drop (k + 1) column) i x ≡ with_entry (sum_at first i) column i x
  by i g true f =
      let r : e.row ≡ i = eqb-true e.row i f in
      ap (λ j. with_entry (sum_at (set now e.row v) i) (drop j column) i x) (add-one k)
      ∙ no_entry (suc e.row) (length first) i rest (sum_at (set now e.row v) i) x rises (omega arith)
      ∙ ap (λ j. sum_at (set now e.row v) j) (sym r) ∙ sum_set now e.row v inside ∙ term ∙ ap (λ j. with_term (sum_at now j) e.value x) r
      ∙ sym (ap (λ b. cond b (with_term (sum_at now i) e.value x) (with_entry (sum_at now i) rest i x)) f)
      ∙ before i g
  by i g false f =
      let n : ¬ (e.row ≡ i) = eqb-false e.row i f in
      ap (λ j. with_entry (sum_at (set now e.row v) i) (drop j column) i x) (add-one k)
      ∙ ap (λ s. with_entry s rest i x) (sum_kept now e.row v i (λ y. n (sym y)))
      ∙ sym (ap (λ b. cond b (with_term (sum_at now i) e.value x) (with_entry (sum_at now i) rest i x)) f)
      ∙ before i g

  pub column_more : MidColumn first (set now (get_or column k d).row v) column (drop (k + 1) column) x
  column_more = record {
    one_each = length_set now e.row v ∙ m.one_each;
    each = λ i g. by i g (eqb e.row i) refl;
  }

pub column_ends : (first now : List (Option Frac)) (column : List Entry) (x : ℚ) (k : ℕ) → length column ≤ k → MidColumn first now column (drop k column) x → AreSums now (length first) (λ i. with_entry (sum_at first i) column i x)
column_ends first now column x k l m = record { one_each = m.one_each; each = λ i g. ap (λ es. with_entry (sum_at now i) es i x) (sym (drop_all k column l)) ∙ m.each i g }

-- ---- within a vector
pub record MidItems (p : Problem) (u start : ℕ) (first now : List (Option Frac)) (items rest : List Item) : Type 0 where
  pub one_each : length now ≡ p.rows
  pub each : (i : ℕ) → i < p.rows → with_items p u start i (sum_at now i) rest ≡ with_items p u start i (sum_at first i) items

pub items_start : (p : Problem) (u start : ℕ) (first : List (Option Frac)) (items : List Item) → length first ≡ p.rows → MidItems p u start first first items items
items_start p u start first items e = record { one_each = e; each = λ i l. refl }

pub items_more : (p : Problem) (u start : ℕ) (first now new : List (Option Frac)) (items : List Item) (k : ℕ) (item : Item) (column : List Entry) → k < length items → item ≡ get_or items k item
    → column ≡ entries p (short_column (whole_problem p) u (start + item.index)) → AreSums new (length now) (λ i. with_entry (sum_at now i) column i (value item.value))
    → MidItems p u start first now items (drop k items) → MidItems p u start first new items (drop (k + 1) items)
items_more p u start first now new items k item column l e q a m = record {
  one_each = a.one_each ∙ m.one_each;
  each = λ i g. ap (λ j. with_items p u start i (sum_at new i) (drop j items)) (add-one k)
      ∙ ap (λ s. with_items p u start i s (drop (suc k) items)) (a.each i (let b = m.one_each in omega arith) ∙ ap (λ es. with_entry (sum_at now i) es i (value item.value)) q)
      ∙ ap (with_items p u start i (sum_at now i)) (ap (λ y. y ∷ drop (suc k) items) e ∙ sym (drop-cons items k item l))
      ∙ m.each i g;
}

pub items_end : (p : Problem) (u start : ℕ) (first now : List (Option Frac)) (items : List Item) (k : ℕ) → length items ≤ k → MidItems p u start first now items (drop k items)
    → AreSums now p.rows (λ i. with_items p u start i (sum_at first i) items)
items_end p u start first now items k l m = record { one_each = m.one_each; each = λ i g. ap (with_items p u start i (sum_at now i)) (sym (drop_all k items l)) ∙ m.each i g }

-- ---- the items of a vector make a fold
module _ (p : Problem) (u i : ℕ) where
  column_at : ℕ → List Entry
  column_at k = entries p (short_column (whole_problem p) u k)

  entry_more : (es : List Entry) (o : Option ℚ) (x : ℚ) → ((s : ℚ) → o ≡ Some s → fits s ≡ true) → with_entry o es i x ≡ option_and_then (λ s. added s (coefficient_in es i) x) o
  entry_more [] None x f = refl
  entry_more [] (Some s) x f = added-zero s (pos 0) x refl (f s refl)
  entry_more (e ∷ es) o x f = by (eqb e.row i) (entry_more es o x f)
    where
      by : (b : Bool) → with_entry o es i x ≡ option_and_then (λ s. added s (coefficient_in es i) x) o
          → cond b (with_term o e.value x) (with_entry o es i x) ≡ option_and_then (λ s. added s (cond b e.value (coefficient_in es i)) x) o
      by true r = refl
      by false r = r

  fold_step : (n : ℕ) (a : ℕ → ℤ) (x : ℕ → ℚ) → folded (suc n) a x ≡ option_and_then (λ s. added s (a n) (x n)) (folded n a x)
  unfolding folded
  fold_step n a x = refl

  -- items from `low` on, over a vector x that has their values from `start` on
  swept : (start low n : ℕ) (x : ℕ → ℚ) (items : List Item) → AreItems low items → All (IsBelow n) items → low ≤ n → ((k : ℕ) → low ≤ k → k < n → x (start + k) ≡ entry_of items k)
      → with_items p u start i (folded (start + low) (short_coefficient (whole_problem p) u i) x) items ≡ folded (start + n) (short_coefficient (whole_problem p) u i) x
  swept start low n x [] h b l e =
      sym (folded-zeros (start + low) (start + n) (short_coefficient (whole_problem p) u i) x (omega arith)
      (λ k g f. ap x (let q : k ≡ start + (k - start) = omega arith in q) ∙ e (k - start) (omega arith) (omega arith)))
  swept start low n x (t ∷ items) h b l e =
      let a = short_coefficient (whole_problem p) u i in
      let inside : t.index < n = b 0 t (omega arith) in
      let gap : folded (start + t.index) a x ≡ folded (start + low) a x =
      folded-zeros (start + low) (start + t.index) a x (let y = h.0 in omega arith)
      (λ k g f. ap x (let q : k ≡ start + (k - start) = omega arith in q) ∙ e (k - start) (omega arith) (omega arith) ∙ before (k - start) (omega arith)) in
      let here : x (start + t.index) ≡ value t.value = e t.index h.0 inside ∙ ap (λ y. entry_after (cond y (value t.value) (of_ℤ (pos 0))) items t.index) (eq-eqb t.index t.index refl) ∙ entry-before (value t.value) t.index (suc t.index) items h.2 (omega arith) in
      ap (λ o. with_items p u start i o items)
      (ap (λ o. with_entry o (entries p (short_column (whole_problem p) u (start + t.index))) i (value t.value)) (sym gap)
      ∙ entry_more (entries p (short_column (whole_problem p) u (start + t.index))) (folded (start + t.index) a x) (value t.value) (λ s q. folded-fits (start + t.index) a x s q)
      ∙ ap (λ y. option_and_then (λ s. added s (a (start + t.index)) y) (folded (start + t.index) a x)) (sym here)
      ∙ sym (fold_step (start + t.index) a x)
      ∙ ap (λ j. folded j a x) (let q : suc (start + t.index) ≡ start + suc t.index = omega arith in q))
      ∙ swept start (suc t.index) n x items h.2 (λ k d g. b (suc k) d (omega arith)) inside (λ k g f. e k (let y = h.0 in omega arith) f ∙ behind k g)
    where
      before : (k : ℕ) → k < t.index → entry_of (t ∷ items) k ≡ of_ℤ (pos 0)
      before k f = entry-before (of_ℤ (pos 0)) k t.index (t ∷ items) (omega arith, h.1, h.2) f

      behind : (k : ℕ) → suc t.index ≤ k → entry_of (t ∷ items) k ≡ entry_of items k
      behind k g = ap (λ y. entry_after (cond y (value t.value) (of_ℤ (pos 0))) items k) (ne_eqb t.index k (λ q. omega arith))

-- ---- indices in range
pub all_below : (n : ℕ) (items : List Item) → list_all (λ (k : Item). ltb k.index n) items ≡ true → (k : ℕ) (d : Item) → k < length items → (get_or items k d).index < n
all_below n [] e k d l = absurd (omega arith)
all_below n (t ∷ items) e k d l = by (ltb t.index n) refl e k l (λ f j g. all_below n items f j d g)
  where
    by : (b : Bool) → ltb t.index n ≡ b → (b && list_all (λ (k : Item). ltb k.index n) items) ≡ true → (k : ℕ) → k < length (t ∷ items)
        → (list_all (λ (k : Item). ltb k.index n) items ≡ true → (j : ℕ) → j < length items → (get_or items j d).index < n) → (get_or (t ∷ items) k d).index < n
    by true f e zero l r = ltb-true t.index n f
    by true f e (suc k) l r = r e k (omega arith)
    by false f e k l r = absurd cc

-- ---- left sides
pub sums_left : (p : Problem) (u : ℕ) (unknown lambda : Sparse) (first now : List (Option Frac)) (f : Frac) → IsVector unknown → IsVector lambda → in_range u unknown ≡ true → in_range (multipliers (whole_problem p) u) lambda ≡ true
    → first ≡ replicate p.rows (Some f) → value f ≡ of_ℤ (pos 0)
    → AreSums now p.rows (λ i. with_items p u u i (with_items p u 0 i (sum_at first i) unknown.items) lambda.items) → AreSums now p.rows (left_fold (whole_problem p) u unknown lambda)
sums_left p u unknown lambda first now f v w r q e z m = record { one_each = m.one_each; each = λ i l. m.each i l ∙ ap (λ s. with_items p u u i (with_items p u 0 i s unknown.items) lambda.items) (none i l) ∙ whole i }
  where
    none : (i : ℕ) → i < p.rows → sum_at first i ≡ Some (of_ℤ (pos 0))
    none i l = ap (λ y. sum_at y i) e ∙ ap sum_of (get_or-replicate p.rows i (Some f) None l) ∙ ap Some z

    plus : (k : ℕ) → k < u → short_value (whole_problem p) u unknown lambda (0 + k) ≡ entry_of unknown.items k
    plus k l = ap (short_value (whole_problem p) u unknown lambda) (let y : 0 + k ≡ k = omega arith in y) ∙ ap (λ b. if b then at unknown k else at lambda (k - u)) (lt-ltb k u l)

    times : (k : ℕ) → short_value (whole_problem p) u unknown lambda (u + k) ≡ entry_of lambda.items k
    times k = ap (λ b. if b then at unknown (u + k) else at lambda ((u + k) - u)) (le-ltb (u + k) u (omega arith)) ∙ ap (at lambda) (let y : (u + k) - u ≡ k = omega arith in y)

    whole : (i : ℕ) → with_items p u u i (with_items p u 0 i (Some (of_ℤ (pos 0))) unknown.items) lambda.items ≡ left_fold (whole_problem p) u unknown lambda i
    whole i =
        let a = short_coefficient (whole_problem p) u i in
        let x = short_value (whole_problem p) u unknown lambda in
        ap (λ s. with_items p u u i (with_items p u 0 i s unknown.items) lambda.items) (sym (ap (λ j. folded j a x) (let y : 0 + 0 ≡ 0 = omega arith in y) ∙ folded-none a x))
        ∙ ap (λ s. with_items p u u i s lambda.items) (swept p u i 0 0 u x unknown.items v (all_below u unknown.items r) (omega arith) (λ k g l. plus k l) ∙ ap (λ j. folded j a x) (let y : 0 + u ≡ u + 0 = omega arith in y))
        ∙ swept p u i u 0 (multipliers (whole_problem p) u) x lambda.items w (all_below (multipliers (whole_problem p) u) lambda.items q) (omega arith) (λ k g l. times k)

pub both_swept : (p : Problem) (u : ℕ) (first mid now : List (Option Frac)) (a b c d : List Item) → c ≡ a → d ≡ b → AreSums mid p.rows (λ i. with_items p u 0 i (sum_at first i) c) → AreSums now p.rows (λ i. with_items p u u i (sum_at mid i) d)
    → AreSums now p.rows (λ i. with_items p u u i (with_items p u 0 i (sum_at first i) a) b)
both_swept p u first mid now a b c d e q m n = record {
  one_each = n.one_each;
  each = λ i l. n.each i l ∙ ap₂ (λ s y. with_items p u u i s y) (m.each i l ∙ ap (with_items p u 0 i (sum_at first i)) e) q;
}

-- what is written back to a vector of the same length
pub written_back : {A : Type 0} (new old : List A) (m : ℕ) → length new ≡ m → length old ≡ m → take m (new ++ drop (length new) old) ≡ new
written_back [] [] m e q = let z : m ≡ 0 = sym e in ap (λ k. take k []) z
written_back [] (y ∷ old) m e q = absurd (omega arith)
written_back (x ∷ new) [] m e q = absurd (omega arith)
written_back (x ∷ new) (y ∷ old) zero e q = absurd (omega arith)
written_back (x ∷ new) (y ∷ old) (suc m) e q = ap (λ xs. x ∷ xs) (written_back new old m (omega arith) (omega arith))
