-- How far the entries of a column reach: for what builds a column entry by entry, or goes through one.
use Rattle.std.specs.Prelude.{◌≡◌, ◌≢◌, ℕ, zero, suc, ◌+◌, ◌<◌, ◌≤◌, pos, List, [], ◌∷◌, ◌++◌, length, map, slice_index_or, unsigned_abs}
use Rattle.std.proofs.Common.{refl, sym, ◌∙◌, ap, subst, take, inl, inr, arith, eq-eqb}
use Rattle.std.proofs.lemmas.Bool.{cases_eq, ne_eqb}
use Rattle.std.proofs.lemmas.List.{get_or-map, take_more}
use Rattle.std.proofs.lemmas.List.Sums.{sum_by-cons}
use Rattle.dc_lp.specs.declared.Entry.{Entry}
use Rattle.dc_lp.specs.Problems.{AreEntries, coefficient_in, weight}

-- the first row behind the first i entries, and `low` where i is 0
abbrev pub row_after : ℕ → List Entry → ℕ → ℕ
row_after low es zero = low
row_after low [] (suc i) = low
row_after low (e ∷ es) (suc i) = row_after (suc e.row) es i

pub row_after-low : (low rows : ℕ) (es : List Entry) (i : ℕ) → AreEntries low rows es → low ≤ row_after low es i
row_after-low low rows es zero h = omega arith
row_after-low low rows [] (suc i) h = omega arith
row_after-low low rows (e ∷ es) (suc i) h = let r = row_after-low (suc e.row) rows es i h.3 in omega (arith, r, h.0)

pub row_after-rows : (low rows : ℕ) (es : List Entry) (i : ℕ) → low ≤ rows → AreEntries low rows es → row_after low es i ≤ rows
row_after-rows low rows es zero l h = l
row_after-rows low rows [] (suc i) l h = l
row_after-rows low rows (e ∷ es) (suc i) l h = row_after-rows (suc e.row) rows es i (omega (arith, h.1)) h.3

-- a row without an entry
other_row : (e : Entry) (es : List Entry) (k : ℕ) → e.row ≢ k → coefficient_in (e ∷ es) k ≡ coefficient_in es k
other_row e es k ne = rw (ne_eqb e.row k ne) refl

same_row : (e : Entry) (es : List Entry) → coefficient_in (e ∷ es) e.row ≡ e.value
same_row e es = rw (eq-eqb e.row e.row refl) refl

none_before : (low rows : ℕ) (es : List Entry) (k : ℕ) → AreEntries low rows es → k < low → coefficient_in es k ≡ pos 0
none_before low rows [] k h l = refl
none_before low rows (e ∷ es) k h l = rw (other_row e es k (omega (arith, h.0))) (none_before (suc e.row) rows es k h.3 (omega (arith, h.0)))

pub none_behind : (low rows : ℕ) (es : List Entry) (k : ℕ) → AreEntries low rows es → row_after low es (length es) ≤ k → coefficient_in es k ≡ pos 0
none_behind low rows [] k h l = refl
none_behind low rows (e ∷ es) k h l =
    let r = row_after-low (suc e.row) rows es (length es) h.3 in
    rw (other_row e es k (omega (arith, r))) (none_behind (suc e.row) rows es k h.3 l)

-- what is known of entry e, which is number i of a column
pub record IsNext (low rows : ℕ) (es : List Entry) (i : ℕ) (e : Entry) : Type 0 where
  pub later : row_after low es i ≤ e.row
  pub inside : e.row < rows
  pub nonzero : e.value ≢ pos 0
  pub between : (k : ℕ) → row_after low es i ≤ k → k < e.row → coefficient_in es k ≡ pos 0
  pub value : coefficient_in es e.row ≡ e.value
  pub after : row_after low es (suc i) ≡ suc e.row

pub next : (low rows : ℕ) (es : List Entry) (i : ℕ) (d : Entry) → AreEntries low rows es → i < length es → IsNext low rows es i (slice_index_or es i d)
next low rows [] i d h l = absurd (omega arith)
next low rows (e ∷ es) zero d h l = record {
  later = h.0;
  inside = h.1;
  nonzero = h.2;
  between = λ k a b. rw (other_row e es k (omega (arith, b))) (none_before (suc e.row) rows es k h.3 (omega (arith, b)));
  value = same_row e es;
  after = refl;
}
next low rows (e ∷ es) (suc i) d h l =
    let n = next (suc e.row) rows es i d h.3 (omega arith) in
    let r = row_after-low (suc e.row) rows es i h.3 in
    record {
      later = n.later;
      inside = n.inside;
      nonzero = n.nonzero;
      between = λ k a b. rw (other_row e es k (omega (arith, r, a))) (n.between k a b);
      value = rw (other_row e es (slice_index_or es i d).row (omega (arith, r, n.later))) n.value;
      after = n.after;
    }

-- one entry more
pub AreEntries-push : (low rows : ℕ) (es : List Entry) (e : Entry) → AreEntries low rows es → row_after low es (length es) ≤ e.row → e.row < rows → e.value ≢ pos 0 → AreEntries low rows (es ++ e ∷ [])
AreEntries-push low rows [] e h l i n = (l, i, n, tt)
AreEntries-push low rows (f ∷ es) e h l i n = (h.0, h.1, h.2, AreEntries-push (suc f.row) rows es e h.3 l i n)

pub row_after-push : (low : ℕ) (es : List Entry) (e : Entry) → row_after low (es ++ e ∷ []) (suc (length es)) ≡ suc e.row
row_after-push low [] e = refl
row_after-push low (f ∷ es) e = row_after-push (suc f.row) es e

-- a coefficient weighs at most what its column does
pub coefficient-weight : (es : List Entry) (i : ℕ) → unsigned_abs (coefficient_in es i) ≤ weight es
coefficient-weight [] i = omega arith
coefficient-weight (e ∷ es) i =
    let w = sum_by-cons (λ f. unsigned_abs f.value) e es in
    elim (cases_eq e.row i) [
      | inl s ↦ rw (eq-eqb e.row i s) (omega (arith, w))
      | inr ne ↦ rw (ne_eqb e.row i ne) (let h = coefficient-weight es i in omega (arith, h, w))
    ]

-- the entries of a column are its items
pub entries-at : {C : Type 0} (f : C → List Entry) (cs : List C) (j : ℕ) (c : C) → j < length cs → c ≡ slice_index_or cs j c → slice_index_or (map f cs) j [] ≡ f c
entries-at f cs j c l e = get_or-map f cs j c [] l ∙ ap f (sym e)

pub row_after-next : (low : ℕ) (es : List Entry) (i : ℕ) (d : Entry) → i < length es → row_after low es (suc i) ≡ suc (slice_index_or es i d).row
row_after-next low [] i d l = absurd (omega arith)
row_after-next low (e ∷ es) zero d l = refl
row_after-next low (e ∷ es) (suc i) d l = row_after-next (suc e.row) es i d (omega arith)

pub row_after-take : (low : ℕ) (es : List Entry) (i : ℕ) → i ≤ length es → row_after low (take i es) (length (take i es)) ≡ row_after low es i
row_after-take low es zero l = refl
row_after-take low [] (suc i) l = absurd (omega arith)
row_after-take low (e ∷ es) (suc i) l = row_after-take (suc e.row) es i (omega arith)

-- the first i + 1 entries, where the first i and the next one are as they should
pub AreEntries-more : (rows low i : ℕ) (es : List Entry) (d : Entry) → AreEntries 0 rows (take i es) → low ≡ row_after 0 es i → i < length es
    → low ≤ (slice_index_or es i d).row → (slice_index_or es i d).row < rows → (slice_index_or es i d).value ≢ pos 0 → AreEntries 0 rows (take (i + 1) es)
AreEntries-more rows low i es d h e l a b n =
    let t = row_after-take 0 es i (omega arith) in
    subst (AreEntries 0 rows) (sym (take_more es i d l)) (AreEntries-push 0 rows (take i es) (slice_index_or es i d) h (omega (arith, t, e, a)) b n)
