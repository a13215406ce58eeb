-- A column that is built row by row.
use Rattle.std.specs.Prelude.{◌≡◌, ◌≢◌, ℕ, zero, suc, Bool, true, false, ◌+◌, ◌<◌, ◌≤◌, ◌==◌, if◌then◌else◌, cond, List, [], ◌∷◌, ◌++◌, length, ℤ, pos, slice_index_or, unsigned_abs}
use Rattle.std.proofs.Common.{refl, sym, ◌∙◌, ap, subst, arith, inl, inr}
use Rattle.std.proofs.lemmas.Bool.{both_ways, cases_eq, cases_lt, eq-eqb, ne_eqb, lt-ltb, le-ltb}
use Rattle.std.proofs.lemmas.Bool.Decides.{Decides-int_eq}
use Rattle.std.proofs.lemmas.List.{get_or_past}
use Rattle.std.proofs.lemmas.List.Sums.{sum_by_push}
use Rattle.std.specs.Ordering.{int_eq}
use Rattle.dc_affine.specs.declared.atom.Atom.{Atom}
use Rattle.dc_affine.specs.Atoms.{IsAtom, AllFit}
use Rattle.dc_lp.specs.declared.Entry.{Entry}
use Rattle.dc_lp.specs.Problems.{AreEntries, coefficient_in}
use Rattle.dc_lp.proofs.Columns.{row_after-rows, none_behind, AreEntries-push}
use Rattle.dc_points.specs.Stated.{coefficient_of}
use Rattle.dc_entail.specs.Columns.{IsColumnOf, with_entry, rows_below, place_numbers, column_numbers}

abbrev pub entry : ℕ → ℤ → Entry
entry r z = record { row = r; value = z }

coefficient_in-push : (low rows : ℕ) (es : List Entry) (e : Entry) (i : ℕ) → AreEntries low rows es → rows ≤ e.row → coefficient_in (es ++ e ∷ []) i ≡ cond (e.row == i) e.value (coefficient_in es i)
coefficient_in-push low rows [] e i h l = refl
coefficient_in-push low rows (f ∷ es) e i h l = elim (cases_eq f.row i) [
  | inl s ↦ (let ne : e.row ≢ i = omega (arith, h.1) in rw (eq-eqb f.row i s, ne_eqb e.row i ne) refl)
  | inr ne ↦ rw (ne_eqb f.row i ne) (coefficient_in-push (suc f.row) rows es e i h.3 l)
]

wider : (low rows more : ℕ) (es : List Entry) → rows ≤ more → AreEntries low rows es → AreEntries low more es
wider low rows more [] l h = tt
wider low rows more (e ∷ es) l h = (h.0, omega (arith, h.1), h.2, wider (suc e.row) rows more es l h.3)

none_there : (rows k : ℕ) (es : List Entry) → AreEntries 0 rows es → rows ≤ k → coefficient_in es k ≡ pos 0
none_there rows k es h l = (let r = row_after-rows 0 rows es (length es) (omega arith) h in none_behind 0 rows es k h (omega arith))

module _ (r : ℕ) (f g : ℕ → ℤ) (es : List Entry) (h : IsColumnOf r f es) (others : (i : ℕ) → i ≢ r → g i ≡ f i) where
  -- one row more, where the number is 0
  pub grown_same : g r ≡ pos 0 → IsColumnOf (r + 1) g es
  grown_same z = record {
    entries = wider 0 r (r + 1) es (omega arith) h.entries;
    light = (let l = h.light in omega arith);
    values = λ i. elim (cases_eq i r) [
      | inl s ↦ subst (λ k. coefficient_in es k ≡ g k) (sym s) (none_there r r es h.entries (omega arith) ∙ sym z)
      | inr ne ↦ h.values i ∙ sym (others i ne)
    ];
  }

  -- and where it isn't
  pub grown_push : (z : ℤ) → g r ≡ z → z ≢ pos 0 → unsigned_abs z ≤ 2147483648 → IsColumnOf (r + 1) g (es ++ entry r z ∷ [])
  grown_push z e nz s = record {
    entries = AreEntries-push 0 (r + 1) es (entry r z) (wider 0 r (r + 1) es (omega arith) h.entries) (let a = row_after-rows 0 r es (length es) (omega arith) h.entries in omega arith) (omega arith) nz;
    light = (let w = sum_by_push (λ (x : Entry). unsigned_abs x.value) es (entry r z) in let l = h.light in omega arith);
    values = λ i. coefficient_in-push 0 r es (entry r z) i h.entries (omega arith) ∙ elim (cases_eq i r) [
      | inl q ↦ rw (eq-eqb r i (sym q)) (sym (ap g q ∙ e))
      | inr ne ↦ (let ne' : r ≢ i = omega arith in rw (ne_eqb r i ne') (h.values i ∙ sym (others i ne)))
    ];
  }

  -- either way
  pub grown : (z : ℤ) → g r ≡ z → unsigned_abs z ≤ 2147483648 → IsColumnOf (r + 1) g (with_entry r z es)
  grown z e s = by (int_eq z (pos 0)) refl
    where
      by : (b : Bool) → int_eq z (pos 0) ≡ b → IsColumnOf (r + 1) g (if b then es else es ++ entry r z ∷ [])
      by true q = grown_same (e ∙ (Decides-int_eq z (pos 0)).0 q)
      by false q = grown_push z e (λ h. both_ways (int_eq z (pos 0)) q ((Decides-int_eq z (pos 0)).1 h)) s

-- ---- the numbers below a row
rows_below-there : (r : ℕ) (f : ℕ → ℤ) → rows_below (r + 1) f r ≡ f r
rows_below-there r f = (let l : r < r + 1 = omega arith in rw (lt-ltb r (r + 1) l) refl)

rows_below-others : (r : ℕ) (f : ℕ → ℤ) (i : ℕ) → i ≢ r → rows_below (r + 1) f i ≡ rows_below r f i
rows_below-others r f i ne = elim (cases_lt i r) [
  | inl l ↦ (let k : i < r + 1 = omega arith in rw (lt-ltb i r l, lt-ltb i (r + 1) k) refl)
  | inr l ↦ (let k : r + 1 ≤ i = omega arith in rw (le-ltb i r l, le-ltb i (r + 1) k) refl)
]

pub none_yet : (f : ℕ → ℤ) → IsColumnOf 0 (rows_below 0 f) []
none_yet f = record { entries = tt; light = omega arith; values = λ i. (let l : 0 ≤ i = omega arith in rw (le-ltb i 0 l) refl) }

pub row_more : (r : ℕ) (f : ℕ → ℤ) (es : List Entry) (z : ℤ) → f r ≡ z → unsigned_abs z ≤ 2147483648 → IsColumnOf r (rows_below r f) es → IsColumnOf (r + 1) (rows_below (r + 1) f) (with_entry r z es)
row_more r f es z e s h = grown r (rows_below r f) (rows_below (r + 1) f) es h (rows_below-others r f) z (rows_below-there r f ∙ e) s

pub rows_done : (n r : ℕ) (f : ℕ → ℤ) (es : List Entry) → r ≤ n → ((i : ℕ) → r ≤ i → f i ≡ pos 0) → IsColumnOf r (rows_below r f) es → IsColumnOf n (rows_below n f) es
rows_done n r f es l z h = record {
  entries = wider 0 r n es l h.entries;
  light = (let k = h.light in omega arith);
  values = λ i. h.values i ∙ elim (cases_lt i r) [
    | inl a ↦ (let b : i < n = omega arith in rw (lt-ltb i r a, lt-ltb i n b) refl)
    | inr a ↦ rw (le-ltb i r a) (elim (cases_lt i n) [
      | inl b ↦ rw (lt-ltb i n b) (sym (z i a))
      | inr b ↦ rw (le-ltb i n b) refl
    ])
  ];
}

-- ---- of an atom
pub coefficient_small : (xs : List ℤ) (i : ℕ) (d : ℤ) → i < length xs → AllFit xs → unsigned_abs (slice_index_or xs i d) ≤ 2147483648
coefficient_small [] i d l h = absurd (omega arith)
coefficient_small (x ∷ xs) zero d l h = omega (arith, h.0)
coefficient_small (x ∷ xs) (suc i) d l h = coefficient_small xs i d (omega arith) h.1

pub places_done : (n r : ℕ) (a : Atom) (es : List Entry) → IsAtom n a → length a.coefs ≤ r → r ≤ length a.coefs → IsColumnOf r (rows_below r (coefficient_of a)) es → IsColumnOf n (place_numbers n a) es
places_done n r a es h l k c = rows_done n r (coefficient_of a) es (omega (arith, h.few)) (λ i m. get_or_past a.coefs i (pos 0) (omega arith)) c

constant-others : (n : ℕ) (a : Atom) (i : ℕ) → i ≢ n → column_numbers n a i ≡ place_numbers n a i
constant-others n a i ne = rw (ne_eqb i n ne) refl

constant-there : (n : ℕ) (a : Atom) → column_numbers n a n ≡ a.c0
constant-there n a = rw (eq-eqb n n refl) refl

pub constant_more : (n : ℕ) (a : Atom) (es : List Entry) → unsigned_abs a.c0 ≤ 2147483648 → IsColumnOf n (place_numbers n a) es → IsColumnOf (n + 1) (column_numbers n a) (with_entry n a.c0 es)
constant_more n a es s h = grown n (place_numbers n a) (column_numbers n a) es h (constant-others n a) a.c0 (constant-there n a) s
