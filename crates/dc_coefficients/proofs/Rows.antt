-- The entries of numbers by their rows.
use Rattle.std.specs.Prelude.{◌≡◌, ◌≢◌, ℕ, zero, suc, ◌+◌, ◌<◌, ◌≤◌, List, [], ◌∷◌, ◌++◌, map, length, ℤ, pos, negsuc, neg_ℤ, sum_by, unsigned_abs}
use Rattle.std.proofs.Common.{refl, sym, ◌∙◌, ap, ap₂, subst, arith, inl, inr, eq-eqb}
use Rattle.std.proofs.lemmas.Bool.{cases_eq, ne_eqb}
use Rattle.std.proofs.lemmas.Int.{ints}
use Rattle.std.proofs.lemmas.List.{append_assoc}
use Rattle.std.proofs.lemmas.List.Sums.{sum_by-cons}
use Rattle.dc_lp.specs.declared.Entry.{Entry}
use Rattle.dc_lp.specs.Problems.{coefficient_in, AreEntries, weight, whole_at}
use Rattle.dc_coefficients.specs.Entries.{entry, entry_at, entries_from}
use Rattle.dc_coefficients.specs.Laws.{EntriesHaveNumbers}

pub entries_from-++ : (r : ℕ) (ys zs : List ℤ) → entries_from r (ys ++ zs) ≡ entries_from r ys ++ entries_from (r + length ys) zs
entries_from-++ r [] zs = ap (λ k. entries_from k zs) (let e : r ≡ r + 0 = omega arith in e)
entries_from-++ r (y ∷ ys) zs =
    ap (λ q. entry_at r y ++ q) (entries_from-++ (suc r) ys zs ∙ ap (λ k. entries_from (suc r) ys ++ entries_from k zs) (let e : suc r + length ys ≡ r + length (y ∷ ys) = omega arith in e))
    ∙ sym (append_assoc (entry_at r y) (entries_from (suc r) ys) (entries_from (r + length (y ∷ ys)) zs))

-- ---- one number in front
lower : (r low rows : ℕ) (es : List Entry) → r ≤ low → AreEntries low rows es → AreEntries r rows es
lower r low rows [] l h = tt
lower r low rows (e ∷ es) l h = (omega (arith, h.0), h.1, h.2, h.3)

front_entries : (r rows : ℕ) (z : ℤ) (es : List Entry) → r < rows → AreEntries (suc r) rows es → AreEntries r rows (entry_at r z ++ es)
front_entries r rows (pos zero) es l h = lower r (suc r) rows es (omega arith) h
front_entries r rows (pos (suc n)) es l h = ((let e : r ≤ r = omega arith in e), l, (λ e. omega (arith, ints, e)), h)
front_entries r rows (negsuc n) es l h = ((let e : r ≤ r = omega arith in e), l, (λ e. cc), h)

front_weight : (r : ℕ) (z : ℤ) (es : List Entry) → weight (entry_at r z ++ es) ≡ unsigned_abs z + weight es
front_weight r (pos zero) es = sym (let e : 0 + weight es ≡ weight es = omega arith in e)
front_weight r (pos (suc n)) es = sum_by-cons (λ (e : Entry). unsigned_abs e.value) (entry r (pos (suc n))) es
front_weight r (negsuc n) es = sum_by-cons (λ (e : Entry). unsigned_abs e.value) (entry r (negsuc n)) es

front_here : (r : ℕ) (z : ℤ) (es : List Entry) → coefficient_in es r ≡ pos 0 → coefficient_in (entry_at r z ++ es) r ≡ z
front_here r (pos zero) es h = h
front_here r (pos (suc n)) es h = rw (eq-eqb r r refl) refl
front_here r (negsuc n) es h = rw (eq-eqb r r refl) refl

front_other : (r : ℕ) (z : ℤ) (es : List Entry) (i : ℕ) → r ≢ i → coefficient_in (entry_at r z ++ es) i ≡ coefficient_in es i
front_other r (pos zero) es i h = refl
front_other r (pos (suc n)) es i h = rw (ne_eqb r i h) refl
front_other r (negsuc n) es i h = rw (ne_eqb r i h) refl

-- ---- all
pub rising : (r rows : ℕ) (zs : List ℤ) → r + length zs ≤ rows → AreEntries r rows (entries_from r zs)
rising r rows [] l = tt
rising r rows (z ∷ zs) l = front_entries r rows z (entries_from (suc r) zs) (omega arith) (rising (suc r) rows zs (omega arith))

pub weight_is : (r : ℕ) (zs : List ℤ) → weight (entries_from r zs) ≡ sum_by unsigned_abs zs
weight_is r [] = refl
weight_is r (z ∷ zs) = front_weight r z (entries_from (suc r) zs) ∙ ap (λ n. unsigned_abs z + n) (weight_is (suc r) zs) ∙ sym (sum_by-cons unsigned_abs z zs)

pub none_before : (r : ℕ) (zs : List ℤ) (i : ℕ) → i < r → coefficient_in (entries_from r zs) i ≡ pos 0
none_before r [] i l = refl
none_before r (z ∷ zs) i l = front_other r z (entries_from (suc r) zs) i (omega arith) ∙ none_before (suc r) zs i (omega arith)

pub number_there : (r : ℕ) (zs : List ℤ) (i : ℕ) → coefficient_in (entries_from r zs) (r + i) ≡ whole_at zs i
number_there r [] i = refl
number_there r (z ∷ zs) zero =
    ap (coefficient_in (entries_from r (z ∷ zs))) (let e : r + 0 ≡ r = omega arith in e) ∙ front_here r z (entries_from (suc r) zs) (none_before (suc r) zs r (omega arith))
number_there r (z ∷ zs) (suc i) =
    front_other r z (entries_from (suc r) zs) (r + suc i) (omega arith)
    ∙ ap (coefficient_in (entries_from (suc r) zs)) (let e : r + suc i ≡ suc r + i = omega arith in e) ∙ number_there (suc r) zs i

pub entries_have_numbers : EntriesHaveNumbers
entries_have_numbers r zs = record {
  entries = rising r (r + length zs) zs (omega arith);
  weight = weight_is r zs;
  there = number_there r zs;
  before = none_before r zs;
}
