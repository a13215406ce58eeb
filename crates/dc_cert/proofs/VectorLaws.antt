-- Sparse and whole vectors agree.
use Rattle.std.specs.Prelude.{◌≡◌, ℕ, zero, suc, ◌+◌, ◌≤◌, ◌<◌, Bool, true, false, eqb, cond, List, [], ◌∷◌, ◌++◌, length, All, slice_index_or, pos, refl}
use Rattle.std.proofs.Common.{sym, ◌∙◌, ap, subst, arith, append_assoc, take, drop, drop-cons, get_or-set_other, get_or-set_same, ◌≢◌}
use Rattle.std.proofs.Math.ListN.{set}
use Rattle.std.proofs.lemmas.Bool.{eq-eqb, eqb-true, eqb-false, ne_eqb}
use Rattle.std.proofs.lemmas.List.{append-nil, drop_all, take_more}
use Rattle.dc_math.specs.Rational.{ℚ, of_ℤ}
use Rattle.dc_math.specs.Tests.{is_zero, eq_ℚ_true}
use Rattle.dc_frac.specs.declared.Frac.{Frac}
use Rattle.dc_frac.specs.Fits.{IsSmall}
use Rattle.dc_frac.specs.Value.{value}
use Rattle.dc_cert.specs.declared.sparse.Item.{Item}
use Rattle.dc_cert.specs.Vectors.{IsItem, AreItems, IsBelow, nonzero_from, entry_after, entry_of, KeepsEach}

pub entry-append : (x : ℚ) (is js : List Item) (k : ℕ) → entry_after x (is ++ js) k ≡ entry_after (entry_after x is k) js k
entry-append x [] js k = refl
entry-append x (i ∷ is) js k = entry-append (cond (eqb i.index k) (value i.value) x) is js k

-- ---- the items of a vector keep its values
kept-before : (x : ℚ) (m k : ℕ) (v : List Frac) → k < m → entry_after x (nonzero_from m v) k ≡ x
kept-before x m k [] h = refl
kept-before x m k (f ∷ v) h = by (kept-before x (suc m) k v (omega arith)) (is_zero (value f))
  where
    by : entry_after x (nonzero_from (suc m) v) k ≡ x → (b : Bool) → entry_after x (cond b (nonzero_from (suc m) v) ((record { index = m; value = f }) ∷ nonzero_from (suc m) v)) k ≡ x
    by r true = r
    by r false = ap (λ b. entry_after (cond b (value f) x) (nonzero_from (suc m) v) k) (ne_eqb m k (λ q. omega arith)) ∙ r

kept : (m j : ℕ) (v : List Frac) (d : Frac) → j < length v → entry_after (of_ℤ (pos 0)) (nonzero_from m v) (m + j) ≡ value (slice_index_or v j d)
kept m j [] d h = absurd (omega arith)
kept m zero (f ∷ v) d h = by (is_zero (value f)) refl
  where
    by : (b : Bool) → is_zero (value f) ≡ b → entry_after (of_ℤ (pos 0)) (cond b (nonzero_from (suc m) v) ((record { index = m; value = f }) ∷ nonzero_from (suc m) v)) (m + zero) ≡ value f
    by true e = kept-before (of_ℤ (pos 0)) (suc m) (m + zero) v (omega arith) ∙ sym (eq_ℚ_true (value f) (of_ℤ (pos 0)) e)
    by false e = ap (λ b. entry_after (cond b (value f) (of_ℤ (pos 0))) (nonzero_from (suc m) v) (m + zero)) (eq-eqb m (m + zero) (omega arith)) ∙ kept-before (value f) (suc m) (m + zero) v (omega arith)
kept m (suc j) (f ∷ v) d h =
    by (ap (λ k. entry_after (of_ℤ (pos 0)) (nonzero_from (suc m) v) k) (let q : m + suc j ≡ suc m + j = omega arith in q) ∙ kept (suc m) j v d (omega arith)) (is_zero (value f))
  where
    by : entry_after (of_ℤ (pos 0)) (nonzero_from (suc m) v) (m + suc j) ≡ value (slice_index_or v j d) → (b : Bool) → entry_after (of_ℤ (pos 0)) (cond b (nonzero_from (suc m) v) ((record { index = m; value = f }) ∷ nonzero_from (suc m) v)) (m + suc j) ≡ value (slice_index_or v j d)
    by r true = r
    by r false = ap (λ b. entry_after (cond b (value f) (of_ℤ (pos 0))) (nonzero_from (suc m) v) (m + suc j)) (ne_eqb m (m + suc j) (λ q. omega arith)) ∙ r

pub keeps_each : KeepsEach
keeps_each v k d h = ap (λ j. entry_of (nonzero_from 0 v) j) (let q : k ≡ 0 + k = omega arith in q) ∙ kept 0 k v d h

-- ---- items from one index on and below another
abbrev pub AreWithin : ℕ → ℕ → List Item → Type 0
AreWithin low high [] = low ≤ high
AreWithin low high (i ∷ is) = (low ≤ i.index) × IsItem i × AreWithin (suc i.index) high is

pub within-more : (low high : ℕ) (is : List Item) → AreWithin low high is → AreWithin low (high + 1) is
within-more low high [] h = omega arith
within-more low high (i ∷ is) h = (h.0, h.1, within-more (suc i.index) high is h.2)

pub within-append : (low high : ℕ) (is : List Item) (i : Item) → i.index ≡ high → IsItem i → AreWithin low high is → AreWithin low (high + 1) (is ++ i ∷ [])
within-append low high [] i e k h = (omega arith, k, omega arith)
within-append low high (j ∷ is) i e k h = (h.0, h.1, within-append (suc j.index) high is i e k h.2)

pub within_items : (low high : ℕ) (is : List Item) → AreWithin low high is → AreItems low is
within_items low high [] h = tt
within_items low high (i ∷ is) h = (h.0, h.1, within_items (suc i.index) high is h.2)

-- ---- one value more
pub nonzero_step : (v : List Frac) (k : ℕ) (f : Frac) → k < length v → f ≡ slice_index_or v k f
    → nonzero_from k (drop k v) ≡ cond (is_zero (value f)) (nonzero_from (k + 1) (drop (k + 1) v)) ((record { index = k; value = f }) ∷ nonzero_from (k + 1) (drop (k + 1) v))
nonzero_step v k f h e =
    ap (nonzero_from k) (drop-cons v k f h) ∙ ap (λ g. nonzero_from k (g ∷ drop (suc k) v)) (sym e)
    ∙ ap (λ j. cond (is_zero (value f)) (nonzero_from j (drop j v)) ((record { index = k; value = f }) ∷ nonzero_from j (drop j v))) (let q : suc k ≡ k + 1 = omega arith in q)

pub keep_zero : (v : List Frac) (k : ℕ) (f : Frac) (is js w : List Item) → k < length v → f ≡ slice_index_or v k f → is_zero (value f) ≡ true → js ≡ is
    → is ++ nonzero_from k (drop k v) ≡ w → js ++ nonzero_from (k + 1) (drop (k + 1) v) ≡ w
keep_zero v k f is js w h e z d g =
    ap (λ l. l ++ nonzero_from (k + 1) (drop (k + 1) v)) d ∙ ap (λ l. is ++ l) (sym (nonzero_step v k f h e ∙ ap (λ b. cond b (nonzero_from (k + 1) (drop (k + 1) v)) ((record { index = k; value = f }) ∷ nonzero_from (k + 1) (drop (k + 1) v))) z)) ∙ g

pub keep_value : (v : List Frac) (k : ℕ) (f : Frac) (is js w : List Item) → k < length v → f ≡ slice_index_or v k f → is_zero (value f) ≡ false → js ≡ is ++ (record { index = k; value = f }) ∷ []
    → is ++ nonzero_from k (drop k v) ≡ w → js ++ nonzero_from (k + 1) (drop (k + 1) v) ≡ w
keep_value v k f is js w h e z d g =
    ap (λ l. l ++ nonzero_from (k + 1) (drop (k + 1) v)) d ∙ append_assoc is ((record { index = k; value = f }) ∷ []) (nonzero_from (k + 1) (drop (k + 1) v))
    ∙ ap (λ l. is ++ l) (sym (nonzero_step v k f h e ∙ ap (λ b. cond b (nonzero_from (k + 1) (drop (k + 1) v)) ((record { index = k; value = f }) ∷ nonzero_from (k + 1) (drop (k + 1) v))) z)) ∙ g

pub keep_end : (v : List Frac) (k : ℕ) (is w : List Item) → length v ≤ k → is ++ nonzero_from k (drop k v) ≡ w → is ≡ w
keep_end v k is w h g = sym (append-nil is) ∙ ap (λ l. is ++ nonzero_from k l) (sym (drop_all k v h)) ∙ g

pub within_value : (v : List Frac) (k : ℕ) (f : Frac) (x : Item) (is js : List Item) → k < length v → is_zero (value f) ≡ false → x ≡ (record { index = k; value = f }) → IsSmall f.den → js ≡ is ++ x ∷ []
    → (length v ≤ 8192 → AreWithin 0 k is) → length v ≤ 8192 → AreWithin 0 (k + 1) js
within_value v k f x is js h z e s d w l =
    subst (AreWithin 0 (k + 1)) (sym (d ∙ ap (λ y. is ++ y ∷ []) e)) (within-append 0 k is (record { index = k; value = f }) refl (record { low = omega arith; nonzero = z; small = s }) (w l))

pub within_same : (k n : ℕ) (is js : List Item) → js ≡ is → (n ≤ 8192 → AreWithin 0 k is) → n ≤ 8192 → AreWithin 0 (k + 1) js
within_same k n is js e w l = subst (AreWithin 0 (k + 1)) (sym e) (within-more 0 k is (w l))

pub below_at : (is js : List Item) (n k : ℕ) (i : Item) → All (IsBelow n) is → js ≡ is → k < length js → i ≡ slice_index_or js k i → i.index < n
below_at is js n k i a e h q = subst (λ (x : Item). x.index < n) (sym q) (subst (All (IsBelow n)) (sym e) a k i h)

-- ---- one item written
pub write_item : (v w : List Frac) (is : List Item) (n k : ℕ) (i : Item) → k < length is → i.index < length v → i ≡ slice_index_or is k i → w ≡ set v i.index i.value → length v ≡ n
    → ((j : ℕ) (d : Frac) → j < n → value (slice_index_or v j d) ≡ entry_of (take k is) j) → (j : ℕ) (d : Frac) → j < n → value (slice_index_or w j d) ≡ entry_of (take (k + 1) is) j
write_item v w is n k i h g e q l f j d b =
    ap (λ x. value (slice_index_or x j d)) q ∙ by (eqb i.index j) refl
    ∙ sym (ap (λ x. entry_of x j) (take_more is k i h ∙ ap (λ x. take k is ++ x ∷ []) (sym e)) ∙ entry-append (of_ℤ (pos 0)) (take k is) (i ∷ []) j)
  where
    by : (t : Bool) → eqb i.index j ≡ t → value (slice_index_or (set v i.index i.value) j d) ≡ entry_after (entry_of (take k is) j) (i ∷ []) j
    by true s =
        let m : i.index ≡ j = eqb-true i.index j s in
        ap (λ y. value y) (subst (λ y. slice_index_or (set v i.index i.value) y d ≡ i.value) m (get_or-set_same v i.index i.value d g)) ∙ sym (ap (λ y. cond y (value i.value) (entry_of (take k is) j)) s)
    by false s =
        let m : j ≢ i.index = (λ y. eqb-false i.index j s (sym y)) in
        ap (λ y. value y) (get_or-set_other v i.index j i.value d m) ∙ f j d b ∙ sym (ap (λ y. cond y (value i.value) (entry_of (take k is) j)) s)
