-- Sums over the items of a sparse vector are those over the whole vector, value and fit.
use Rattle.std.specs.Prelude.{◌≡◌, ℕ, zero, suc, ◌+◌, ◌-◌, ◌≤◌, ◌<◌, cond, List, [], ◌∷◌, length, All, ℤ, pos, Option, Some, None}
use Rattle.std.specs.Option.{option_and_then}
use Rattle.std.proofs.Common.{refl, sym, ◌∙◌, ap, ap₂, arith, inr, drop, drop-cons, get_or, zero-add, suc-add, add-one}
use Rattle.std.proofs.lemmas.Bool.{eq-eqb, ne_eqb}
use Rattle.std.proofs.lemmas.List.{drop_all}
use Rattle.dc_math.specs.Rational.{ℚ, of_ℤ}
use Rattle.dc_frac.specs.declared.Frac.{Frac}
use Rattle.dc_frac.specs.Value.{value}
use Rattle.dc_lp.specs.Folds.{added, folded}
use Rattle.dc_lp.proofs.FoldSums.{folded-fits, added-none, zero-term}
use Rattle.dc_lp.proofs.Folding.{folded-none}
use Rattle.dc_cert.specs.declared.sparse.Item.{Item}
use Rattle.dc_cert.specs.Vectors.{AreItems, IsBelow, entry_after, entry_of}
use Rattle.dc_cert.proofs.Returned.{entry-before}
pub use Rattle.dc_clauses.specs.Items.{items_sum}

-- ---- folds that agree below n
pub folded_same : (n : ℕ) (a b : ℕ → ℤ) (x y : ℕ → ℚ) → ((k : ℕ) → k < n → a k ≡ b k) → ((k : ℕ) → k < n → x k ≡ y k) → folded n a x ≡ folded n b y
unfolding folded
folded_same zero a b x y h g = refl
folded_same (suc n) a b x y h g =
    ap (λ o. option_and_then (λ s. added s (a n) (x n)) o) (folded_same n a b x y (λ k l. h k (omega arith)) (λ k l. g k (omega arith)))
    ∙ ap₂ (λ c z. option_and_then (λ s. added s c z) (folded n b y)) (h n (omega arith)) (g n (omega arith))

-- ---- numbers that are 0 add nothing
pub folded-step : (n : ℕ) (a : ℕ → ℤ) (x : ℕ → ℚ) → folded (suc n) a x ≡ option_and_then (λ s. added s (a n) (x n)) (folded n a x)
unfolding folded
folded-step n a x = refl

skips : (n : ℕ) (a : ℕ → ℤ) (x : ℕ → ℚ) (o : Option ℚ) → folded n a x ≡ o → x n ≡ of_ℤ (pos 0) → option_and_then (λ s. added s (a n) (x n)) o ≡ o
skips n a x None e z = refl
skips n a x (Some s) e z = added-none s (a n) (x n) (zero-term (a n) (x n) (inr z)) (folded-fits n a x s e)

folded-over : (n m : ℕ) (a : ℕ → ℤ) (x : ℕ → ℚ) → ((k : ℕ) → n ≤ k → k < m + n → x k ≡ of_ℤ (pos 0)) → folded (m + n) a x ≡ folded n a x
folded-over n zero a x z = rw (zero-add n) refl
folded-over n (suc m) a x z =
    rw (suc-add m n, folded-step (m + n) a x, skips (m + n) a x (folded (m + n) a x) refl (z (m + n) (omega arith) (omega arith)))
    (folded-over n m a x (λ k l h. z k l (omega arith)))

pub folded-zeros : (n m : ℕ) (a : ℕ → ℤ) (x : ℕ → ℚ) → n ≤ m → ((k : ℕ) → n ≤ k → k < m → x k ≡ of_ℤ (pos 0)) → folded m a x ≡ folded n a x
folded-zeros n m a x l z =
    let k : (m - n) + n ≡ m = omega arith in
    ap (λ i. folded i a x) (sym k) ∙ folded-over n (m - n) a x (λ i li h. z i li (omega arith))

-- ---- the sum over items, from a sum on
pub items_sum-none : (a : ℕ → ℤ) (is : List Item) → items_sum a None is ≡ None
items_sum-none a [] = refl
items_sum-none a (i ∷ is) = items_sum-none a is

-- items from `low` on, over a vector x that has their values there
summed : (low n : ℕ) (a : ℕ → ℤ) (x : ℕ → ℚ) (is : List Item) → AreItems low is → All (IsBelow n) is → low ≤ n → ((k : ℕ) → low ≤ k → k < n → x k ≡ entry_of is k)
    → items_sum a (folded low a x) is ≡ folded n a x
summed low n a x [] h b l e = sym (folded-zeros low n a x l (λ k g f. e k g f))
summed low n a x (i ∷ is) h b l e =
    let inside : i.index < n = b 0 i (omega arith) in
    let gap : folded i.index a x ≡ folded low a x = folded-zeros low i.index a x h.0 (λ k g f. e k g (omega arith) ∙ before k f) in
    let here : x i.index ≡ value i.value = e i.index h.0 inside ∙ ap (λ t. entry_after (cond t (value i.value) (of_ℤ (pos 0))) is i.index) (eq-eqb i.index i.index refl) ∙ entry-before (value i.value) i.index (suc i.index) is h.2 (omega arith) in
    ap (λ o. items_sum a o is) (ap (option_and_then (λ t. added t (a i.index) (value i.value))) (sym gap) ∙ ap (λ z. option_and_then (λ t. added t (a i.index) z) (folded i.index a x)) (sym here) ∙ sym (folded-step i.index a x))
    ∙ summed (suc i.index) n a x is h.2 (λ k d g. b (suc k) d (omega arith)) inside (λ k g f. e k (omega (arith, h.0)) f ∙ behind k g)
  where
    before : (k : ℕ) → k < i.index → entry_of (i ∷ is) k ≡ of_ℤ (pos 0)
    before k f = entry-before (of_ℤ (pos 0)) k i.index (i ∷ is) (omega arith, h.1, h.2) f

    behind : (k : ℕ) → suc i.index ≤ k → entry_of (i ∷ is) k ≡ entry_of is k
    behind k g = ap (λ t. entry_after (cond t (value i.value) (of_ℤ (pos 0))) is k) (ne_eqb i.index k (λ q. omega arith))

-- the sum over all items is that over the whole vector
pub items_sum-folded : (n : ℕ) (a : ℕ → ℤ) (is : List Item) → AreItems 0 is → All (IsBelow n) is → items_sum a (Some (of_ℤ (pos 0))) is ≡ folded n a (entry_of is)
items_sum-folded n a is h b =
    ap (λ o. items_sum a o is) (sym (folded-none a (entry_of is))) ∙ summed 0 n a (entry_of is) is h b (omega arith) (λ k l f. refl)

-- ---- item by item
pub sum_starts : (a : ℕ → ℤ) (is : List Item) (s : Frac) → value s ≡ of_ℤ (pos 0) → items_sum a (Some (value s)) is ≡ items_sum a (Some (of_ℤ (pos 0))) is
sum_starts a is s e = ap (λ x. items_sum a (Some x) is) e

one_item : (a : ℕ → ℤ) (is : List Item) (k : ℕ) (i : Item) (s : ℚ) (z : ℤ) (o : Option ℚ) → k < length is → i ≡ get_or is k i → z ≡ a i.index → o ≡ added s z (value i.value)
    → items_sum a (Some s) (drop k is) ≡ items_sum a o (drop (k + 1) is)
one_item a is k i s z o l e f g =
    ap (items_sum a (Some s)) (drop-cons is k i l ∙ ap (λ y. y ∷ drop (suc k) is) (sym e))
    ∙ ap (λ y. items_sum a y (drop (suc k) is)) (ap (λ w. added s w (value i.value)) (sym f) ∙ sym g)
    ∙ ap (λ j. items_sum a o (drop j is)) (sym (add-one k))

pub sum_more : (a : ℕ → ℤ) (is : List Item) (k : ℕ) (i : Item) (s t : Frac) (z : ℤ) (r : Option ℚ) → k < length is → i ≡ get_or is k i → z ≡ a i.index → Some (value t) ≡ added (value s) z (value i.value)
    → items_sum a (Some (value s)) (drop k is) ≡ r → items_sum a (Some (value t)) (drop (k + 1) is) ≡ r
sum_more a is k i s t z r l e f g h = sym (one_item a is k i (value s) z (Some (value t)) l e f g) ∙ h

pub sum_past : (a : ℕ → ℤ) (is : List Item) (k : ℕ) (i : Item) (s : Frac) (z : ℤ) (r : Option ℚ) → k < length is → i ≡ get_or is k i → z ≡ a i.index → None ≡ added (value s) z (value i.value)
    → items_sum a (Some (value s)) (drop k is) ≡ r → None ≡ r
sum_past a is k i s z r l e f g h = sym (items_sum-none a (drop (k + 1) is)) ∙ sym (one_item a is k i (value s) z None l e f g) ∙ h

pub sum_ends : (a : ℕ → ℤ) (is : List Item) (k : ℕ) (s : ℚ) (r : Option ℚ) → length is ≤ k → items_sum a (Some s) (drop k is) ≡ r → Some s ≡ r
sum_ends a is k s r l h = sym (ap (items_sum a (Some s)) (drop_all k is l)) ∙ h
