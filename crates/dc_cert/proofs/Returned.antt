-- The items of the vector that items stand for are these items.
use Rattle.std.specs.Prelude.{◌≡◌, ℕ, suc, ◌+◌, ◌≤◌, ◌<◌, Bool, true, false, eqb, cond, List, [], ◌∷◌, length, All, slice_index_or, pos, refl}
use Rattle.std.proofs.Common.{sym, ◌∙◌, ap, ap₂, subst, arith}
use Rattle.std.proofs.lemmas.Bool.{eq-eqb, eqb-true, eqb-false, ne_eqb}
use Rattle.dc_math.specs.Rational.{ℚ, of_ℤ}
use Rattle.dc_math.specs.Tests.{is_zero, eq_ℚ-true}
use Rattle.dc_frac.specs.declared.Frac.{Frac}
use Rattle.dc_frac.specs.Value.{value}
use Rattle.dc_frac.proofs.ValueLaws.{same_frac}
use Rattle.dc_cert.specs.declared.sparse.Item.{Item}
use Rattle.dc_cert.specs.Vectors.{AreItems, IsBelow, nonzero_from, entry_after, entry_of, ItemsReturn}

-- an index before the items has no entry
pub entry-before : (x : ℚ) (k low : ℕ) (is : List Item) → AreItems low is → k < low → entry_after x is k ≡ x
entry-before x k low [] h l = refl
entry-before x k low (i ∷ is) h l =
    ap (λ b. entry_after (cond b (value i.value) x) is k) (ne_eqb i.index k (λ e. let y = h.0 in omega arith)) ∙ entry-before x k (suc i.index) is h.2 (let y = h.0 in omega arith)

-- an item with another index changes no entry
entry-other : (i : Item) (is : List Item) (k : ℕ) → ¬ (i.index ≡ k) → entry_of (i ∷ is) k ≡ entry_of is k
entry-other i is k h = ap (λ b. entry_after (cond b (value i.value) (of_ℤ (pos 0))) is k) (ne_eqb i.index k h)

Agree : ℕ → List Frac → List Item → Type 0
Agree m v is = (j : ℕ) (d : Frac) → j < length v → value (slice_index_or v j d) ≡ entry_of is (m + j)

zero_first : (m : ℕ) (f : Frac) (v : List Frac) (is : List Item) → value f ≡ of_ℤ (pos 0) → nonzero_from (suc m) v ≡ is → nonzero_from m (f ∷ v) ≡ is
zero_first m f v is e r = ap (λ b. cond b (nonzero_from (suc m) v) ((record { index = m; value = f }) ∷ nonzero_from (suc m) v)) (eq_ℚ-true (value f) (of_ℤ (pos 0)) e) ∙ r

item_first : (m : ℕ) (f : Frac) (v : List Frac) (i : Item) (is : List Item) → i.index ≡ m → f ≡ i.value → is_zero (value i.value) ≡ false → nonzero_from (suc m) v ≡ is → nonzero_from m (f ∷ v) ≡ i ∷ is
item_first m f v i is e q z r =
    ap (λ b. cond b (nonzero_from (suc m) v) ((record { index = m; value = f }) ∷ nonzero_from (suc m) v)) (ap (λ x. is_zero (value x)) q ∙ z)
    ∙ ap₂ (λ (x : Item) l. x ∷ l) (same_item i m f e q) r
  where
    same_item : (i : Item) (m : ℕ) (f : Frac) → i.index ≡ m → f ≡ i.value → (record { index = m; value = f }) ≡ i
    same_item i m f e q = ap₂ (λ x y. record { index = x; value = y }) (sym e) q

later : (m : ℕ) (f : Frac) (v : List Frac) (is : List Item) → Agree m (f ∷ v) is → (j : ℕ) (d : Frac) → j < length v → value (slice_index_or v j d) ≡ entry_of is (suc m + j)
unfolding Agree
later m f v is a j d h = a (suc j) d (omega arith) ∙ ap (entry_of is) (let q : m + suc j ≡ suc m + j = omega arith in q)

first : (m : ℕ) (f : Frac) (v : List Frac) (is : List Item) → Agree m (f ∷ v) is → value f ≡ entry_of is m
unfolding Agree
first m f v is a = a 0 f (omega arith) ∙ ap (entry_of is) (let q : m + 0 ≡ m = omega arith in q)

data Where (m k : ℕ) : Type 0 where
  here : k ≡ m → Where m k
  behind : suc m ≤ k → Where m k

where_is : (m k : ℕ) → m ≤ k → Where m k
where_is m k h = by (eqb k m) refl
  where
    by : (b : Bool) → eqb k m ≡ b → Where m k
    by true e = here (eqb-true k m e)
    by false e = behind (let n = eqb-false k m e in omega (arith, n))

returned : (m : ℕ) (v : List Frac) (is : List Item) → AreItems m is → All (IsBelow (m + length v)) is → Agree m v is → nonzero_from m v ≡ is
unfolding Agree
returned m [] [] h b a = refl
returned m [] (i ∷ is) h b a = absurd (let x : i.index < m + 0 = b 0 i (omega arith) in let y = h.0 in omega arith)
returned m (f ∷ v) [] h b a = zero_first m f v [] (first m f v [] a) (returned (suc m) v [] tt (λ k d l. absurd (omega arith)) (later m f v [] a))
returned m (f ∷ v) (i ∷ is) h b a = by (where_is m i.index h.0) (λ js x y z. returned (suc m) v js x y z)
  where
    below : All (IsBelow (suc m + length v)) (i ∷ is)
    below k d l = subst (λ n. IsBelow n (slice_index_or (i ∷ is) k d)) (let q : m + suc (length v) ≡ suc m + length v = omega arith in q) (b k d l)

    by : Where m i.index → ((js : List Item) → AreItems (suc m) js → All (IsBelow (suc m + length v)) js → Agree (suc m) v js → nonzero_from (suc m) v ≡ js) → nonzero_from m (f ∷ v) ≡ i ∷ is
    by (here e) more =
        let one : value f ≡ value i.value =
        first m f v (i ∷ is) a ∙ ap (λ t. entry_after (cond t (value i.value) (of_ℤ (pos 0))) is m) (eq-eqb i.index m e) ∙ entry-before (value i.value) m (suc i.index) is h.2 (omega arith) in
        item_first m f v i is e (same_frac f i.value one) h.1.nonzero
        (more is (subst (λ n. AreItems (suc n) is) e h.2) (λ k d l. below (suc k) d (omega arith))
        (λ j d l. later m f v (i ∷ is) a j d l ∙ entry-other i is (suc m + j) (λ q. omega arith)))
    by (behind l) more =
        zero_first m f v (i ∷ is) (first m f v (i ∷ is) a ∙ entry-before (of_ℤ (pos 0)) m (suc m) (i ∷ is) (l, h.1, h.2) (omega arith))
        (more (i ∷ is) (l, h.1, h.2) below (later m f v (i ∷ is) a))

pub items_return : ItemsReturn
unfolding Agree
items_return n s v h b d =
    returned 0 v s.items h (subst (λ k. All (IsBelow k) s.items) (sym d.count ∙ (let q : length v ≡ 0 + length v = omega arith in q)) b)
    (λ j f l. d.entries j f (let e = d.count in omega arith) ∙ ap (entry_of s.items) (let q : j ≡ 0 + j = omega arith in q))
