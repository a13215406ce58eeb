-- Sums over the items of a sparse vector are those over the vector that it stands for.
use Rattle.std.specs.Prelude.{◌≡◌, ℕ, zero, suc, ◌≤◌, ◌<◌, cond, List, [], ◌∷◌, length, take, slice_get, ℤ, pos, Option, Some, None}
use Rattle.std.specs.Option.{option_and_then}
use Rattle.std.proofs.Common.{refl, sym, ◌∙◌, ap, arith}
use Rattle.std.proofs.lemmas.Bool.{eq-eqb, ne_eqb}
use Rattle.std.proofs.lemmas.Option.{same_Some}
use Rattle.dc_math.specs.Rational.{ℚ, of_ℤ}
use Rattle.dc_frac.specs.declared.Frac.{Frac}
use Rattle.dc_frac.specs.Value.{value}
use Rattle.dc_lp.specs.Folds.{numbers, added, folded}
use Rattle.dc_lp.proofs.FoldSums.{folded-fits, folded-sum}
use Rattle.dc_lp.proofs.Folding.{folded-none, numbers-at}
use Rattle.dc_cert.specs.declared.sparse.Item.{Item}
use Rattle.dc_cert.specs.declared.sparse.Sparse.{Sparse}
use Rattle.dc_cert.specs.Vectors.{AreItems, IsDense, entry_after, entry_of}
use Rattle.dc_cert.proofs.Returned.{entry-before}
use Rattle.dc_clauses.specs.Items.{items_sum, sum_over, SumsOverItems}
use Rattle.dc_clauses.proofs.Items.{folded_same, folded-zeros, folded-step, items_sum-folded}

nothing_some : (i : Item) → ◌≡◌ {A = Option Item} None (Some i) → ⊥
nothing_some i e = cc

before : (low : ℕ) (i : Item) (is : List Item) → AreItems low (i ∷ is) → (k : ℕ) → k < i.index → entry_of (i ∷ is) k ≡ of_ℤ (pos 0)
before low i is h k f = entry-before (of_ℤ (pos 0)) k i.index (i ∷ is) (omega arith, h.1, h.2) f

behind : (i : Item) (is : List Item) (k : ℕ) → suc i.index ≤ k → entry_of (i ∷ is) k ≡ entry_of is k
behind i is k g = ap (λ t. entry_after (cond t (value i.value) (of_ℤ (pos 0))) is k) (ne_eqb i.index k (λ q. omega arith))

there : (low : ℕ) (i : Item) (is : List Item) → AreItems low (i ∷ is) → entry_of (i ∷ is) i.index ≡ value i.value
there low i is h =
    ap (λ t. entry_after (cond t (value i.value) (of_ℤ (pos 0))) is i.index) (eq-eqb i.index i.index refl)
    ∙ entry-before (value i.value) i.index (suc i.index) is h.2 (omega arith)

first_sum : (low k : ℕ) (a : ℕ → ℤ) (x : ℕ → ℚ) (is : List Item) (i : Item) → AreItems low is → slice_get is k ≡ Some i → ((j : ℕ) → low ≤ j → x j ≡ entry_of is j)
    → items_sum a (folded low a x) (take k is) ≡ folded i.index a x
first_sum low k a x [] i h e f = absurd (nothing_some i e)
first_sum low zero a x (b ∷ is) i h e f =
    sym (folded-zeros low b.index a x h.0 (λ j l m. f j l ∙ before low b is h j m)) ∙ ap (λ (z : Item). folded z.index a x) (same_Some b i e)
first_sum low (suc k) a x (b ∷ is) i h e f =
    let gap : folded b.index a x ≡ folded low a x = folded-zeros low b.index a x h.0 (λ j l m. f j l ∙ before low b is h j m) in
    let here : x b.index ≡ value b.value = f b.index h.0 ∙ there low b is h in
    ap (λ o. items_sum a o (take k is)) (ap (option_and_then (λ t. added t (a b.index) (value b.value))) (sym gap) ∙ ap (λ z. option_and_then (λ t. added t (a b.index) z) (folded b.index a x)) (sym here) ∙ sym (folded-step b.index a x))
    ∙ first_sum (suc b.index) k a x is i h.2 e (λ j l. f j (omega (arith, h.0)) ∙ behind b is j l)

dense_same : (n : ℕ) (a : ℕ → ℤ) (s : Sparse) (v : List Frac) → IsDense n s v → folded n a (entry_of s.items) ≡ folded n a (numbers v)
dense_same n a s v d = folded_same n a a (entry_of s.items) (numbers v) (λ k l. refl) (λ k l. each k l v refl)
  where
    each : (k : ℕ) → k < n → (w : List Frac) → w ≡ v → entry_of s.items k ≡ numbers v k
    each k l [] e = absurd (let p = d.count in let q : 0 ≡ length v = ap length e in omega arith)
    each k l (f ∷ w) e = sym (d.entries k f l) ∙ sym (numbers-at v k f (let p = d.count in omega arith))

pub sums_over_items : SumsOverItems
sums_over_items n a s h b =
    let e : sum_over a s.items ≡ folded n a (entry_of s.items) = items_sum-folded n a s.items h b in
    record {
      all = e;
      dense = λ v d. e ∙ dense_same n a s v d;
      value = λ t g. record { value = folded-sum n a (entry_of s.items) t (sym e ∙ g); fits = folded-fits n a (entry_of s.items) t (sym e ∙ g) };
      first = λ k i g. ap (λ o. items_sum a o (take k s.items)) (sym (folded-none a (entry_of s.items))) ∙ first_sum 0 k a (entry_of s.items) s.items i h g (λ j l. refl);
    }
