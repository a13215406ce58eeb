-- The value of a polynomial by the values of the monomials of an ordered list.
use Rattle.std.specs.Prelude.{◌≡◌, Bool, true, false, cond, List, [], ◌∷◌, map, AllPairs, ℤ, pos, ◌+ℤ◌, ◌*ℤ◌, refl}
use Rattle.std.specs.List.{AllByRecursion}
use Rattle.std.proofs.Common.{sym, ◌∙◌, ap, ap₂, subst}
use Rattle.dc_math.specs.Members.{Among, head, tail, each_among, none_among}
use Rattle.dc_math.specs.WholeRing.{ring, reads, read_nat, same_form}
use Rattle.dc_math.specs.WholeVectors.{dot_ℤ}
use Rattle.dc_math.specs.OrderedLists.{Ordered, ordered_pairs}
use Rattle.dc_poly.specs.declared.monomial.Term.{Term}
use Rattle.dc_poly.specs.Terms.{Exponents, TermList, mono_value, value, same_mono, coef, Before}
use Rattle.dc_poly.proofs.Graded.{Before-not}
use Rattle.dc_poly.proofs.Canon.{same_mono_refl, same_mono_is}

-- the sum over a list of monomials of a number times the monomial's value
abbrev total : (Exponents → ℤ) → List Exponents → List ℤ → ℤ
total f ms xs = dot_ℤ (map f ms) (map (λ m. mono_value m xs) ms)

total-add : (f g : Exponents → ℤ) (ms : List Exponents) (xs : List ℤ) → total (λ m. f m +ℤ g m) ms xs ≡ total f ms xs +ℤ total g ms xs
total-add f g [] xs = refl
total-add f g (m ∷ ms) xs = shape (f m) (g m) (mono_value m xs) (total f ms xs) (total g ms xs) _ (total-add f g ms xs)
  where
    shape : (a b x y z w : ℤ) → w ≡ y +ℤ z → (a +ℤ b) *ℤ x +ℤ w ≡ (a *ℤ x +ℤ y) +ℤ (b *ℤ x +ℤ z)
    shape a b x y z w e = rw e (ring (a ∷ b ∷ x ∷ y ∷ z ∷ []) (λ ρ i j k l m. simp (i, j, k, l, m, reads) (same_form _ _ _ refl)))

total-zero : (ms : List Exponents) (xs : List ℤ) → total (λ m. pos 0) ms xs ≡ pos 0
total-zero [] xs = refl
total-zero (m ∷ ms) xs = shape (mono_value m xs) _ (total-zero ms xs)
  where
    shape : (x w : ℤ) → w ≡ pos 0 → pos 0 *ℤ x +ℤ w ≡ pos 0
    shape x w e = rw e (ring (x ∷ []) (λ ρ i. simp (i, read_nat ρ, reads) (same_form _ _ _ refl)))

-- c at the monomial k alone
abbrev only : Exponents → ℤ → Exponents → ℤ
only k c m = cond (same_mono k m) c (pos 0)

only-other : (k : Exponents) (c : ℤ) (m : Exponents) → ¬ (k ≡ m) → only k c m ≡ pos 0
only-other k c m h = by (same_mono k m) refl
  where
    by : (b : Bool) → same_mono k m ≡ b → cond b c (pos 0) ≡ pos 0
    by true q = absurd (h (same_mono_is k m q))
    by false q = refl

only-none : (k : Exponents) (c : ℤ) (ms : List Exponents) (xs : List ℤ) → AllByRecursion (Before k) ms → total (only k c) ms xs ≡ pos 0
only-none k c [] xs h = refl
only-none k c (m ∷ ms) xs h =
    shape (only k c m) (mono_value m xs) _ (only-other k c m (λ e. Before-not k (subst (λ z. Before k z) (sym e) h.0))) (only-none k c ms xs h.1)
  where
    shape : (a x w : ℤ) → a ≡ pos 0 → w ≡ pos 0 → a *ℤ x +ℤ w ≡ pos 0
    shape a x w d e = rw (d, e) (ring (x ∷ []) (λ ρ i. simp (i, read_nat ρ, reads) (same_form _ _ _ refl)))

only-one : (k : Exponents) (c : ℤ) (ms : List Exponents) (xs : List ℤ) → Ordered Before ms → Among k ms → total (only k c) ms xs ≡ c *ℤ mono_value k xs
only-one k c [] xs o i = none_among i
only-one k c (m ∷ ms) xs o head = shape c (mono_value k xs) (only k c k) _ (ap (λ b. cond b c (pos 0)) (same_mono_refl k)) (only-none k c ms xs o.0)
  where
    shape : (c x a w : ℤ) → a ≡ c → w ≡ pos 0 → a *ℤ x +ℤ w ≡ c *ℤ x
    shape c x a w d e = rw (d, e) (ring (c ∷ x ∷ []) (λ ρ i j. simp (i, j, read_nat ρ, reads) (same_form _ _ _ refl)))
only-one k c (m ∷ ms) xs o (tail i) =
    shape (mono_value m xs) (only k c m) _ (c *ℤ mono_value k xs)
    (only-other k c m (λ e. Before-not m (subst (λ z. Before m z) e (each_among (Before m) o.0 i)))) (only-one k c ms xs o.1 i)
  where
    shape : (x a w y : ℤ) → a ≡ pos 0 → w ≡ y → a *ℤ x +ℤ w ≡ y
    shape x a w y d e = rw (d, e) (ring (x ∷ y ∷ []) (λ ρ i j. simp (i, j, read_nat ρ, reads) (same_form _ _ _ refl)))

by_list : (p : TermList) (ms : List Exponents) (xs : List ℤ) → Ordered Before ms → AllByRecursion (λ (t : Term). Among t.mono ms) p → value p xs ≡ total (coef p) ms xs
by_list [] ms xs o h = sym (total-zero ms xs)
by_list (t ∷ p) ms xs o h =
    ap₂ ◌+ℤ◌ (sym (only-one t.mono t.coef ms xs o h.0)) (by_list p ms xs o h.1)
    ∙ sym (total-add (only t.mono t.coef) (coef p) ms xs)

pub by_monomials : (p : TermList) (ms : List Exponents) (xs : List ℤ) → AllPairs Before ms → AllByRecursion (λ (t : Term). Among t.mono ms) p
    → value p xs ≡ dot_ℤ (map (coef p) ms) (map (λ m. mono_value m xs) ms)
by_monomials p ms xs o h = by_list p ms xs (ordered_pairs Before ms o) h
