-- Products do not depend on the order of their factors.
use Rattle.std.specs.Prelude.{◌≡◌, ◌⊎◌, ℕ, zero, suc, ◌≤◌, ◌<◌, Bool, true, false, cond, leb, List, [], ◌∷◌, map, length, ℤ, pos, ◌*ℤ◌, ◌≤ℤ◌, refl}
use Rattle.std.specs.List.{AllByRecursion, swap}
use Rattle.std.specs.List.Sorted.{IsPermutation}
use Rattle.std.proofs.Common.{sym, ◌∙◌, ap, ap₂, arith, inl, inr, get_or, set}
use Rattle.std.proofs.lemmas.Bool.{and_parts, leb-true, leb-false}
use Rattle.std.proofs.lemmas.Int.{ints}
use Rattle.std.proofs.lemmas.List.{set-get_or}
use Rattle.std.proofs.lemmas.List.Edits.{swap_is}
use Rattle.std.proofs.lemmas.List.Sorted.{IsPermutation-refl, IsPermutation-trans, IsPermutation-cons, IsPermutation-middle, IsPermutation-keeps, length_permutation}
use Rattle.dc_math.specs.Members.{Among, among_image}
use Rattle.dc_math.specs.WholeRing.{ring, reads, same_form}
use Rattle.dc_poly.specs.Terms.{Polynomial, polynomial, value, Canonical, Places}
use Rattle.dc_poly.specs.Sums.{constant, product_of, constant_of, variable_of, times}
use Rattle.dc_poly.proofs.Values.{Canonical-constant, Canonical-times}
use Rattle.dc_poly.proofs.Padded.{Places-constant, Places-variable, Places-plus, Places-times}
use Rattle.dc_poly.proofs.Unique.{values_unique}
use Rattle.dc_affine.specs.declared.atom.Atom.{Atom}
use Rattle.dc_affine.specs.Atoms.{atom_value, holds_at, all_hold}
use Rattle.dc_affine.proofs.TableLaws.{le_of}
use Rattle.dc_handelman.specs.Choices.{Choice, Rises, choices_of}
use Rattle.dc_handelman.specs.Products.{linear_of, form_of, factor_at, times_choice, product_at, products_of, atom_at, choice_value, FactorsHold, HoldTogether, OrderIsFree, EachIsSorted, EachProductStands}
use Rattle.dc_handelman.proofs.Listed.{are_choices}
use Rattle.dc_handelman.proofs.Values.{have_values, stay_above_zero}

-- ---- products of numbers
product : (ℕ → ℤ) → List ℕ → ℤ
product f [] = pos 1
product f (i ∷ c) = f i *ℤ product f c

-- without the element at i
beside : (ℕ → ℤ) → List ℕ → ℕ → ℤ
beside f [] i = pos 1
beside f (x ∷ c) zero = product f c
beside f (x ∷ c) (suc i) = f x *ℤ beside f c i

beside-set : (f : ℕ → ℤ) (c : List ℕ) (i a : ℕ) → i < length c → product f (set c i a) ≡ f a *ℤ beside f c i
unfolding product beside
beside-set f [] i a h = absurd (omega arith)
beside-set f (x ∷ c) zero a h = refl
beside-set f (x ∷ c) (suc i) a h = turn (f x) (f a) (beside f c i) _ (beside-set f c i a (omega arith))
  where
    turn : (x a b z : ℤ) → z ≡ a *ℤ b → x *ℤ z ≡ a *ℤ (x *ℤ b)
    turn x a b z e = rw e (ring (x ∷ a ∷ b ∷ []) (λ ρ i j k. simp (i, j, k, reads) (same_form _ _ _ refl)))

-- without the elements at i and j
apart : (ℕ → ℤ) → List ℕ → ℕ → ℕ → ℤ
apart f [] i j = pos 1
apart f (x ∷ c) zero zero = pos 1
apart f (x ∷ c) zero (suc j) = beside f c j
apart f (x ∷ c) (suc i) zero = beside f c i
apart f (x ∷ c) (suc i) (suc j) = f x *ℤ apart f c i j

apart-set : (f : ℕ → ℤ) (c : List ℕ) (i j a b : ℕ) → ¬ (i ≡ j) → i < length c → j < length c → product f (set (set c i a) j b) ≡ (f a *ℤ f b) *ℤ apart f c i j
unfolding product beside apart
apart-set f [] i j a b n h k = absurd (omega arith)
apart-set f (x ∷ c) zero zero a b n h k = absurd (n refl)
apart-set f (x ∷ c) zero (suc j) a b n h k = turn (f a) (f b) (beside f c j) _ (beside-set f c j b (omega arith))
  where
    turn : (a b r z : ℤ) → z ≡ b *ℤ r → a *ℤ z ≡ (a *ℤ b) *ℤ r
    turn a b r z e = rw e (ring (a ∷ b ∷ r ∷ []) (λ ρ i j k. simp (i, j, k, reads) (same_form _ _ _ refl)))
apart-set f (x ∷ c) (suc i) zero a b n h k = turn (f a) (f b) (beside f c i) _ (beside-set f c i a (omega arith))
  where
    turn : (a b r z : ℤ) → z ≡ a *ℤ r → b *ℤ z ≡ (a *ℤ b) *ℤ r
    turn a b r z e = rw e (ring (a ∷ b ∷ r ∷ []) (λ ρ i j k. simp (i, j, k, reads) (same_form _ _ _ refl)))
apart-set f (x ∷ c) (suc i) (suc j) a b n h k = turn (f x) (f a) (f b) (apart f c i j) _ (apart-set f c i j a b (λ e. n (ap suc e)) (omega arith) (omega arith))
  where
    turn : (x a b r z : ℤ) → z ≡ (a *ℤ b) *ℤ r → x *ℤ z ≡ (a *ℤ b) *ℤ (x *ℤ r)
    turn x a b r z e = rw e (ring (x ∷ a ∷ b ∷ r ∷ []) (λ ρ h i j k. simp (h, i, j, k, reads) (same_form _ _ _ refl)))

product-swap : (f : ℕ → ℤ) (c : List ℕ) (i j : ℕ) → i < length c → j < length c → product f (swap c i j) ≡ product f c
product-swap f c i j h k = ap (product f) (sym (swap_is c i j 0 h k)) ∙ by (which i j)
  where
    which : (i j : ℕ) → (i ≡ j) ⊎ ¬ (i ≡ j)
    which zero zero = inl refl
    which zero (suc j) = inr (λ e. omega arith)
    which (suc i) zero = inr (λ e. omega arith)
    which (suc i) (suc j) = more (which i j)
      where
        more : (i ≡ j) ⊎ ¬ (i ≡ j) → (suc i ≡ suc j) ⊎ ¬ (suc i ≡ suc j)
        more (inl e) = inl (ap suc e)
        more (inr n) = inr (λ e. n (omega arith))

    by : (i ≡ j) ⊎ ¬ (i ≡ j) → product f (set (set c i (get_or c j 0)) j (get_or c i 0)) ≡ product f c
    by (inl e) =
        ap (λ m. product f (set (set c i (get_or c m 0)) m (get_or c i 0))) (sym e)
        ∙ ap (λ l. product f (set l i (get_or c i 0))) (set-get_or c i 0) ∙ ap (product f) (set-get_or c i 0)
    by (inr n) =
        apart-set f c i j (get_or c j 0) (get_or c i 0) n h k
        ∙ turn (f (get_or c j 0)) (f (get_or c i 0)) (apart f c i j)
        ∙ sym (apart-set f c i j (get_or c i 0) (get_or c j 0) n h k)
        ∙ ap (product f) (ap (λ l. set l j (get_or c j 0)) (set-get_or c i 0) ∙ set-get_or c j 0)
      where
        turn : (a b r : ℤ) → (a *ℤ b) *ℤ r ≡ (b *ℤ a) *ℤ r
        turn a b r = ring (a ∷ b ∷ r ∷ []) (λ ρ i j k. simp (i, j, k, reads) (same_form _ _ _ refl))

product-same : (f : ℕ → ℤ) (c d : List ℕ) → IsPermutation c d → product f d ≡ product f c
product-same f c d h = IsPermutation-keeps c (λ l. product f l ≡ product f c) refl (λ l i j p q e. product-swap f l i j p q ∙ e) d h

choice_product : (hyps : List Atom) (c : Choice) (xs : List ℤ) → choice_value hyps c xs ≡ product (λ i. atom_value (atom_at hyps i) xs) c
unfolding product
choice_product hyps [] xs = refl
choice_product hyps (i ∷ c) xs = ap (λ y. atom_value (atom_at hyps i) xs *ℤ y) (choice_product hyps c xs)

-- ---- products are lists in order, with one exponent for each place
linear_padded : (n at : ℕ) (cs : List ℤ) → Places n (linear_of n at cs).terms
linear_padded n at [] = Places-constant (pos 0) n
linear_padded n at (c ∷ cs) =
    Places-plus n (times (constant_of c n) (variable_of at n)) (linear_of n (suc at) cs).terms
    (Places-times n (constant_of c n) (variable_of at n) (Places-constant c n) (Places-variable at n)) (linear_padded n (suc at) cs)

form_padded : (n : ℕ) (a : Atom) → Places n (form_of n a).terms
form_padded n a = Places-plus n (constant_of a.c0 n) (linear_of n 0 a.coefs).terms (Places-constant a.c0 n) (linear_padded n 0 a.coefs)

factor_padded : (n : ℕ) (hyps : List Atom) (i : ℕ) → Places n (factor_at (map (form_of n) hyps) i).terms
factor_padded n [] i = tt
factor_padded n (a ∷ hyps) zero = form_padded n a
factor_padded n (a ∷ hyps) (suc i) = factor_padded n hyps i

choice_padded : (n : ℕ) (hyps : List Atom) (p : Polynomial) (c : Choice) → Places n p.terms → Places n (times_choice (map (form_of n) hyps) p c).terms
choice_padded n hyps p [] h = h
choice_padded n hyps p (i ∷ c) h =
    choice_padded n hyps (product_of p (factor_at (map (form_of n) hyps) i)) c
    (Places-times n p.terms (factor_at (map (form_of n) hyps) i).terms h (factor_padded n hyps i))

choice_canonical : (fs : List Polynomial) (p : Polynomial) (c : Choice) → Canonical p.terms → Canonical (times_choice fs p c).terms
choice_canonical fs p [] h = h
choice_canonical fs p (i ∷ c) h = choice_canonical fs (product_of p (factor_at fs i)) c (Canonical-times p.terms (factor_at fs i).terms)

choice_places : (fs : List Polynomial) (p : Polynomial) (c : Choice) → (times_choice fs p c).places ≡ p.places
choice_places fs p [] = refl
choice_places fs p (i ∷ c) = choice_places fs (product_of p (factor_at fs i)) c

pub order_is_free : OrderIsFree
order_is_free n hyps c d h e =
    ap₂ polynomial (choice_places fs one c ∙ sym (choice_places fs one d))
    (values_unique n (product_at n hyps c).terms (product_at n hyps d).terms
    (choice_canonical fs one c (Canonical-constant (pos 1) n)) (choice_canonical fs one d (Canonical-constant (pos 1) n))
    (choice_padded n hyps one c (Places-constant (pos 1) n)) (choice_padded n hyps one d (Places-constant (pos 1) n))
    (λ xs l. have_values n hyps c xs h ∙ choice_product hyps c xs
    ∙ sym (product-same (λ i. atom_value (atom_at hyps i) xs) c d e) ∙ sym (choice_product hyps d xs) ∙ sym (have_values n hyps d xs h)))
  where
    fs : List Polynomial
    fs = map (form_of n) hyps

    one : Polynomial
    one = constant (pos 1) n

-- ---- a choice in order
put : ℕ → Choice → Choice
put i [] = i ∷ []
put i (j ∷ c) = cond (leb i j) (i ∷ j ∷ c) (j ∷ put i c)

put-permutes : (i : ℕ) (c : Choice) → IsPermutation (i ∷ c) (put i c)
unfolding put
put-permutes i [] = IsPermutation-refl (i ∷ [])
put-permutes i (j ∷ c) = by (put-permutes i c) (leb i j)
  where
    by : IsPermutation (i ∷ c) (put i c) → (b : Bool) → IsPermutation (i ∷ j ∷ c) (cond b (i ∷ j ∷ c) (j ∷ put i c))
    by r true = IsPermutation-refl (i ∷ j ∷ c)
    by r false = IsPermutation-trans _ _ _ (IsPermutation-middle (i ∷ []) j c) (IsPermutation-cons j _ _ r)

put-rises : (n low i : ℕ) (c : Choice) → low ≤ i → i < n → Rises n low c → Rises n low (put i c)
unfolding put
put-rises n low i [] a b r = (a, b, tt)
put-rises n low i (j ∷ c) a b r = by (λ h. put-rises n j i c h b r.2) (leb i j) refl
  where
    by : (j ≤ i → Rises n j (put i c)) → (t : Bool) → leb i j ≡ t → Rises n low (cond t (i ∷ j ∷ c) (j ∷ put i c))
    by f true e = (a, b, (leb-true i j e, r.1, r.2))
    by f false e = (r.0, r.1, f (let q = leb-false i j e in omega arith))

sorted : Choice → Choice
sorted [] = []
sorted (i ∷ c) = put i (sorted c)

sorted-permutes : (c : Choice) → IsPermutation c (sorted c)
unfolding sorted
sorted-permutes [] = IsPermutation-refl []
sorted-permutes (i ∷ c) = IsPermutation-trans _ _ _ (IsPermutation-cons i _ _ (sorted-permutes c)) (put-permutes i (sorted c))

sorted-rises : (n : ℕ) (c : Choice) → AllByRecursion (λ i. i < n) c → Rises n 0 (sorted c)
unfolding sorted
sorted-rises n [] h = tt
sorted-rises n (i ∷ c) h = put-rises n 0 i (sorted c) (omega arith) h.0 (sorted-rises n c h.1)

sorted_stands : (n k : ℕ) (c : Choice) → length c ≤ k → AllByRecursion (λ i. i < n) c → Among (sorted c) (choices_of n k)
sorted_stands n k c l h = (are_choices n k).each (sorted c) (record {
  few = (let q = length_permutation c (sorted c) (sorted-permutes c) in omega arith);
  rises = sorted-rises n c h;
})

pub each_is_sorted : EachIsSorted
each_is_sorted n k c l h = (sorted c, sorted-permutes c, sorted_stands n k c l h)

pub each_product_stands : EachProductStands
each_product_stands n k hyps c a l h =
    among_image (product_at n hyps) (order_is_free n hyps c (sorted c) a (sorted-permutes c)) (sorted_stands (length hyps) k c l h)

-- ---- where all atoms hold
each_holds : (hyps : List Atom) (i : ℕ) (xs : List ℤ) → all_hold hyps xs ≡ true → pos 0 ≤ℤ atom_value (atom_at hyps i) xs
each_holds [] i xs h = omega (arith, ints)
each_holds (a ∷ hyps) zero xs h = le_of (pos 0) (atom_value a xs) (and_parts (holds_at a xs) (all_hold hyps xs) h).0
each_holds (a ∷ hyps) (suc i) xs h = each_holds hyps i xs (and_parts (holds_at a xs) (all_hold hyps xs) h).1

factors_hold : (hyps : List Atom) (c : Choice) (xs : List ℤ) → all_hold hyps xs ≡ true → FactorsHold hyps c xs
factors_hold hyps [] xs h = tt
factors_hold hyps (i ∷ c) xs h = (each_holds hyps i xs h, factors_hold hyps c xs h)

pub hold_together : HoldTogether
hold_together n k hyps xs a h = each (choices_of (length hyps) k)
  where
    each : (cs : List Choice) → AllByRecursion (λ (p : Polynomial). pos 0 ≤ℤ value p.terms xs) (map (product_at n hyps) cs)
    each [] = tt
    each (c ∷ cs) = (stay_above_zero n hyps c xs a (factors_hold hyps c xs h), each cs)
