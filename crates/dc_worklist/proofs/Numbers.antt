-- Rising lists of numbers.
use Rattle.std.proofs.Common.{◌≡◌, ℕ, ◌<◌, ◌≤◌, inl, inr, Bool, true, false, ◌||◌, eqb, List, [], ◌∷◌, refl, sym, ◌∙◌, ap, ap₂, subst, arith}
use Rattle.std.specs.List.{AllByRecursion}
use Rattle.std.proofs.lemmas.Bool.{cases_lt, cases_eq, both_ways, eq-eqb, ne_eqb, lt-ltb, le-ltb}
use Rattle.dc_worklist.specs.Listed.{Listed, is_listed, Rising, with_number}
use Rattle.dc_worklist.specs.Laws.{NumbersAreAdded, ListsStayLists, ListsAreSets}

-- ---- one number more
swapped : (x y z : Bool) → (x || (y || z)) ≡ (y || (x || z))
swapped true true z = refl
swapped true false z = refl
swapped false true z = refl
swapped false false z = refl

twice : (x y z : Bool) → y ≡ x → (x || z) ≡ (y || (x || z))
twice true true z e = refl
twice false false z e = refl
twice true false z e = absurd (both_ways true (sym e) refl)
twice false true z e = absurd (both_ways true e refl)

pub numbers_are_added : NumbersAreAdded
numbers_are_added k i [] = refl
numbers_are_added k i (x ∷ xs) = elim (cases_lt k x) [
  | inl l ↦ rw (lt-ltb k x l) refl
  | inr l ↦ elim (cases_eq k x) [
    | inl s ↦ rw (le-ltb k x l, eq-eqb k x s) (twice (eqb i x) (eqb i k) (is_listed i xs) (ap (eqb i) s))
    | inr n ↦ rw (le-ltb k x l, ne_eqb k x n) (ap (λ y. eqb i x || y) (numbers_are_added k i xs) ∙ swapped (eqb i x) (eqb i k) (is_listed i xs))
  ]
]

all_with : (P : ℕ → Type 0) (k : ℕ) (ks : List ℕ) → P k → AllByRecursion P ks → AllByRecursion P (with_number k ks)
all_with P k [] p h = (p, tt)
all_with P k (x ∷ xs) p h = elim (cases_lt k x) [
  | inl l ↦ rw (lt-ltb k x l) (p, h)
  | inr l ↦ elim (cases_eq k x) [
    | inl s ↦ rw (le-ltb k x l, eq-eqb k x s) h
    | inr n ↦ rw (le-ltb k x l, ne_eqb k x n) (h.0, all_with P k xs p h.1)
  ]
]

all_greater : (k x : ℕ) (xs : List ℕ) → k < x → AllByRecursion (λ i. x < i) xs → AllByRecursion (λ i. k < i) xs
all_greater k x [] l h = tt
all_greater k x (y ∷ ys) l h = let a = h.0 in (omega arith, all_greater k x ys l h.1)

rising_with : (k : ℕ) (ks : List ℕ) → Rising ks → Rising (with_number k ks)
rising_with k [] h = (tt, tt)
rising_with k (x ∷ xs) h = elim (cases_lt k x) [
  | inl l ↦ rw (lt-ltb k x l) ((l, all_greater k x xs l h.0), h)
  | inr l ↦ elim (cases_eq k x) [
    | inl s ↦ rw (le-ltb k x l, eq-eqb k x s) h
    | inr n ↦ rw (le-ltb k x l, ne_eqb k x n) (all_with (λ i. x < i) k xs (omega arith) h.0, rising_with k xs h.1)
  ]
]

pub lists_stay_lists : ListsStayLists
lists_stay_lists w k l h = record { below = all_with (λ i. i < w.edges) k w.numbers l h.below; rising = rising_with k w.numbers h.rising }

-- a number that is there is put there no more
pub with_listed : (k : ℕ) (ks : List ℕ) → Rising ks → is_listed k ks ≡ true → with_number k ks ≡ ks
with_listed k [] h t = absurd (both_ways false refl t)
with_listed k (x ∷ xs) h t = elim (cases_lt k x) [
  | inl l ↦ absurd (both_ways (is_listed k (x ∷ xs)) (rw (ne_eqb k x (λ e. omega arith)) (not_there k x xs (omega arith) h.0)) t)
  | inr l ↦ elim (cases_eq k x) [
    | inl s ↦ rw (le-ltb k x l, eq-eqb k x s) refl
    | inr n ↦ rw (le-ltb k x l, ne_eqb k x n) (ap (λ ys. x ∷ ys) (with_listed k xs h.1 (rw (ne_eqb k x n) at t)))
  ]
]
  where
    not_there : (k x : ℕ) (xs : List ℕ) → k ≤ x → AllByRecursion (λ i. x < i) xs → is_listed k xs ≡ false
    not_there k x [] l h = refl
    not_there k x (y ∷ ys) l h = let a = h.0 in rw (ne_eqb k y (λ e. omega arith)) (not_there k x ys l h.1)

-- ---- what is on a list tells it
absent : (k : ℕ) (xs : List ℕ) → AllByRecursion (λ i. k < i) xs → is_listed k xs ≡ false
absent k [] h = refl
absent k (y ∷ ys) h = let a = h.0 in rw (ne_eqb k y (λ e. omega arith)) (absent k ys h.1)

rest_same : (x : ℕ) (xs ys : List ℕ) → AllByRecursion (λ i. x < i) xs → AllByRecursion (λ i. x < i) ys
    → ((i : ℕ) → is_listed i (x ∷ xs) ≡ is_listed i (x ∷ ys)) → (i : ℕ) → is_listed i xs ≡ is_listed i ys
rest_same x xs ys a b h i = elim (cases_eq i x) [
  | inl s ↦ let p = absent x xs a in let q = absent x ys b in subst (λ k. is_listed k xs ≡ is_listed k ys) (sym s) (p ∙ sym q)
  | inr n ↦ let e : (eqb i x || is_listed i xs) ≡ (eqb i x || is_listed i ys) = h i in rw (ne_eqb i x n) at e
]

head_listed : (x : ℕ) (xs : List ℕ) → is_listed x (x ∷ xs) ≡ true
head_listed x xs = rw (eq-eqb x x refl) refl

listed_least : (x y : ℕ) (ys : List ℕ) → x < y → AllByRecursion (λ i. y < i) ys → is_listed x (y ∷ ys) ≡ false
listed_least x y ys l h = rw (ne_eqb x y (λ e. omega arith)) (absent x ys (all_greater x y ys l h))

same_lists : (xs ys : List ℕ) → Rising xs → Rising ys → ((i : ℕ) → is_listed i xs ≡ is_listed i ys) → xs ≡ ys
same_lists [] [] p q h = refl
same_lists [] (y ∷ ys) p q h = absurd (both_ways true (sym (head_listed y ys) ∙ sym (h y)) refl)
same_lists (x ∷ xs) [] p q h = absurd (both_ways true (sym (head_listed x xs) ∙ h x) refl)
same_lists (x ∷ xs) (y ∷ ys) p q h = elim (cases_lt x y) [
  | inl l ↦ absurd (both_ways true (sym (head_listed x xs) ∙ h x ∙ listed_least x y ys l q.0) refl)
  | inr l ↦ elim (cases_eq x y) [
    | inl s ↦ let P : ℕ → Type 0 = λ z. ((i : ℕ) → is_listed i (z ∷ xs) ≡ is_listed i (y ∷ ys)) in
        let k = subst P s h in
        ap₂ ◌∷◌ s (same_lists xs ys p.1 q.1 (rest_same y xs ys (subst (λ z. AllByRecursion (λ i. z < i) xs) s p.0) q.0 k))
    | inr n ↦ absurd (both_ways true (sym (head_listed y ys) ∙ sym (h y) ∙ listed_least y x xs (omega arith) p.0) refl)
  ]
]

pub lists_are_sets : ListsAreSets
lists_are_sets v w e p q h = let f = same_lists v.numbers w.numbers p.rising q.rising h in
    let make : ℕ → List ℕ → Listed = λ n ks. record { edges = n; numbers = ks } in
    ap₂ make e f
