-- What stands in a list, and what holds of each that does: 'each of a list' is std's `AllByRecursion`.
use Rattle.std.specs.Prelude.{◌≡◌, ◌⊎◌, ℕ, zero, suc, ◌+◌, ◌<◌, ◌≤◌, Bool, true, false, cond, List, [], ◌∷◌, ◌++◌, map, filter, flat_map, length, slice_get, slice_index_or, Some, Contains, refl}
use Rattle.std.specs.List.{range_with_len, AllByRecursion}
use Rattle.std.proofs.Common.{sym, ◌∙◌, ap, subst, arith, inl, inr}
use Rattle.std.proofs.lemmas.Bool.{false≢true, cases_lt}
use Rattle.std.proofs.lemmas.List.Elements.{All-from_recursion, All-contains}

pub data Among {A : Type 0} : A → List A → Type 0 where
  head : {x : A} {xs : List A} → Among x (x ∷ xs)
  tail : {x y : A} {xs : List A} → Among x xs → Among x (y ∷ xs)

-- ---- each, weaker, joined and mapped
module _ {A : Type 0} (P : A → Type 0) where
  pub each_all : (xs : List A) → ((x : A) → P x) → AllByRecursion P xs
  each_all [] h = tt
  each_all (x ∷ xs) h = (h x, each_all xs h)

  pub each-weaker : (Q : A → Type 0) → ((x : A) → P x → Q x) → (xs : List A) → AllByRecursion P xs → AllByRecursion Q xs
  each-weaker Q s [] h = tt
  each-weaker Q s (x ∷ xs) h = (s x h.0, each-weaker Q s xs h.1)

  pub each-++ : (xs ys : List A) → AllByRecursion P xs → AllByRecursion P ys → AllByRecursion P (xs ++ ys)
  each-++ [] ys h k = k
  each-++ (x ∷ xs) ys h k = (h.0, each-++ xs ys h.1 k)

  pub each_left : (xs ys : List A) → AllByRecursion P (xs ++ ys) → AllByRecursion P xs
  each_left [] ys h = tt
  each_left (x ∷ xs) ys h = (h.0, each_left xs ys h.1)

  pub each_right : (xs ys : List A) → AllByRecursion P (xs ++ ys) → AllByRecursion P ys
  each_right [] ys h = h
  each_right (x ∷ xs) ys h = each_right xs ys h.1

  pub each-filter : (p : A → Bool) (xs : List A) → AllByRecursion P xs → AllByRecursion P (filter p xs)
  each-filter p [] h = tt
  each-filter p (x ∷ xs) h = by (p x) (each-filter p xs h.1)
    where
      by : (b : Bool) → AllByRecursion P (filter p xs) → AllByRecursion P (cond b (x ∷ filter p xs) (filter p xs))
      by true r = (h.0, r)
      by false r = r

module _ {A B : Type 0} (P : B → Type 0) where
  pub each-map : (f : A → B) (xs : List A) → AllByRecursion (λ x. P (f x)) xs → AllByRecursion P (map f xs)
  each-map f [] h = tt
  each-map f (x ∷ xs) h = (h.0, each-map f xs h.1)

  pub each_map : (f : A → B) (xs : List A) → AllByRecursion P (map f xs) → AllByRecursion (λ x. P (f x)) xs
  each_map f [] h = tt
  each_map f (x ∷ xs) h = (h.0, each_map f xs h.1)

  pub each-flat_map : (f : A → List B) (xs : List A) → AllByRecursion (λ x. AllByRecursion P (f x)) xs → AllByRecursion P (flat_map f xs)
  each-flat_map f [] h = tt
  each-flat_map f (x ∷ xs) h = each-++ P (f x) (flat_map f xs) h.0 (each-flat_map f xs h.1)

  pub each_flat_map : (f : A → List B) (xs : List A) → AllByRecursion P (flat_map f xs) → AllByRecursion (λ x. AllByRecursion P (f x)) xs
  each_flat_map f [] h = tt
  each_flat_map f (x ∷ xs) h = (each_left P (f x) (flat_map f xs) h, each_flat_map f xs (each_right P (f x) (flat_map f xs) h))

pub each-map_weaker : {A B : Type 0} (P : A → Type 0) (Q : B → Type 0) (f : A → B) → ((x : A) → P x → Q (f x)) → (xs : List A) → AllByRecursion P xs → AllByRecursion Q (map f xs)
each-map_weaker P Q f s xs h = each-map Q f xs (each-weaker P (λ x. Q (f x)) s xs h)

-- ---- by index
pub each-range : (P : ℕ → Type 0) (a n : ℕ) → ((i : ℕ) → a ≤ i → i < a + n → P i) → AllByRecursion P (range_with_len a n)
each-range P a zero h = tt
each-range P a (suc n) h = (h a (omega arith) (omega arith), each-range P (a + 1) n (λ i k l. h i (omega arith) (omega arith)))

pub each_range : (P : ℕ → Type 0) (a n : ℕ) → AllByRecursion P (range_with_len a n) → (i : ℕ) → i < n → P (a + i)
each_range P a zero h i l = absurd (omega arith)
each_range P a (suc n) h zero l = subst P (let e : a ≡ a + 0 = omega arith in e) h.0
each_range P a (suc n) h (suc i) l = subst P (let e : (a + 1) + i ≡ a + suc i = omega arith in e) (each_range P (a + 1) n h.1 i (omega arith))

module _ {A : Type 0} (P : A → Type 0) where
  pub each_at : (xs : List A) (k : ℕ) (d : A) → AllByRecursion P xs → k < length xs → P (slice_index_or xs k d)
  each_at [] k d h l = absurd (omega arith)
  each_at (x ∷ xs) zero d h l = h.0
  each_at (x ∷ xs) (suc k) d h l = each_at xs k d h.1 (omega arith)

  pub each_at_or : (xs : List A) (k : ℕ) (d : A) → AllByRecursion P xs → P d → P (slice_index_or xs k d)
  each_at_or [] k d h n = n
  each_at_or (x ∷ xs) zero d h n = h.0
  each_at_or (x ∷ xs) (suc k) d h n = each_at_or xs k d h.1 n

  pub each_is : (xs : List A) (k : ℕ) (x : A) → AllByRecursion P xs → k < length xs → x ≡ slice_index_or xs k x → P x
  each_is xs k x h l e = subst P (sym e) (each_at xs k x h l)

  pub at_each : (xs : List A) (d : A) → ((k : ℕ) → k < length xs → P (slice_index_or xs k d)) → AllByRecursion P xs
  at_each [] d h = tt
  at_each (x ∷ xs) d h = (h 0 (omega arith), at_each xs d (λ k l. h (suc k) (omega arith)))

pub each_get : {A : Type 0} (P : A → Type 0) (xs : List A) → ((i : ℕ) (x : A) → slice_get xs i ≡ Some x → P x) → AllByRecursion P xs
each_get P [] h = tt
each_get P (x ∷ xs) h = (h 0 x refl, each_get P xs (λ i y e. h (suc i) y e))

pub get_each : {A : Type 0} (P : A → Type 0) (xs : List A) → AllByRecursion P xs → (i : ℕ) (x : A) → slice_get xs i ≡ Some x → P x
get_each P [] h i x e = cc
get_each P (y ∷ xs) h zero x e = subst P (let s : y ≡ x = cc in s) h.0
get_each P (y ∷ xs) h (suc i) x e = get_each P xs h.1 i x e

-- ---- each and among
pub each_among : {A : Type 0} (P : A → Type 0) {x : A} {xs : List A} → AllByRecursion P xs → Among x xs → P x
each_among P h head = h.0
each_among P h (tail i) = each_among P h.1 i

pub among_each : {A : Type 0} (P : A → Type 0) (xs : List A) → ((x : A) → Among x xs → P x) → AllByRecursion P xs
among_each P [] h = tt
among_each P (x ∷ xs) h = (h x head, among_each P xs (λ y i. h y (tail i)))

-- ---- among short lists
pub none_among : {A X : Type 0} {x : A} → Among x [] → X
none_among i = elim i [ ]

pub among_first : {A : Type 0} {x y : A} {xs : List A} → x ≡ y → Among x (y ∷ xs)
among_first {x = x} {xs = xs} e = subst (λ z. Among x (z ∷ xs)) e head

pub among_cons : {A : Type 0} {x y : A} {xs : List A} → Among x (y ∷ xs) → (x ≡ y) ⊎ Among x xs
among_cons head = inl refl
among_cons (tail i) = inr i

pub among-one : {A : Type 0} {x y : A} → Among x (y ∷ []) → x ≡ y
among-one head = refl
among-one (tail i) = elim i [ ]

pub among-two : {A : Type 0} {x y z : A} → Among x (y ∷ z ∷ []) → (x ≡ y) ⊎ (x ≡ z)
among-two head = inl refl
among-two (tail i) = inr (among-one i)

-- ---- among lists that are joined, mapped and filtered
pub among-left : {A : Type 0} {x : A} {xs : List A} (ys : List A) → Among x xs → Among x (xs ++ ys)
among-left ys head = head
among-left ys (tail i) = tail (among-left ys i)

pub among-right : {A : Type 0} {x : A} (xs : List A) {ys : List A} → Among x ys → Among x (xs ++ ys)
among-right [] i = i
among-right (y ∷ xs) i = tail (among-right xs i)

pub among-++ : {A : Type 0} {x : A} (xs : List A) {ys : List A} → Among x (xs ++ ys) → Among x xs ⊎ Among x ys
among-++ [] i = inr i
among-++ (y ∷ xs) head = inl head
among-++ (y ∷ xs) (tail i) = elim (among-++ xs i) [ inl j ↦ inl (tail j) | inr j ↦ inr j ]

pub among_map : {A B : Type 0} (f : A → B) {x : A} {xs : List A} → Among x xs → Among (f x) (map f xs)
among_map f head = head
among_map f (tail i) = tail (among_map f i)

pub among_image : {A B : Type 0} (f : A → B) {x : A} {y : B} {xs : List A} → y ≡ f x → Among x xs → Among y (map f xs)
among_image f {xs = xs} e i = subst (λ z. Among z (map f xs)) (sym e) (among_map f i)

-- an item of a mapped list is that of an item
pub record Mapped {A B : Type 0} (f : A → B) (y : B) (xs : List A) : Type 0 where
  pub of : A
  pub among : Among of xs
  pub is : y ≡ f of

pub mapped_among : {A B : Type 0} (f : A → B) {y : B} (xs : List A) → Among y (map f xs) → Mapped f y xs
mapped_among f [] i = elim i [ ]
mapped_among f (x ∷ xs) head = record { of = x; among = head; is = refl }
mapped_among f (x ∷ xs) (tail i) = let r = mapped_among f xs i in record { of = r.of; among = tail r.among; is = r.is }

pub among_flat : {A B : Type 0} (f : A → List B) (x : A) (y : B) (xs : List A) → Among x xs → Among y (f x) → Among y (flat_map f xs)
among_flat f x y [] i j = elim i [ ]
among_flat f x y (z ∷ xs) head j = among-left (flat_map f xs) j
among_flat f x y (z ∷ xs) (tail i) j = among-right (f z) (among_flat f x y xs i j)

pub among_flat_back : {A B : Type 0} (f : A → List B) (y : B) (xs : List A) → Among y (flat_map f xs) → (x : A) × Among x xs × Among y (f x)
among_flat_back f y [] i = elim i [ ]
among_flat_back f y (x ∷ xs) i = elim (among-++ (f x) i) [
  | inl j ↦ (x, head, j)
  | inr j ↦ let r = among_flat_back f y xs j in (r.0, tail r.1, r.2)
]

pub among_filter : {A : Type 0} (p : A → Bool) (x : A) (xs : List A) → p x ≡ true → Among x xs → Among x (filter p xs)
among_filter p x [] h i = elim i [ ]
among_filter p x (y ∷ xs) h i = by (p y) refl (among_cons i) (among_filter p x xs h)
  where
    by : (b : Bool) → p y ≡ b → (x ≡ y) ⊎ Among x xs → (Among x xs → Among x (filter p xs)) → Among x (cond b (y ∷ filter p xs) (filter p xs))
    by true e (inl q) r = among_first q
    by true e (inr j) r = tail (r j)
    by false e (inl q) r = absurd (false≢true (sym e ∙ (ap p (sym q) ∙ h)))
    by false e (inr j) r = r j

pub among_filter_back : {A : Type 0} (p : A → Bool) (x : A) (xs : List A) → Among x (filter p xs) → Among x xs × (p x ≡ true)
among_filter_back p x [] i = elim i [ ]
among_filter_back p x (y ∷ xs) i = by (p y) refl i (among_filter_back p x xs)
  where
    by : (b : Bool) → p y ≡ b → Among x (cond b (y ∷ filter p xs) (filter p xs)) → (Among x (filter p xs) → Among x xs × (p x ≡ true)) → Among x (y ∷ xs) × (p x ≡ true)
    by true e j r = elim (among_cons j) [ inl q ↦ (among_first q, ap p q ∙ e) | inr k ↦ let w = r k in (tail w.0, w.1) ]
    by false e j r = let w = r j in (tail w.0, w.1)

-- ---- among numbers in a row, and by index
pub among_range : (k a n : ℕ) → a ≤ k → k < a + n → Among k (range_with_len a n)
among_range k a zero h l = absurd (omega arith)
among_range k a (suc n) h l = elim (cases_lt a k) [
  | inl m ↦ tail (among_range k (a + 1) n (omega arith) (omega arith))
  | inr m ↦ let s : a ≡ k = omega arith in subst (λ i. Among i (a ∷ range_with_len (a + 1) n)) s head
]

pub among_range_back : (k a n : ℕ) → Among k (range_with_len a n) → (a ≤ k) × (k < a + n)
among_range_back k a zero i = elim i [ ]
among_range_back k a (suc n) head = (omega arith, omega arith)
among_range_back k a (suc n) (tail i) = let r = among_range_back k (a + 1) n i in let p = r.0 in let q = r.1 in (omega arith, omega arith)

pub among_at : {A : Type 0} (x d : A) (xs : List A) → Among x xs → (i : ℕ) × (i < length xs) × (slice_index_or xs i d ≡ x)
among_at x d [] i = elim i [ ]
among_at x d (y ∷ xs) head = (0, omega arith, refl)
among_at x d (y ∷ xs) (tail i) = let r = among_at x d xs i in let l = r.1 in (suc r.0, omega arith, r.2)

pub at_among : {A : Type 0} (d : A) (xs : List A) (i : ℕ) → i < length xs → Among (slice_index_or xs i d) xs
at_among d [] i l = absurd (omega arith)
at_among d (x ∷ xs) zero l = head
at_among d (x ∷ xs) (suc i) l = tail (at_among d xs i (omega arith))

-- std's word, by index
pub among_contained : {A : Type 0} (x : A) (xs : List A) → Contains xs x → Among x xs
among_contained {A} x xs c = All-contains (λ y. Among y xs) xs x (All-from_recursion (λ y. Among y xs) xs (among_each (λ y. Among y xs) xs (λ y i. i))) c

pub contained_among : {A : Type 0} (x : A) (xs : List A) → Among x xs → Contains xs x
contained_among x xs i = among_at x x xs i
