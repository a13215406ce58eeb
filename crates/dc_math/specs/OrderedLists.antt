-- Lists in a strict order: two with the same members are equal, and one within another is no longer.
use Rattle.std.specs.Prelude.{◌≡◌, ◌⊎◌, suc, ◌≤◌, Bool, true, false, cond, List, [], ◌∷◌, ◌++◌, map, filter, length, AllPairs, refl}
use Rattle.std.specs.List.{AllByRecursion}
use Rattle.std.proofs.Common.{sym, ◌∙◌, ap₂, subst, arith, inl, inr}
use Rattle.std.proofs.lemmas.List.Elements.{All-from_recursion, recursion_from_All}
use Rattle.std.proofs.lemmas.List.Kept.{AllPairs-cons}
use Rattle.dc_math.specs.Members.{Among, head, tail, each-++, each-weaker, each-filter, each_among, among_cons, none_among}

-- nothing is before itself, and what is before one before a third is before the third
pub record IsStrict {X : Type 0} (Before : X → X → Type 0) : Type 0 where
  pub not : (x : X) → ¬ Before x x
  pub trans : (x y z : X) → Before x y → Before y z → Before x z

-- each is before all later ones
abbrev pub Ordered : {X : Type 0} → (X → X → Type 0) → List X → Type 0
Ordered Before [] = Unit {0}
Ordered Before (x ∷ xs) = AllByRecursion (Before x) xs × Ordered Before xs

-- ---- joined, mapped and filtered
module _ {X : Type 0} (Before : X → X → Type 0) where
  pub ordered-append : (xs ys : List X) → Ordered Before xs → Ordered Before ys → AllByRecursion (λ x. AllByRecursion (Before x) ys) xs → Ordered Before (xs ++ ys)
  ordered-append [] ys h k a = k
  ordered-append (x ∷ xs) ys h k a = (each-++ (Before x) xs ys h.0 a.0, ordered-append xs ys h.1 k a.1)

  map-before : (P : X → Type 0) (f : X → X) → ((x y : X) → P x → P y → Before x y → Before (f x) (f y))
      → (x : X) (ys : List X) → P x → AllByRecursion P ys → AllByRecursion (Before x) ys → AllByRecursion (Before (f x)) (map f ys)
  map-before P f s x [] p h b = tt
  map-before P f s x (y ∷ ys) p h b = (s x y p h.0 b.0, map-before P f s x ys p h.1 b.1)

  pub ordered-map : (P : X → Type 0) (f : X → X) → ((x y : X) → P x → P y → Before x y → Before (f x) (f y))
      → (xs : List X) → AllByRecursion P xs → Ordered Before xs → Ordered Before (map f xs)
  ordered-map P f s [] h o = tt
  ordered-map P f s (x ∷ xs) h o = (map-before P f s x xs h.0 h.1 o.0, ordered-map P f s xs h.1 o.1)

  pub ordered-filter : (p : X → Bool) (xs : List X) → Ordered Before xs → Ordered Before (filter p xs)
  ordered-filter p [] o = tt
  ordered-filter p (x ∷ xs) o = by (p x) (each-filter (Before x) p xs o.0) (ordered-filter p xs o.1)
    where
      by : (b : Bool) → AllByRecursion (Before x) (filter p xs) → Ordered Before (filter p xs) → Ordered Before (cond b (x ∷ filter p xs) (filter p xs))
      by true e r = (e, r)
      by false e r = r

  pub pairs_ordered : (xs : List X) → Ordered Before xs → AllPairs Before xs
  pairs_ordered [] o = λ i j d h k. absurd (omega arith)
  pairs_ordered (x ∷ xs) o = AllPairs-cons Before x xs (All-from_recursion (Before x) xs o.0) (pairs_ordered xs o.1)

  pub ordered_pairs : (xs : List X) → AllPairs Before xs → Ordered Before xs
  ordered_pairs [] p = tt
  ordered_pairs (x ∷ xs) p =
      (recursion_from_All (Before x) xs (λ k d h. p 0 (suc k) d (omega arith) (omega arith)), ordered_pairs xs (λ i j d h k. p (suc i) (suc j) d (omega arith) (omega arith)))

-- ---- two lists in one strict order
module _ {X : Type 0} (Before : X → X → Type 0) (strict : IsStrict Before) where
  -- what comes after y is not y
  later : (y : X) (ys zs : List X) → AllByRecursion (Before y) zs → AllByRecursion (λ z. Among z (y ∷ ys)) zs → AllByRecursion (λ z. Among z ys) zs
  later y ys [] b h = tt
  later y ys (z ∷ zs) b h = elim (among_cons h.0) [
    | inl e ↦ absurd (strict.not y (subst (λ k. Before y k) e b.0))
    | inr i ↦ (i, later y ys zs b.1 h.1)
  ]

  pub no_longer : (ys xs : List X) → Ordered Before ys → Ordered Before xs → AllByRecursion (λ x. Among x ys) xs → length xs ≤ length ys
  no_longer ys [] o p h = omega arith
  no_longer [] (x ∷ xs) o p h = none_among h.0
  no_longer (y ∷ ys) (x ∷ xs) o p h = elim (among_cons h.0) [
    | inl e ↦ let r = no_longer ys xs o.1 p.1 (later y ys xs (subst (λ k. AllByRecursion (Before k) xs) e p.0) h.1) in omega arith
    | inr i ↦
        let b : Before y x = each_among (Before y) o.0 i in
        let r = no_longer ys (x ∷ xs) o.1 p (i, later y ys xs (each-weaker (Before x) (Before y) (λ m. strict.trans y x m b) xs p.0) h.1) in omega arith
  ]

  -- a member of the rest
  rest : (x : X) (xs : List X) (y : X) (ys : List X) → x ≡ y → AllByRecursion (Before x) xs
      → ((m : X) → Among m (x ∷ xs) → Among m (y ∷ ys)) → (m : X) → Among m xs → Among m ys
  rest x xs y ys e b h m i = elim (among_cons (h m (tail i))) [
    | inl q ↦ absurd (strict.not x (subst (λ k. Before x k) (q ∙ sym e) (each_among (Before x) b i)))
    | inr j ↦ j
  ]

  pub same_members : (xs ys : List X) → Ordered Before xs → Ordered Before ys → ((m : X) → Among m xs → Among m ys) → ((m : X) → Among m ys → Among m xs) → xs ≡ ys
  same_members [] [] o p h k = refl
  same_members [] (y ∷ ys) o p h k = none_among (k y head)
  same_members (x ∷ xs) [] o p h k = none_among (h x head)
  same_members (x ∷ xs) (y ∷ ys) o p h k = by (λ i j. same_members xs ys o.1 p.1 i j) (among_cons (h x head)) (among_cons (k y head))
    where
      tails : (((m : X) → Among m xs → Among m ys) → ((m : X) → Among m ys → Among m xs) → xs ≡ ys) → x ≡ y → x ∷ xs ≡ y ∷ ys
      tails r e = ap₂ ◌∷◌ e (r (rest x xs y ys e o.0 h) (rest y ys x xs (sym e) p.0 k))

      by : (((m : X) → Among m xs → Among m ys) → ((m : X) → Among m ys → Among m xs) → xs ≡ ys) → (x ≡ y) ⊎ Among x ys → (y ≡ x) ⊎ Among y xs → x ∷ xs ≡ y ∷ ys
      by r (inl e) j = tails r e
      by r (inr i) (inl e) = tails r (sym e)
      by r (inr i) (inr j) = absurd (strict.not x (strict.trans x y x (each_among (Before x) o.0 j) (each_among (Before y) p.0 i)))
