-- Numbers in rising order, each once: by insertion, and by sorting and dropping repeats.
use Rattle.std.proofs.Common.{◌⊎◌, ◌≡◌, ◌∙◌, Bool, true, false, cond, List, [], ◌∷◌, ℤ, ◌<ℤ◌, ◌≤ℤ◌, int_lt, T, not, refl, ap, sym, subst, inl, inr, arith}
use Rattle.std.proofs.lemmas.Int.{ints}
use Rattle.std.specs.declared.cmp.Ordering.TheVariants.{Less}
use Rattle.std.specs.Ordering.{int_cmp, int_eq, eq_by_cmp}
use Rattle.std.specs.Cmp.{int_ranked, int_cmp_total, int_eq_equiv}
use Rattle.std.specs.List.{AllByRecursion, dedup}
use Rattle.std.specs.List.Sorted.{IsPermutation, IsSorted, IsStrictlySortedBy}
use Rattle.std.specs.List.Retain.{IsFiltered, DiffersFromLast}
use Rattle.std.proofs.lemmas.Bool.{false≢true}
use Rattle.std.proofs.lemmas.Bool.Decides.{Decides-int_eq}
use Rattle.std.proofs.lemmas.List.Filters.{dedup_is}
use Rattle.std.proofs.lemmas.List.Kept.{Contains-dedup, Contains-from_dedup, IsStrictlySortedBy-dedup}
use Rattle.std.proofs.lemmas.List.Sorted.{Contains-permutation, IsPermutation-sym}
use Rattle.dc_math.specs.Members.{Among, tail, each-weaker, among_first, among_cons, among_contained, contained_among}
use Rattle.dc_math.specs.OrderedLists.{Ordered, IsStrict, same_members}
use Rattle.dc_rows.specs.Bounds.{with_bound, rising}
use lib.Signed.{lt_z_yes, lt_z_no}

is_true : {b : Bool} → b ≡ true → T b
is_true e = subst T (sym e) tt

pub below-strict : IsStrict ◌<ℤ◌
below-strict = record { not = λ x h. omega (arith, ints); trans = λ x y z h k. omega (arith, ints) }

-- ---- one number into its place
pub data Placed (b c : ℤ) : Type 0 where
  before : int_lt b c ≡ true → b <ℤ c → Placed b c
  there : int_lt b c ≡ false → int_eq b c ≡ true → b ≡ c → Placed b c
  behind : int_lt b c ≡ false → int_eq b c ≡ false → c <ℤ b → Placed b c

is_false : {b : Bool} → b ≡ false → T (not b)
is_false e = subst (λ x. T (not x)) (sym e) tt

past : (b c : ℤ) → int_lt b c ≡ false → int_eq b c ≡ false → c <ℤ b
past b c p q = by (int_lt c b) refl
  where
    by : (s : Bool) → int_lt c b ≡ s → c <ℤ b
    by true h = lt_z_yes (is_true h)
    by false h =
        let k : c ≤ℤ b = lt_z_no (is_false p) in
        let l : b ≤ℤ c = lt_z_no (is_false h) in
        let e : b ≡ c = omega (arith, ints) in absurd (false≢true (sym q ∙ (Decides-int_eq b c).1 e))

placed : (b c : ℤ) → Placed b c
placed b c = by (int_lt b c) (int_eq b c) refl refl
  where
    by : (s t : Bool) → int_lt b c ≡ s → int_eq b c ≡ t → Placed b c
    by true t p q = before p (lt_z_yes (is_true p))
    by false true p q = there p q ((Decides-int_eq b c).0 q)
    by false false p q = behind p q (past b c p q)

with-before : (b c : ℤ) (cs : List ℤ) → int_lt b c ≡ true → with_bound b (c ∷ cs) ≡ b ∷ c ∷ cs
with-before b c cs h = ap (λ t. cond t (b ∷ c ∷ cs) (cond (int_eq b c) (c ∷ cs) (c ∷ with_bound b cs))) h

with-there : (b c : ℤ) (cs : List ℤ) → int_lt b c ≡ false → int_eq b c ≡ true → with_bound b (c ∷ cs) ≡ c ∷ cs
with-there b c cs h k = ap (λ t. cond t (b ∷ c ∷ cs) (cond (int_eq b c) (c ∷ cs) (c ∷ with_bound b cs))) h ∙ ap (λ t. cond t (c ∷ cs) (c ∷ with_bound b cs)) k

with-behind : (b c : ℤ) (cs : List ℤ) → int_lt b c ≡ false → int_eq b c ≡ false → with_bound b (c ∷ cs) ≡ c ∷ with_bound b cs
with-behind b c cs h k = ap (λ t. cond t (b ∷ c ∷ cs) (cond (int_eq b c) (c ∷ cs) (c ∷ with_bound b cs))) h ∙ ap (λ t. cond t (c ∷ cs) (c ∷ with_bound b cs)) k

pub with-each : (P : ℤ → Type 0) (b : ℤ) (cs : List ℤ) → P b → AllByRecursion P cs → AllByRecursion P (with_bound b cs)
with-each P b [] p h = (p, tt)
with-each P b (c ∷ cs) p h = by (placed b c) (with-each P b cs p h.1)
  where
    by : Placed b c → AllByRecursion P (with_bound b cs) → AllByRecursion P (with_bound b (c ∷ cs))
    by (before l k) i = subst (AllByRecursion P) (sym (with-before b c cs l)) (p, h)
    by (there l e k) i = subst (AllByRecursion P) (sym (with-there b c cs l e)) h
    by (behind l e k) i = subst (AllByRecursion P) (sym (with-behind b c cs l e)) (h.0, i)

pub with-ordered : (b : ℤ) (cs : List ℤ) → Ordered ◌<ℤ◌ cs → Ordered ◌<ℤ◌ (with_bound b cs)
with-ordered b [] o = (tt, tt)
with-ordered b (c ∷ cs) o = by (placed b c) (with-ordered b cs o.1)
  where
    by : Placed b c → Ordered ◌<ℤ◌ (with_bound b cs) → Ordered ◌<ℤ◌ (with_bound b (c ∷ cs))
    by (before l k) i =
        subst (Ordered ◌<ℤ◌) (sym (with-before b c cs l)) ((k, each-weaker (λ y. c <ℤ y) (λ y. b <ℤ y) (λ y m. below-strict.trans b c y k m) cs o.0), o)
    by (there l e k) i = subst (Ordered ◌<ℤ◌) (sym (with-there b c cs l e)) o
    by (behind l e k) i = subst (Ordered ◌<ℤ◌) (sym (with-behind b c cs l e)) (with-each (λ y. c <ℤ y) b cs k o.0, i)

in-with : (m b : ℤ) (cs : List ℤ) → Among m (b ∷ cs) → Among m (with_bound b cs)
in-with m b [] i = i
in-with m b (c ∷ cs) i = by (placed b c) i (λ j. in-with m b cs j)
  where
    by : Placed b c → Among m (b ∷ c ∷ cs) → (Among m (b ∷ cs) → Among m (with_bound b cs)) → Among m (with_bound b (c ∷ cs))
    by (before l k) i r = subst (Among m) (sym (with-before b c cs l)) i
    by (there l e k) i r = subst (Among m) (sym (with-there b c cs l e)) (elim (among_cons i) [ inl q ↦ among_first (q ∙ k) | inr j ↦ j ])
    by (behind l e k) i r = subst (Among m) (sym (with-behind b c cs l e)) (later (among_cons i))
      where
        later : (m ≡ b) ⊎ Among m (c ∷ cs) → Among m (c ∷ with_bound b cs)
        later (inl q) = tail (r (among_first q))
        later (inr j) = elim (among_cons j) [ inl q ↦ among_first q | inr k ↦ tail (r (tail k)) ]

in_with : (m b : ℤ) (cs : List ℤ) → Among m (with_bound b cs) → Among m (b ∷ cs)
in_with m b [] i = i
in_with m b (c ∷ cs) i = by (placed b c) i (λ j. in_with m b cs j)
  where
    later : Among m (c ∷ with_bound b cs) → (Among m (with_bound b cs) → Among m (b ∷ cs)) → Among m (b ∷ c ∷ cs)
    later i r = elim (among_cons i) [
      | inl q ↦ tail (among_first q)
      | inr j ↦ elim (among_cons (r j)) [ inl q ↦ among_first q | inr k ↦ tail (tail k) ]
    ]

    by : Placed b c → Among m (with_bound b (c ∷ cs)) → (Among m (with_bound b cs) → Among m (b ∷ cs)) → Among m (b ∷ c ∷ cs)
    by (before l k) i r = subst (Among m) (with-before b c cs l) i
    by (there l e k) i r = tail (subst (Among m) (with-there b c cs l e) i)
    by (behind l e k) i r = later (subst (Among m) (with-behind b c cs l e) i) r

-- ---- all of them
pub rising-ordered : (bs : List ℤ) → Ordered ◌<ℤ◌ (rising bs)
rising-ordered [] = tt
rising-ordered (b ∷ bs) = with-ordered b (rising bs) (rising-ordered bs)

pub in-rising : (m : ℤ) (bs : List ℤ) → Among m bs → Among m (rising bs)
in-rising m [] i = i
in-rising m (b ∷ bs) i = in-with m b (rising bs) (elim (among_cons i) [ inl e ↦ among_first e | inr j ↦ tail (in-rising m bs j) ])

pub in_rising : (m : ℤ) (bs : List ℤ) → Among m (rising bs) → Among m bs
in_rising m [] i = i
in_rising m (b ∷ bs) i = elim (among_cons (in_with m b (rising bs) i)) [ inl e ↦ among_first e | inr j ↦ tail (in_rising m bs j) ]

-- ---- sorted, without repeats
less : (x y : ℤ) → int_cmp x y ≡ Less → x <ℤ y
less x y e = int_ranked x y Less (sym e)

each-less : (x : ℤ) (ys : List ℤ) → AllByRecursion (λ y. int_cmp x y ≡ Less) ys → AllByRecursion (λ y. x <ℤ y) ys
each-less x ys h = each-weaker (λ y. int_cmp x y ≡ Less) (λ y. x <ℤ y) (less x) ys h

strictly-ordered : (xs : List ℤ) → IsStrictlySortedBy int_cmp xs → Ordered ◌<ℤ◌ xs
unfolding IsStrictlySortedBy
strictly-ordered [] h = tt
strictly-ordered (x ∷ xs) h = (each-less x xs h.0, strictly-ordered xs h.1)

ties : (x y : ℤ) → int_eq x y ≡ eq_by_cmp int_cmp x y
ties x y = refl

pub sorted-rises : (xs ys zs : List ℤ) → IsPermutation xs ys → IsSorted int_cmp ys → IsFiltered (DiffersFromLast int_eq) [] ys zs → zs ≡ rising xs
sorted-rises xs ys zs p s f =
    dedup_is int_eq ys zs f
    ∙ same_members ◌<ℤ◌ below-strict (dedup int_eq ys) (rising xs) (strictly-ordered (dedup int_eq ys) (IsStrictlySortedBy-dedup int_cmp_total ties ys s)) (rising-ordered xs)
    (λ m i. in-rising m xs (among_contained m xs (Contains-permutation ys xs m (IsPermutation-sym xs ys p) (Contains-from_dedup int_eq ys m (contained_among m (dedup int_eq ys) i)))))
    (λ m i. among_contained m (dedup int_eq ys) (Contains-dedup int_eq_equiv (λ x y. (Decides-int_eq x y).0) ys m (Contains-permutation xs ys m p (contained_among m xs (in_rising m xs i)))))
