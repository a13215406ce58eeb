-- Slots after a write: which have links, and which numbers these are.
use Rattle.std.proofs.Common.{◌≡◌, ◌≢◌, ℕ, zero, suc, ◌+◌, ◌<◌, ◌≤◌, ◌⊎◌, inl, inr, true, false, is_some, List, [], ◌∷◌, length, Option, Some, None, refl, sym, ◌∙◌, ap, arith}
use Rattle.std.proofs.Math.ListN.{set, length-set}
use Rattle.std.specs.List.{AllByRecursion}
use Rattle.std.proofs.lemmas.Bool.{cases_lt, cases_eq, both_ways, cases_Bool, eq-eqb, ne_eqb, lt-ltb, le-ltb}
use Rattle.std.proofs.lemmas.List.{get_or-set_same, get_or-set_other}
use Rattle.std.proofs.lemmas.Option.{same_Some}
use Rattle.dc_worklist.specs.declared.work_list.Links.{Links}
use Rattle.dc_worklist.specs.Listed.{Rising, is_listed, with_number}
use Rattle.dc_worklist.specs.Links.{slot_at, is_linked, linked_from, IsNext, followed, preceded, with_after, with_before}

-- a slot with links is one of the list
pub linked_below : (ps : List (Option Links)) (k : ℕ) → is_linked ps k ≡ true → k < length ps
linked_below [] k h = absurd (both_ways (is_linked [] k) refl h)
linked_below (p ∷ ps) zero h = omega arith
linked_below (p ∷ ps) (suc k) h = let r = linked_below ps k h in omega arith

-- ---- numbers
from_least : (n : ℕ) (ps : List (Option Links)) → AllByRecursion (λ i. n ≤ i) (linked_from n ps)
from_least n ps = by n ps n (omega arith)
  where
    by : (n : ℕ) (ps : List (Option Links)) (m : ℕ) → m ≤ n → AllByRecursion (λ i. m ≤ i) (linked_from n ps)
    by n [] m l = tt
    by n (None ∷ ps) m l = by (suc n) ps m (omega arith)
    by n (Some p ∷ ps) m l = (l, by (suc n) ps m (omega arith))

not_below : (k m : ℕ) (ks : List ℕ) → k < m → AllByRecursion (λ i. m ≤ i) ks → is_listed k ks ≡ false
not_below k m [] l h = refl
not_below k m (x ∷ xs) l h = let a = h.0 in rw (ne_eqb k x (λ e. omega arith)) (not_below k m xs l h.1)

pub listed_is : (n : ℕ) (ps : List (Option Links)) (i : ℕ) → is_listed (n + i) (linked_from n ps) ≡ is_linked ps i
listed_is n [] i = refl
listed_is n (None ∷ ps) zero = not_below (n + 0) (suc n) _ (omega arith) (from_least (suc n) ps)
listed_is n (None ∷ ps) (suc i) = ap (λ k. is_listed k (linked_from (suc n) ps)) (let e : n + suc i ≡ suc n + i = omega arith in e) ∙ listed_is (suc n) ps i
listed_is n (Some p ∷ ps) zero = rw (eq-eqb (n + 0) n (omega arith)) refl
listed_is n (Some p ∷ ps) (suc i) =
    rw (ne_eqb (n + suc i) n (λ e. omega arith)) (ap (λ k. is_listed k (linked_from (suc n) ps)) (let e : n + suc i ≡ suc n + i = omega arith in e) ∙ listed_is (suc n) ps i)

-- other links in the same slots
pub same_numbers : (n : ℕ) (ps qs : List (Option Links)) → length ps ≡ length qs → ((i : ℕ) → is_linked ps i ≡ is_linked qs i) → linked_from n ps ≡ linked_from n qs
same_numbers n [] [] l h = refl
same_numbers n [] (q ∷ qs) l h = absurd (omega arith)
same_numbers n (p ∷ ps) [] l h = absurd (omega arith)
same_numbers n (None ∷ ps) (None ∷ qs) l h = same_numbers (suc n) ps qs (omega arith) (λ i. h (suc i))
same_numbers n (Some p ∷ ps) (Some q ∷ qs) l h = ap (λ xs. n ∷ xs) (same_numbers (suc n) ps qs (omega arith) (λ i. h (suc i)))
same_numbers n (None ∷ ps) (Some q ∷ qs) l h = absurd (both_ways true (sym (h 0)) refl)
same_numbers n (Some p ∷ ps) (None ∷ qs) l h = absurd (both_ways true (h 0) refl)

-- links where there were none
pub added_number : (n : ℕ) (ps : List (Option Links)) (i : ℕ) (q : Links) → i < length ps → slot_at ps i ≡ None → linked_from n (set ps i (Some q)) ≡ with_number (n + i) (linked_from n ps)
added_number n [] i q l e = absurd (omega arith)
added_number n (None ∷ ps) zero q l e = sym (ap (λ k. with_number k (linked_from (suc n) ps)) (let f : n + 0 ≡ n = omega arith in f) ∙ first n (linked_from (suc n) ps) (from_least (suc n) ps))
  where
    first : (k : ℕ) (ks : List ℕ) → AllByRecursion (λ i. suc k ≤ i) ks → with_number k ks ≡ k ∷ ks
    first k [] h = refl
    first k (x ∷ xs) h = let a = h.0 in rw (lt-ltb k x (omega arith)) refl
added_number n (Some p ∷ ps) zero q l e = absurd (both_ways true (ap is_some e) refl)
added_number n (None ∷ ps) (suc i) q l e = added_number (suc n) ps i q (omega arith) e ∙ ap (λ k. with_number k (linked_from (suc n) ps)) (let f : suc n + i ≡ n + suc i = omega arith in f)
added_number n (Some p ∷ ps) (suc i) q l e =
    rw (le-ltb (n + suc i) n (omega arith), ne_eqb (n + suc i) n (λ e. omega arith))
    (ap (λ xs. n ∷ xs) (added_number (suc n) ps i q (omega arith) e ∙ ap (λ k. with_number k (linked_from (suc n) ps)) (let f : suc n + i ≡ n + suc i = omega arith in f)))

-- none where the first were
pub removed_number : (n : ℕ) (ps : List (Option Links)) (i : ℕ) → IsNext (is_linked ps) 0 (Some i) → linked_from n ps ≡ (n + i) ∷ linked_from n (set ps i None)
removed_number n [] i h = absurd (both_ways (is_linked [] i) refl h.1)
removed_number n (None ∷ ps) zero h = absurd (both_ways false refl h.1)
removed_number n (Some p ∷ ps) zero h = ap (λ k. k ∷ linked_from (suc n) ps) (let f : n ≡ n + 0 = omega arith in f)
removed_number n (None ∷ ps) (suc i) h =
    removed_number (suc n) ps i (omega arith, h.1, λ j a b. h.2 (suc j) (omega arith) (omega arith))
    ∙ ap (λ k. k ∷ linked_from (suc n) (set ps i None)) (let f : suc n + i ≡ n + suc i = omega arith in f)
removed_number n (Some p ∷ ps) (suc i) h = absurd (both_ways true (h.2 0 (omega arith) (omega arith)) refl)

pub no_numbers : (n : ℕ) (ps : List (Option Links)) → ((i : ℕ) → is_linked ps i ≡ false) → linked_from n ps ≡ []
no_numbers n [] h = refl
no_numbers n (None ∷ ps) h = no_numbers (suc n) ps (λ i. h (suc i))
no_numbers n (Some p ∷ ps) h = absurd (both_ways true (h 0) refl)

-- ---- links that name another follower
followed_some : (j : Option ℕ) (o : Option Links) → is_some (followed j o) ≡ is_some o
followed_some j None = refl
followed_some j (Some p) = refl

preceded_some : (j : Option ℕ) (o : Option Links) → is_some (preceded j o) ≡ is_some o
preceded_some j None = refl
preceded_some j (Some p) = refl

-- what was there, and what is named now
pub record WasAfter (ps : List (Option Links)) (k j : Option ℕ) (i : ℕ) (q : Links) : Type 0 where
  pub old : Links
  pub was : slot_at ps i ≡ Some old
  pub before : q.before ≡ old.before
  pub after : ((Some i ≡ k) × (q.after ≡ j)) ⊎ ((Some i ≢ k) × (q.after ≡ old.after))

pub record WasBefore (ps : List (Option Links)) (k j : Option ℕ) (i : ℕ) (q : Links) : Type 0 where
  pub old : Links
  pub was : slot_at ps i ≡ Some old
  pub after : q.after ≡ old.after
  pub before : ((Some i ≡ k) × (q.before ≡ j)) ⊎ ((Some i ≢ k) × (q.before ≡ old.before))

is_at : (ps : List (Option Links)) (k i : ℕ) (o : Option Links) (q : Links) → is_linked ps k ≡ is_some o → slot_at (set ps k o) i ≡ Some q → ((i ≡ k) × (o ≡ Some q)) ⊎ ((i ≢ k) × (slot_at ps i ≡ Some q))
is_at ps k i o q s h = elim (cases_eq i k) [
  | inl e ↦ elim (cases_lt k (length ps)) [
    | inl l ↦ inl (e, sym (get_or-set_same ps k o None l) ∙ ap (λ x. slot_at (set ps k o) x) (sym e) ∙ h)
    | inr l ↦ let f : is_linked (set ps k o) k ≡ true = ap is_some (ap (λ x. slot_at (set ps k o) x) (sym e) ∙ h) in
        let b = linked_below (set ps k o) k f in absurd (omega (arith, length-set ps k o))
  ]
  | inr n ↦ inr (n, sym (get_or-set_other ps k i o None n) ∙ h)
]

pub after_was : (ps : List (Option Links)) (k j : Option ℕ) (i : ℕ) (q : Links) → slot_at (with_after k j ps) i ≡ Some q → WasAfter ps k j i q
after_was ps None j i q h = record { old = q; was = h; before = refl; after = inr ((λ e. cc), refl) }
after_was ps (Some k) j i q h = elim (is_at ps k i (followed j (slot_at ps k)) q (sym (followed_some j (slot_at ps k))) h) [
  | inl e ↦ here (slot_at ps k) refl e.0 e.1
  | inr e ↦ record { old = q; was = e.1; before = refl; after = inr ((λ s. e.0 (same_Some i k s)), refl) }
]
  where
    here : (o : Option Links) → slot_at ps k ≡ o → i ≡ k → followed j o ≡ Some q → WasAfter ps (Some k) j i q
    here None w s f = absurd (cc)
    here (Some p) w s f =
        let g : record { before = p.before; after = j } ≡ q = cc in
        record { old = p; was = ap (slot_at ps) s ∙ w; before = sym (ap (λ (x : Links). x.before) g); after = inl (ap Some s, sym (ap (λ (x : Links). x.after) g)) }

pub before_was : (ps : List (Option Links)) (k j : Option ℕ) (i : ℕ) (q : Links) → slot_at (with_before k j ps) i ≡ Some q → WasBefore ps k j i q
before_was ps None j i q h = record { old = q; was = h; after = refl; before = inr ((λ e. cc), refl) }
before_was ps (Some k) j i q h = elim (is_at ps k i (preceded j (slot_at ps k)) q (sym (preceded_some j (slot_at ps k))) h) [
  | inl e ↦ here (slot_at ps k) refl e.0 e.1
  | inr e ↦ record { old = q; was = e.1; after = refl; before = inr ((λ s. e.0 (same_Some i k s)), refl) }
]
  where
    here : (o : Option Links) → slot_at ps k ≡ o → i ≡ k → preceded j o ≡ Some q → WasBefore ps (Some k) j i q
    here None w s f = absurd (cc)
    here (Some p) w s f =
        let g : record { before = j; after = p.after } ≡ q = cc in
        record { old = p; was = ap (slot_at ps) s ∙ w; after = sym (ap (λ (x : Links). x.after) g); before = inl (ap Some s, sym (ap (λ (x : Links). x.before) g)) }

set_linked : (ps : List (Option Links)) (k i : ℕ) (o : Option Links) → is_some o ≡ is_linked ps k → is_linked (set ps k o) i ≡ is_linked ps i
set_linked ps k i o s = elim (cases_eq i k) [
  | inl e ↦ elim (cases_lt k (length ps)) [
    | inl l ↦ ap (λ x. is_linked (set ps k o) x) e ∙ ap is_some (get_or-set_same ps k o None l) ∙ s ∙ ap (is_linked ps) (sym e)
    | inr l ↦ elim (cases_Bool (is_linked (set ps k o) i)) [
      | inl t ↦ let b = linked_below (set ps k o) i t in absurd (omega (arith, length-set ps k o))
      | inr t ↦ elim (cases_Bool (is_linked ps i)) [ inl u ↦ let b = linked_below ps i u in absurd (omega arith) | inr u ↦ t ∙ sym u ]
    ]
  ]
  | inr n ↦ ap is_some (get_or-set_other ps k i o None n)
]

pub after_linked : (ps : List (Option Links)) (k j : Option ℕ) (i : ℕ) → is_linked (with_after k j ps) i ≡ is_linked ps i
after_linked ps None j i = refl
after_linked ps (Some k) j i = set_linked ps k i _ (followed_some j (slot_at ps k))

pub before_linked : (ps : List (Option Links)) (k j : Option ℕ) (i : ℕ) → is_linked (with_before k j ps) i ≡ is_linked ps i
before_linked ps None j i = refl
before_linked ps (Some k) j i = set_linked ps k i _ (preceded_some j (slot_at ps k))

pub length-after : (ps : List (Option Links)) (k j : Option ℕ) → length (with_after k j ps) ≡ length ps
length-after ps None j = refl
length-after ps (Some k) j = length-set ps k _

pub length-before : (ps : List (Option Links)) (k j : Option ℕ) → length (with_before k j ps) ≡ length ps
length-before ps None j = refl
length-before ps (Some k) j = length-set ps k _

-- ---- the numbers rise and are below the number of slots
pub numbers_rise : (n : ℕ) (ps : List (Option Links)) → Rising (linked_from n ps)
numbers_rise n [] = tt
numbers_rise n (None ∷ ps) = numbers_rise (suc n) ps
numbers_rise n (Some p ∷ ps) = (from_least (suc n) ps, numbers_rise (suc n) ps)

pub numbers_below : (n m : ℕ) (ps : List (Option Links)) → n + length ps ≤ m → AllByRecursion (λ k. k < m) (linked_from n ps)
numbers_below n m [] l = tt
numbers_below n m (None ∷ ps) l = numbers_below (suc n) m ps (omega arith)
numbers_below n m (Some p ∷ ps) l = (omega arith, numbers_below (suc n) m ps (omega arith))
