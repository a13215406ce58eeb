-- From the slots to the list that contracts see.
use Rattle.std.proofs.Common.{◌≡◌, ℕ, inl, inr, ◌+◌, ◌<◌, ◌≤◌, true, false, is_some, List, [], ◌∷◌, length, get_or, replicate, Option, Some, None, sym, ◌∙◌, ap, ap₂, subst, arith}
use Rattle.std.proofs.Math.ListN.{length-replicate}
use Rattle.std.specs.List.{AllByRecursion}
use Rattle.std.proofs.lemmas.List.{get_or_read, get_or-replicate, get_or_past}
use Rattle.std.proofs.lemmas.Bool.{cases_lt}
use Rattle.dc_worklist.specs.declared.work_list.Links.{Links}
use Rattle.dc_worklist.specs.Listed.{Listed, IsTaken, Rising, is_listed, with_number}
use Rattle.dc_worklist.specs.Links.{slot_at, is_linked, linked_from, IsNext, AreLinked}
use Rattle.dc_worklist.proofs.Slots.{listed_is, no_numbers, numbers_rise, numbers_below}
use Rattle.dc_worklist.proofs.Numbers.{with_listed}

abbrev pub viewed : List (Option Links) → Listed
viewed ps = record { edges = length ps; numbers = linked_from 0 ps }

pub held : (ps : List (Option Links)) (w : Listed) (i : ℕ) (o : Option Links) → viewed ps ≡ w → i < w.edges → o ≡ get_or ps i o → is_some o ≡ is_listed i w.numbers
held ps w i o v l r =
    let b : i < length ps = subst (λ (x : Listed). i < x.edges) (sym v) l in
    let e : 0 + i ≡ i = omega arith in
    ap is_some (get_or_read ps i o b r None) ∙ sym (listed_is 0 ps i) ∙ ap (λ k. is_listed k (linked_from 0 ps)) e ∙ ap (λ (x : Listed). is_listed i x.numbers) v

-- what is there already is not put there again
pub stays : (ps : List (Option Links)) (w : Listed) (i : ℕ) → viewed ps ≡ w → is_listed i w.numbers ≡ true → w ≡ record { edges = w.edges; numbers = with_number i w.numbers }
stays ps w i v h =
    let make : List ℕ → Listed = λ ks. record { edges = w.edges; numbers = ks } in
    ap make (sym (with_listed i w.numbers (subst (λ (x : Listed). Rising x.numbers) v (numbers_rise 0 ps)) h))

pub free_slot : (ps : List (Option Links)) (w : Listed) (i : ℕ) (o : Option Links) → viewed ps ≡ w → i < w.edges → o ≡ get_or ps i o → is_some o ≡ false → slot_at ps i ≡ None
free_slot ps w i o v l r h =
    let b : i < length ps = subst (λ (x : Listed). i < x.edges) (sym v) l in
    by o h (get_or_read ps i o b r None)
  where
    by : (o : Option Links) → is_some o ≡ false → o ≡ slot_at ps i → slot_at ps i ≡ None
    by None h e = sym e
    by (Some p) h e = absurd (cc)

pub nothing : (ps : List (Option Links)) (w : Listed) (head : Option ℕ) → viewed ps ≡ w → AreLinked ps head → head ≡ None → w.numbers ≡ []
nothing ps w head v h e =
    let all : (i : ℕ) → 0 ≤ i → is_linked ps i ≡ false = subst (λ o. IsNext (is_linked ps) 0 o) e h.first in
    sym (ap (λ (x : Listed). x.numbers) v) ∙ no_numbers 0 ps (λ i. all i (omega arith))

pub taken : (ps qs : List (Option Links)) (w : Listed) (k : ℕ) → viewed ps ≡ w → length qs ≡ length ps → linked_from 0 ps ≡ k ∷ linked_from 0 qs → IsTaken w (viewed qs) k
taken ps qs w k v l e =
    let rises : Rising (k ∷ linked_from 0 qs) = subst Rising e (numbers_rise 0 ps) in
    let below : AllByRecursion (λ i. i < length ps) (k ∷ linked_from 0 qs) = subst (AllByRecursion (λ i. i < length ps)) e (numbers_below 0 (length ps) ps (omega arith)) in
    record {
      first = sym (ap (λ (x : Listed). x.numbers) v) ∙ e;
      edges = l ∙ ap (λ (x : Listed). x.edges) v;
      below = subst (λ (x : Listed). k < x.edges) v below.0;
      least = rises.0;
    }

pub none_linked : (n : ℕ) (i : ℕ) → slot_at (replicate n None) i ≡ None
none_linked n i = elim (cases_lt i n) [
  | inl l ↦ get_or-replicate n i None None l
  | inr l ↦ get_or_past (replicate n None) i None (omega (arith, length-replicate {A = Option Links} n None))
]

pub new_view : (n : ℕ) (ps : List (Option Links)) → ps ≡ replicate n None → viewed ps ≡ record { edges = n; numbers = [] }
new_view n ps e =
    let make : ℕ → List ℕ → Listed = λ m ks. record { edges = m; numbers = ks } in
    ap₂ make (ap length e ∙ length-replicate n None) (no_numbers 0 ps (λ i. ap (λ xs. is_linked xs i) e ∙ ap is_some (none_linked n i)))

pub new_links : (n : ℕ) (ps : List (Option Links)) → ps ≡ replicate n None → AreLinked ps None
new_links n ps e =
    let none : (i : ℕ) → slot_at ps i ≡ None = λ i. ap (λ xs. slot_at xs i) e ∙ none_linked n i in
    record {
      first = λ i l. ap is_some (none i);
      after = λ k p h. let x : None ≡ Some p = sym (none k) ∙ h in absurd (cc);
      before = λ k p h. let x : None ≡ Some p = sym (none k) ∙ h in absurd (cc);
    }
