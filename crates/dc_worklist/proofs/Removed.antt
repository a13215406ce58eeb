-- The first slot, which loses its links.
use Rattle.std.proofs.Common.{◌≡◌, ◌≢◌, ℕ, suc, ◌+◌, inl, inr, Bool, false, is_some, List, ◌∷◌, Option, Some, None, sym, ◌∙◌, ap, subst, arith}
use Rattle.std.proofs.Math.ListN.{set}
use Rattle.std.proofs.lemmas.Bool.{cases_eq}
use Rattle.std.proofs.lemmas.List.{get_or-set_same, get_or-set_other}
use Rattle.dc_worklist.specs.declared.work_list.Links.{Links}
use Rattle.dc_worklist.specs.Links.{slot_at, is_linked, linked_from, IsNext, IsLast, AreLinked, with_before}
use Rattle.dc_worklist.proofs.Neighbours.{next_past, next_least, past_least, last_least, last_past}
use Rattle.dc_worklist.proofs.Slots.{linked_below, same_numbers, removed_number, before_was, before_linked, length-before}

module _ (ps : List (Option Links)) (f : ℕ) (a : Option ℕ) (w : AreLinked ps (Some f)) (above : IsNext (is_linked ps) (suc f) a) where
  abbrev put : List (Option Links)
  put = set ps f None

  abbrev pub removed : List (Option Links)
  removed = with_before a None put

  abbrev T : ℕ → Bool
  T = is_linked ps

  abbrev U : ℕ → Bool
  U = is_linked removed

  like : (i : ℕ) → U i ≡ is_linked put i
  like i = before_linked put a None i

  at : U f ≡ false
  at = like f ∙ ap is_some (get_or-set_same ps f None None (linked_below ps f w.first.1))

  other : (i : ℕ) → i ≢ f → U i ≡ T i
  other i n = like i ∙ ap is_some (get_or-set_other ps f i None None n)

  was : (i : ℕ) (q : Links) → slot_at put i ≡ Some q → (i ≢ f) × (slot_at ps i ≡ Some q)
  was i q h = elim (cases_eq i f) [
    | inl s ↦ let e : None ≡ Some q = sym (get_or-set_same ps f None None (linked_below ps f w.first.1)) ∙ ap (slot_at put) (sym s) ∙ h in absurd (cc)
    | inr n ↦ (n, sym (get_or-set_other ps f i None None n) ∙ h)
  ]

  after_right : (i : ℕ) (q : Links) → slot_at removed i ≡ Some q → IsNext U (suc i) q.after
  after_right i q h =
      let x = before_was put a None i q h in
      let z = was i x.old x.was in
      let l = past_least T U f w.first at other i (ap is_some z.1) z.0 in
      subst (λ o. IsNext U (suc i) o) (sym x.after) (next_past T U f w.first at other (suc i) x.old.after (omega arith) (w.after i x.old z.1))

  none_before : (a : Option ℕ) (i : ℕ) → IsNext T (suc f) a → Some i ≡ a → IsLast U i None
  none_before None i h s = absurd (cc)
  none_before (Some j) i h s = let e : j ≡ i = cc in subst (λ x. IsLast U x None) e (last_least T U f w.first at other j h)

  before_right : (i : ℕ) (q : Links) → slot_at removed i ≡ Some q → IsLast U i q.before
  before_right i q h =
      let x = before_was put a None i q h in
      let z = was i x.old x.was in
      elim x.before [
        | inl s ↦ subst (λ o. IsLast U i o) (sym s.1) (none_before a i above s.0)
        | inr n ↦ subst (λ o. IsLast U i o) (sym n.1) (last_past T U f w.first at other i x.old.before a (ap is_some z.1) z.0 above n.0 (w.before i x.old z.1))
      ]

  pub removed_linked : AreLinked removed a
  removed_linked = record { first = next_least T U f w.first at other a above; after = after_right; before = before_right }

  pub removed_numbers : linked_from 0 ps ≡ f ∷ linked_from 0 removed
  removed_numbers =
      removed_number 0 ps f w.first ∙ ap (λ k. k ∷ linked_from 0 put) (let e : 0 + f ≡ f = omega arith in e)
      ∙ ap (λ xs. f ∷ xs) (sym (same_numbers 0 removed put (length-before put a None) like))
