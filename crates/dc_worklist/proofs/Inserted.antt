-- A slot that gets links between its neighbours.
use Rattle.std.proofs.Common.{◌≡◌, ◌≢◌, ℕ, suc, ◌+◌, ◌<◌, ◌⊎◌, inl, inr, Bool, true, false, is_some, List, length, Option, Some, None, sym, ◌∙◌, ap, subst, arith}
use Rattle.std.proofs.Math.ListN.{set}
use Rattle.std.proofs.lemmas.Bool.{cases_eq}
use Rattle.std.proofs.lemmas.List.{get_or-set_same, get_or-set_other}
use Rattle.dc_worklist.specs.declared.work_list.Links.{Links}
use Rattle.dc_worklist.specs.Listed.{with_number}
use Rattle.dc_worklist.specs.Links.{slot_at, is_linked, linked_from, IsNext, IsLast, AreLinked, behind, with_after, with_before}
use Rattle.dc_worklist.proofs.Neighbours.{next_new, last_new, next_on, next_other, next_first, last_other, last_kept}
use Rattle.dc_worklist.proofs.Slots.{same_numbers, added_number, after_was, before_was, after_linked, before_linked, length-after, length-before}

module _ (ps : List (Option Links)) (head : Option ℕ) (e : ℕ) (b a : Option ℕ) (range : e < length ps) (free : slot_at ps e ≡ None)
    (w : AreLinked ps head) (below : IsLast (is_linked ps) e b) (above : IsNext (is_linked ps) (behind b) a) where
  abbrev new : Links
  new = record { before = b; after = a }

  abbrev put : List (Option Links)
  put = set ps e (Some new)

  abbrev pub inserted : List (Option Links)
  inserted = with_before a (Some e) (with_after b (Some e) put)

  abbrev T : ℕ → Bool
  T = is_linked ps

  abbrev U : ℕ → Bool
  U = is_linked inserted

  like : (i : ℕ) → U i ≡ is_linked put i
  like i = before_linked (with_after b (Some e) put) a (Some e) i ∙ after_linked put b (Some e) i

  at : U e ≡ true
  at = like e ∙ ap is_some (get_or-set_same ps e (Some new) None range)

  other : (i : ℕ) → i ≢ e → U i ≡ T i
  other i n = like i ∙ ap is_some (get_or-set_other ps e i (Some new) None n)

  none : T e ≡ false
  none = ap is_some free

  further : IsNext U (suc e) a
  further = next_on T U e at other b a below none above

  -- a slot's links are the new ones, or those that it had
  was : (i : ℕ) (q : Links) → slot_at put i ≡ Some q → ((i ≡ e) × (q ≡ new)) ⊎ ((i ≢ e) × (slot_at ps i ≡ Some q))
  was i q h = elim (cases_eq i e) [
    | inl s ↦ let f : Some new ≡ Some q = sym (get_or-set_same ps e (Some new) None range) ∙ ap (slot_at put) (sym s) ∙ h in inl (s, (cc))
    | inr n ↦ inr (n, sym (get_or-set_other ps e i (Some new) None n) ∙ h)
  ]

  after_right : (i : ℕ) (q : Links) → slot_at inserted i ≡ Some q → IsNext U (suc i) q.after
  after_right i q h =
      let x = before_was (with_after b (Some e) put) a (Some e) i q h in
      let y = after_was put b (Some e) i x.old x.was in
      elim y.after [
        | inl s ↦ subst (λ o. IsNext U (suc i) o) (sym (x.after ∙ s.1)) (subst (λ o. IsNext U (behind o) (Some e)) (sym s.0) (next_new T U e at other b below))
        | inr n ↦ elim (was i y.old y.was) [
          | inl z ↦ subst (λ o. IsNext U (suc i) o) (sym (x.after ∙ n.1 ∙ ap (λ (p : Links). p.after) z.1)) (subst (λ k. IsNext U (suc k) a) (sym z.0) further)
          | inr z ↦ subst (λ o. IsNext U (suc i) o) (sym (x.after ∙ n.1)) (next_other T U e at other i y.old.after b (ap is_some z.1) z.0 below n.0 (w.after i y.old z.1))
        ]
      ]

  new_before : (a : Option ℕ) (i : ℕ) → IsNext T (behind b) a → IsNext U (suc e) a → Some i ≡ a → IsLast U i (Some e)
  new_before None i h k s = absurd (cc)
  new_before (Some j) i h k s =
      let f : j ≡ i = cc in let l = k.0 in subst (λ x. IsLast U x (Some e)) f (last_new T U e at other b j below none h (omega arith))

  before_right : (i : ℕ) (q : Links) → slot_at inserted i ≡ Some q → IsLast U i q.before
  before_right i q h =
      let x = before_was (with_after b (Some e) put) a (Some e) i q h in
      let y = after_was put b (Some e) i x.old x.was in
      elim x.before [
        | inl s ↦ subst (λ o. IsLast U i o) (sym s.1) (new_before a i above further s.0)
        | inr n ↦ elim (was i y.old y.was) [
          | inl z ↦ subst (λ o. IsLast U i o) (sym (n.1 ∙ y.before ∙ ap (λ (p : Links). p.before) z.1)) (subst (λ k. IsLast U k b) (sym z.0) (last_kept T U e at other e b (omega arith) below))
          | inr z ↦ subst (λ o. IsLast U i o) (sym (n.1 ∙ y.before)) (last_other T U e at other i y.old.before a (ap is_some z.1) z.0 further n.0 (w.before i y.old z.1))
        ]
      ]

  -- linked, with the new one first where none is before it
  pub insert_first : b ≡ None → AreLinked inserted (Some e)
  insert_first s = record { first = subst (λ o. IsNext U (behind o) (Some e)) s (next_new T U e at other b below); after = after_right; before = before_right }

  pub insert_later : (j : ℕ) → b ≡ Some j → AreLinked inserted head
  insert_later j s = record { first = next_first T U e at other head j (subst (λ o. IsLast T e o) s below) w.first; after = after_right; before = before_right }

  pub insert_numbers : linked_from 0 inserted ≡ with_number e (linked_from 0 ps)
  insert_numbers =
      same_numbers 0 inserted put (length-before (with_after b (Some e) put) a (Some e) ∙ length-after put b (Some e)) like
      ∙ added_number 0 ps e new range free ∙ ap (λ k. with_number k (linked_from 0 ps)) (let f : 0 + e ≡ e = omega arith in f)
