-- There is one list of printed atoms for each location, it says what the location's list says, and so printed atoms are inductive.
use Rattle.std.specs.Prelude.{◌≡◌, ◌↔◌, ℕ, zero, suc, ◌<◌, Bool, true, false, cond, List, [], ◌∷◌, ◌++◌, map, length, slice_index_or}
use Rattle.std.specs.List.{range_with_len}
use Rattle.std.proofs.Common.{refl, sym, ◌∙◌, ap, ap₂, subst, inl, inr, arith, append-nil}
use Rattle.std.proofs.lemmas.Bool.{cases_lt}
use Rattle.std.proofs.lemmas.List.FromFn.{length-map-range_with_len, get_or-map-range_with_len}
use Rattle.dc_math.specs.Members.{Among, head, tail, each_among, among_each, none_among, among_cons, among-left, among-right, among-++, among_map, mapped_among}
use Rattle.dc_affine.specs.declared.atom.Atom.{Atom}
use Rattle.dc_system.specs.Shapes.{IsWithin as EndsWithin}
use Rattle.dc_points.specs.Points.{Point, MeetsAt, MeetsAll, Entails}
use Rattle.dc_rows.specs.declared.kinds.Candidates.{Candidates}
use Rattle.dc_rows.specs.Candidate.{AreCandidates}
use Rattle.dc_families.specs.Graphs.{Graph, IsGraph}
use Rattle.dc_families.specs.Families.{Family, never, has_atom, family_of, kept_rows, least_atom, atoms_at}
use Rattle.dc_families.specs.Rounds.{MeetsFamily, IsInductive, IsWithin, IsGreatest}
use Rattle.dc_families.specs.Printed.{Question, atoms_of, Pruned, done, drops, keeps, IsPrinted, ArePrinted}
use Rattle.dc_families.specs.Laws.{OnePrinted, HasPrinted, PrintedSayLists, PrintedAreInductive}
use Rattle.dc_families.proofs.Decided.{entailment_is_decided}
use Rattle.dc_families.proofs.Lists.{differ, same_lists, past_none}
use Rattle.dc_families.proofs.Tests.{has_among, among_has}
use Rattle.dc_families.proofs.Upward.{least_is, lists_are_families}

-- ---- lists from their end
not_last : {A X : Type 0} (xs : List A) (x : A) → [] ≡ xs ++ x ∷ [] → X
not_last [] x e = absurd (cc)
not_last (y ∷ xs) x e = absurd (cc)

last_same : {A : Type 0} (xs ys : List A) (x y : A) → xs ++ x ∷ [] ≡ ys ++ y ∷ [] → (xs ≡ ys) × (x ≡ y)
last_same [] [] x y e = (refl, cc)
last_same [] (b ∷ ys) x y e = let f : [] ≡ ys ++ y ∷ [] = cc in not_last ys y f
last_same (a ∷ xs) [] x y e = let f : xs ++ x ∷ [] ≡ [] = cc in not_last xs x (sym f)
last_same (a ∷ xs) (b ∷ ys) x y e =
    let f : xs ++ x ∷ [] ≡ ys ++ y ∷ [] = cc in
    let g : a ≡ b = cc in
    let r = last_same xs ys x y f in (ap₂ ◌∷◌ g r.0, r.1)

-- a list with a last element
record IsLast {A : Type 0} (n : ℕ) (xs : List A) : Type 0 where
  front : List A
  end : A
  is : xs ≡ front ++ end ∷ []
  shorter : length front ≡ n

last_of : {A : Type 0} (n : ℕ) (xs : List A) → length xs ≡ suc n → IsLast n xs
last_of n [] e = absurd (omega arith)
last_of zero (x ∷ []) e = record { front = []; end = x; is = refl; shorter = refl }
last_of zero (x ∷ y ∷ xs) e = absurd (omega arith)
last_of (suc n) (x ∷ xs) e = let r = last_of n xs (omega arith) in record { front = x ∷ r.front; end = r.end; is = ap (λ ys. x ∷ ys) r.is; shorter = ap suc r.shorter }

abbrev question : ℕ → List ℕ → Question
question r others = record { row = r; others = others }

module _ (c : Candidates) (J : Family) (l : ℕ) where
  abbrev atom : ℕ → Atom
  atom r = least_atom c J l r

  -- ---- one list
  one_pruned : {rows back left out : List ℕ} {ps qs : List Question} → Pruned c J l rows back ps left → Pruned c J l rows back qs out → (left ≡ out) × (ps ≡ qs)
  one_pruned done done = (refl, refl)
  one_pruned done (drops {front = f} r e n rest) = not_last f r e
  one_pruned done (keeps {front = f} r e n rest) = not_last f r e
  one_pruned (drops {front = f} r e n rest) done = not_last f r e
  one_pruned (keeps {front = f} r e n rest) done = not_last f r e
  one_pruned {back = back} {out = out} (drops {front = f} r e n rest) (drops {front = g} {asked = qs} t i m others) =
      let s = last_same f g r t (sym e ∙ i) in
      let o = one_pruned rest (subst (λ xs. Pruned c J l xs back qs out) (sym s.0) others) in
      (o.0, ap₂ ◌∷◌ (ap₂ (λ xs x. question x (xs ++ back)) s.0 s.1) o.1)
  one_pruned {back = back} (drops {front = f} r e n rest) (keeps {front = g} t i m others) =
      let s = last_same f g r t (sym e ∙ i) in
      absurd (m (subst (λ x. Entails (atoms_of c J l (g ++ back)) (atom x)) s.1 (subst (λ xs. Entails (atoms_of c J l (xs ++ back)) (atom r)) s.0 n)))
  one_pruned {back = back} (keeps {front = f} r e n rest) (drops {front = g} t i m others) =
      let s = last_same f g r t (sym e ∙ i) in
      absurd (n (subst (λ x. Entails (atoms_of c J l (f ++ back)) (atom x)) (sym s.1) (subst (λ xs. Entails (atoms_of c J l (xs ++ back)) (atom t)) (sym s.0) m)))
  one_pruned {back = back} {out = out} (keeps {front = f} r e n rest) (keeps {front = g} {asked = qs} t i m others) =
      let s = last_same f g r t (sym e ∙ i) in
      let o = one_pruned rest (subst (λ x. Pruned c J l f (x ∷ back) qs out) (sym s.1) (subst (λ xs. Pruned c J l xs (t ∷ back) qs out) (sym s.0) others)) in
      (o.0, ap₂ ◌∷◌ (ap₂ (λ xs x. question x (xs ++ back)) s.0 s.1) o.1)

  one_printed : (n : ℕ) (p q : List Atom) (ps qs : List Question) → IsPrinted c J l n p ps → IsPrinted c J l n q qs → (p ≡ q) × (ps ≡ qs)
  one_printed n p q ps qs h k = by (J l (never n)) refl
    where
      by : (b : Bool) → J l (never n) ≡ b → (p ≡ q) × (ps ≡ qs)
      by true e = let x = h.dead e in let y = k.dead e in (x.0 ∙ sym y.0, x.1 ∙ sym y.1)
      by false e = let x = h.other e in let y = k.other e in let o = one_pruned x.pruned y.pruned in (x.is ∙ ap (atoms_of c J l) o.0 ∙ sym y.is, o.1)

  -- ---- there is one
  has_pruned : (n : ℕ) (rows back : List ℕ) → length rows ≡ n → (left : List ℕ) × (asked : List Question) × Pruned c J l rows back asked left
  has_pruned zero [] back e = (back, [], done)
  has_pruned zero (r ∷ rows) back e = absurd (omega arith)
  has_pruned (suc n) rows back e =
      let v = last_of n rows e in
      elim (entailment_is_decided (atoms_of c J l (v.front ++ back)) (atom v.end)) [
        | inl y ↦ let h = has_pruned n v.front back v.shorter in (h.0, question v.end (v.front ++ back) ∷ h.1, drops v.end v.is y h.2)
        | inr y ↦ let h = has_pruned n v.front (v.end ∷ back) v.shorter in (h.0, question v.end (v.front ++ back) ∷ h.1, keeps v.end v.is y h.2)
      ]

  has_printed_at : (n : ℕ) → (printed : List Atom) × (asked : List Question) × IsPrinted c J l n printed asked
  has_printed_at n = by (J l (never n)) refl
    where
      by : (b : Bool) → J l (never n) ≡ b → (printed : List Atom) × (asked : List Question) × IsPrinted c J l n printed asked
      by true e = (never n ∷ [], [], record { dead = λ t. (refl, refl); other = λ f. differ (sym e ∙ f) })
      by false e =
          let h = has_pruned (length (kept_rows c J l)) (kept_rows c J l) [] refl in
          (atoms_of c J l h.0, h.1, record { dead = λ t. differ (sym t ∙ e); other = λ f. record { left = h.0; pruned = h.2; is = refl } })

  -- ---- it says what the list says
  pruned_some : {rows back left : List ℕ} {asked : List Question} → Pruned c J l rows back asked left → (r : ℕ) → Among r left → Among r (rows ++ back)
  pruned_some done r m = m
  pruned_some {back = back} (drops {front = f} t e n rest) r m = elim (among-++ f (pruned_some rest r m)) [
    | inl k ↦ among-left back (subst (Among r) (sym e) (among-left (t ∷ []) k))
    | inr k ↦ among-right _ k
  ]
  pruned_some {back = back} (keeps {front = f} t e n rest) r m = elim (among-++ f (pruned_some rest r m)) [
    | inl k ↦ among-left back (subst (Among r) (sym e) (among-left (t ∷ []) k))
    | inr k ↦ elim (among_cons k) [
      | inl s ↦ among-left back (subst (Among r) (sym e) (among-right f (subst (λ x. Among x (t ∷ [])) (sym s) head)))
      | inr i ↦ among-right _ i
    ]
  ]

  module _ (p : Point) where
    abbrev Met : List ℕ → Type 0
    Met rows = (r : ℕ) → Among r rows → MeetsAt p (atom r)

    met_list : (rows : List ℕ) → Met rows → MeetsAll p (atoms_of c J l rows)
    met_list rows h = among_each (MeetsAt p) _ (λ a m. let f = mapped_among atom rows m in subst (MeetsAt p) (sym f.is) (h f.of f.among))

    list_met : (rows : List ℕ) → MeetsAll p (atoms_of c J l rows) → Met rows
    list_met rows h r m = each_among (MeetsAt p) h (among_map atom m)

    pruned_met : {rows back left : List ℕ} {asked : List Question} → Pruned c J l rows back asked left → Met left → Met (rows ++ back)
    pruned_met done h r m = h r m
    pruned_met {rows = rows} {back = back} (drops {front = f} t e n rest) h r m =
        let k = pruned_met rest h in
        elim (among-++ rows m) [
          | inl i ↦ elim (among-++ f (subst (Among r) e i)) [
            | inl j ↦ k r (among-left back j)
            | inr j ↦ elim (among_cons j) [ inl s ↦ subst (λ x. MeetsAt p (atom x)) (sym s) (n p (met_list _ k)) | inr z ↦ none_among z ]
          ]
          | inr i ↦ k r (among-right f i)
        ]
    pruned_met {rows = rows} {back = back} (keeps {front = f} t e n rest) h r m =
        let k = pruned_met rest h in
        elim (among-++ rows m) [
          | inl i ↦ elim (among-++ f (subst (Among r) e i)) [
            | inl j ↦ k r (among-left (t ∷ back) j)
            | inr j ↦ elim (among_cons j) [ inl s ↦ k r (among-right f (subst (λ x. Among x (t ∷ back)) (sym s) head)) | inr z ↦ none_among z ]
          ]
          | inr i ↦ k r (among-right f (tail i))
        ]

    printed_says : (n : ℕ) (printed : List Atom) (asked : List Question) → IsPrinted c J l n printed asked → MeetsAll p printed ↔ MeetsAll p (atoms_at n c J l)
    printed_says n printed asked h = by (J l (never n)) refl
      where
        by : (b : Bool) → J l (never n) ≡ b → MeetsAll p printed ↔ MeetsAll p (cond b (never n ∷ []) (map atom (kept_rows c J l)))
        by true e = let x = h.dead e in ((λ m. subst (MeetsAll p) x.0 m), (λ m. subst (MeetsAll p) (sym x.0) m))
        by false e =
            let x = h.other e in
            let rows = kept_rows c J l in (
              (λ m. met_list rows (λ r i. pruned_met x.pruned (list_met x.left (subst (MeetsAll p) x.is m)) r (among-left [] i))),
              (λ m. subst (MeetsAll p) (sym x.is) (met_list x.left (λ r i. list_met rows m r (subst (Among r) (append-nil rows) (pruned_some x.pruned r i))))),
            )

  -- each printed atom is one of the family
  printed_there : (n : ℕ) (printed : List Atom) (asked : List Question) → IsPrinted c J l n printed asked → (a : Atom) → Among a printed → J l a ≡ true
  printed_there n printed asked h a m = by (J l (never n)) refl
    where
      by : (b : Bool) → J l (never n) ≡ b → J l a ≡ true
      by true e = elim (among_cons (subst (Among a) (h.dead e).0 m)) [ inl s ↦ ap (J l) s ∙ e | inr z ↦ none_among z ]
      by false e =
          let x = h.other e in
          let f = mapped_among atom x.left (subst (Among a) x.is m) in
          ap (J l) f.is ∙ least_is c J l f.of (subst (Among f.of) (append-nil _) (pruned_some x.pruned f.of f.among))

-- ---- all locations
pub one_printed_each : OnePrinted
one_printed_each s c J p q ps qs h k =
    let one : (l : ℕ) → l < s.locs → (slice_index_or p l [] ≡ slice_index_or q l []) × (slice_index_or ps l [] ≡ slice_index_or qs l []) =
    λ l i. one_printed c J l s.vars _ _ _ _ (h.each l i) (k.each l i) in (
      same_lists [] p q (h.one_each ∙ sym k.one_each) (λ l i. (one l (let e = h.one_each in omega arith)).0),
      same_lists [] ps qs (h.one_part_each ∙ sym k.one_part_each) (λ l i. (one l (let e = h.one_part_each in omega arith)).1),
    )

pub has_printed : HasPrinted
has_printed s c J =
    let at : (l : ℕ) → (printed : List Atom) × (asked : List Question) × IsPrinted c J l s.vars printed asked = λ l. has_printed_at c J l s.vars in
    let printed = map (λ l. (at l).0) (range_with_len 0 s.locs) in
    let asked = map (λ l. (at l).1) (range_with_len 0 s.locs) in (
      printed,
      asked,
      record {
        one_each = length-map-range_with_len (λ l. (at l).0) 0 s.locs;
        one_part_each = length-map-range_with_len (λ l. (at l).1) 0 s.locs;
        each = λ l i.
            let e = get_or-map-range_with_len (λ l. (at l).0) 0 s.locs l l [] i (omega arith) in
            let f = get_or-map-range_with_len (λ l. (at l).1) 0 s.locs l l [] i (omega arith) in
            subst (λ x. IsPrinted c J l s.vars x (slice_index_or asked l [])) (sym e) (subst (IsPrinted c J l s.vars (at l).0) (sym f) (at l).2);
      },
    )

pub printed_say_lists : PrintedSayLists
printed_say_lists s c J printed asked l p h i = printed_says c J l p s.vars _ _ (h.each l i)

module _ (s : Graph) (cases : List (List Atom)) (c : Candidates) (J : Family) (printed : List (List Atom)) (asked : List (List Question))
    (w : IsGraph s) (kind : AreCandidates s.vars c) (g : IsGreatest s cases c J) (h : ArePrinted s c J printed asked) where
  within : IsWithin (family_of printed) J
  within l a t = elim (cases_lt l s.locs) [
    | inl i ↦ printed_there c J l s.vars _ _ (h.each l i) a (has_among _ a t)
    | inr i ↦ let e : slice_index_or printed l [] ≡ [] = past_none printed l [] (let k = h.one_each in omega arith) in differ (sym (subst (λ xs. has_atom xs a ≡ true) e t))
  ]

  -- where the printed atoms are met the family is
  met : (l : ℕ) (p : Point) → l < s.locs → MeetsFamily (family_of printed) l p → MeetsFamily J l p
  met l p i m = (lists_are_families s c J l p kind g.candidates).0 ((printed_say_lists s c J printed asked l p h i).0 (among_each (MeetsAt p) _ (λ a k. m.each a (among_has a _ k))))

  inductive : IsInductive s cases (family_of printed)
  inductive l a t =
      let x = g.inductive l a (within l a t) in
      record {
        entry = x.entry;
        edges = λ e m f p i k. x.edges e m f p (met e.from p (each_among (EndsWithin s.locs) w.ends m).from i) k;
      }

pub printed_are_inductive : PrintedAreInductive
printed_are_inductive s cases c J printed asked w kind g h = inductive s cases c J printed asked w kind g h
