-- Folding a location keeps the paths between other locations.
use Rattle.std.specs.Prelude.{◌≡◌, ◌↔◌, ◌⊎◌, ℕ, Bool, true, false, not, ◌||◌, eqb, if◌then◌else◌, List, [], ◌∷◌, map, length, ℤ, ◌+ℤ◌, Some, None, refl}
use Rattle.std.proofs.Common.{sym, ◌∙◌, ap, subst, inl, inr}
use Rattle.std.proofs.Math.IntN.{+ℤ_assoc}
use Rattle.std.proofs.lemmas.Bool.{eqb-true, eqb-false, eq-eqb, ne_eqb, or_parts}
use Rattle.dc_math.specs.Members.{Among, head, among-one, among_map, mapped_among, among_filter}
use Rattle.dc_syntax.specs.Value.{State}
use Rattle.dc_syntax.specs.Table.{Then}
use Rattle.dc_system.specs.declared.edges.Edge.{Edge}
use Rattle.dc_system.specs.Paths.{Step, Path, here, along}
use Rattle.dc_system.specs.Shapes.{IsEdge}
use Rattle.dc_system.specs.Composed.{compose_of, Crosses}
use Rattle.dc_system.specs.Folded.{into, out_of, joint, fold_at, folded}
use Rattle.dc_system.proofs.Filters.{InBoth, in_kept}
use Rattle.dc_system.proofs.Crossings.{Made, made_by, step_length, composed_crosses}

-- ---- what a foldable location has
pub record Joined (n x l : ℕ) (es : List Edge) (c : Edge) : Type 0 where
  pub first : Edge
  pub second : Edge
  pub not_entry : l ≡ 0 → ⊥
  pub not_exit : l ≡ x → ⊥
  pub goes_in : into l es ≡ first ∷ []
  pub goes_out : out_of l es ≡ second ∷ []
  pub no_loop_in : first.from ≡ l → ⊥
  pub no_loop_out : second.to ≡ l → ⊥
  pub made : compose_of n first second ≡ Some c

pub joined_at : (n x l : ℕ) (es : List Edge) (c : Edge) → fold_at n x es l ≡ Some c → Joined n x l es c
joined_at n x l es c h = by (eqb l 0 || eqb l x) refl (into l es) (out_of l es) refl refl h
  where
    one : (e f : Edge) → (eqb l 0 || eqb l x) ≡ false → into l es ≡ e ∷ [] → out_of l es ≡ f ∷ [] → (b : Bool) → (eqb e.from l || eqb f.to l) ≡ b → (if b then None else compose_of n e f) ≡ Some c → Joined n x l es c
    one e f q i o true p h = cc
    one e f q i o false p h =
        let a = or_parts (eqb l 0) (eqb l x) q in
        let b = or_parts (eqb e.from l) (eqb f.to l) p in
        record { first = e; second = f; not_entry = eqb-false l 0 a.0; not_exit = eqb-false l x a.1; goes_in = i; goes_out = o; no_loop_in = eqb-false e.from l b.0; no_loop_out = eqb-false f.to l b.1; made = h }

    by : (b : Bool) → (eqb l 0 || eqb l x) ≡ b → (is os : List Edge) → into l es ≡ is → out_of l es ≡ os → (if b then None else joint n l is os) ≡ Some c → Joined n x l es c
    by true q is os i o h = cc
    by false q [] os i o h = cc
    by false q (e ∷ []) [] i o h = cc
    by false q (e ∷ []) (f ∷ []) i o h = one e f q i o (eqb e.from l || eqb f.to l) refl h
    by false q (e ∷ []) (f ∷ g ∷ gs) i o h = cc
    by false q (e ∷ f ∷ fs) os i o h = cc

-- ---- the edges of a folded system
module _ (n x l : ℕ) (es : List Edge) (c : Edge) (J : Joined n x l es c) where
  first_among : InBoth (λ (e : Edge). eqb e.to l) J.first es
  first_among = in_kept (λ (e : Edge). eqb e.to l) J.first es (subst (Among J.first) (sym J.goes_in) head)

  second_among : InBoth (λ (e : Edge). eqb e.from l) J.second es
  second_among = in_kept (λ (e : Edge). eqb e.from l) J.second es (subst (Among J.second) (sym J.goes_out) head)

  pub first_in : Among J.first es
  first_in = first_among.among

  pub second_in : Among J.second es
  second_in = second_among.among

  pub first_to : J.first.to ≡ l
  first_to = eqb-true J.first.to l first_among.passes

  pub second_from : J.second.from ≡ l
  second_from = eqb-true J.second.from l second_among.passes

  only_in : (g : Edge) → Among g es → g.to ≡ l → g ≡ J.first
  only_in g i q = among-one (subst (Among g) J.goes_in (among_filter (λ (e : Edge). eqb e.to l) g es (eq-eqb g.to l q) i))

  only_out : (g : Edge) → Among g es → g.from ≡ l → g ≡ J.second
  only_out g i q = among-one (subst (Among g) J.goes_out (among_filter (λ (e : Edge). eqb e.from l) g es (eq-eqb g.from l q) i))

  whole : Made n J.first J.second c
  whole = made_by n J.first J.second c J.made

  pub c_from : c.from ≡ J.first.from
  c_from = ap (λ (e : Edge). e.from) whole.is

  pub c_to : c.to ≡ J.second.to
  c_to = ap (λ (e : Edge). e.to) whole.is

  abbrev swapped : Edge → Edge
  swapped e = if eqb e.to l then c else e

  -- an edge of the folded system is the composed one, or was there
  pub was : (g : Edge) → Among g (folded l c es) → (g ≡ c) ⊎ (Among g es × (g.to ≡ l → ⊥) × (g.from ≡ l → ⊥))
  was g i =
      let b = in_kept (λ (e : Edge). not (eqb e.from l)) g (map swapped es) i in
      let m = mapped_among swapped es b.among in
      by m.of m.among m.is (eqb m.of.to l) refl (eqb g.from l) refl b.passes
    where
      by : (h : Edge) → Among h es → g ≡ swapped h → (a : Bool) → eqb h.to l ≡ a → (d : Bool) → eqb g.from l ≡ d → not d ≡ true → (g ≡ c) ⊎ (Among g es × (g.to ≡ l → ⊥) × (g.from ≡ l → ⊥))
      by h j e true p d q r = inl (e ∙ ap (λ b. if b then c else h) p)
      by h j e false p true q r = cc
      by h j e false p false q r =
          let s : g ≡ h = e ∙ ap (λ b. if b then c else h) p in
          inr (subst (λ y. Among y es) (sym s) j, (λ z. eqb-false h.to l p (ap (λ (y : Edge). y.to) (sym s) ∙ z)), eqb-false g.from l q)

  stays : (g : Edge) → Among g es → (g.to ≡ l → ⊥) → (g.from ≡ l → ⊥) → Among g (folded l c es)
  stays g i a b =
      among_filter (λ (e : Edge). not (eqb e.from l)) g (map swapped es) (ap not (ne_eqb g.from l b))
      (subst (λ y. Among y (map swapped es)) (ap (λ t. if t then c else g) (ne_eqb g.to l a)) (among_map swapped i))

  new : Among c (folded l c es)
  new =
      among_filter (λ (e : Edge). not (eqb e.from l)) c (map swapped es) (ap not (ne_eqb c.from l (λ q. J.no_loop_in (sym c_from ∙ q))))
      (subst (λ y. Among y (map swapped es)) (ap (λ t. if t then c else J.first) first_among.passes) (among_map swapped first_among.among))

  -- ---- paths
  module _ (shape : (g : Edge) → Among g es → IsEdge n g) where
    crosses : (s : State) (a : ℤ) (t : State) → length s ≡ n → Crosses c s a t ↔ Then (Crosses J.first) (Crosses J.second) s a t
    crosses s a t h = composed_crosses n J.first J.second c (shape J.first first_among.among) (shape J.second second_among.among) J.made s a t h

    -- what is left of a path at l: the edge out, and a path of the folded system
    record Rest (s : State) (a : ℤ) (y : ℕ) (t : State) : Type 0 where
      middle : State
      cost : ℤ
      left_cost : ℤ
      out : Crosses J.second s cost middle
      rest : Path (folded l c es) J.second.to middle left_cost y t
      total : a ≡ cost +ℤ left_cost

    onward : {k y : ℕ} {s t : State} {a : ℤ} → (y ≡ l → ⊥) → length s ≡ n → Path es k s a y t → ((k ≡ l → ⊥) → Path (folded l c es) k s a y t) × (k ≡ l → Rest s a y t)
    onward ny h here = ((λ q. here), λ q. absurd (ny q))
    onward {k} {y} {s} {t} ny h (along {m = m} {c = a} {d = d} g z i q w p) =
        let r = onward ny (step_length n g s m a z (shape g i) w) p in (
          by (eqb g.to l) refl r,
          λ e.
              let f : g ≡ J.second = only_out g i (q ∙ e) in
              record { middle = m; cost = a; left_cost = d; out = (z, subst (λ v. Step v s z a m) f w); rest = subst (λ v. Path (folded l c es) v m d y t) (ap (λ (v : Edge). v.to) f) (r.0 (λ o. J.no_loop_out (ap (λ (v : Edge). v.to) (sym f) ∙ o))); total = refl },
        )
      where
        by : (b : Bool) → eqb g.to l ≡ b → ((g.to ≡ l → ⊥) → Path (folded l c es) g.to m d y t) × (g.to ≡ l → Rest m d y t) → (k ≡ l → ⊥) → Path (folded l c es) k s (a +ℤ d) y t
        by false o r nk = along g z (stays g i (eqb-false g.to l o) (λ e. nk (sym q ∙ e))) q w (r.0 (eqb-false g.to l o))
        by true o r nk =
            let to : g.to ≡ l = eqb-true g.to l o in
            let f : g ≡ J.first = only_in g i to in
            let x : Rest m d y t = r.1 to in
            let v : Crosses c s (a +ℤ x.cost) x.middle = (crosses s (a +ℤ x.cost) x.middle h).1 (m, a, x.cost, (z, subst (λ u. Step u s z a m) f w), x.out, refl) in
            let e : (a +ℤ x.cost) +ℤ x.left_cost ≡ a +ℤ d = +ℤ_assoc a x.cost x.left_cost ∙ ap (λ u. a +ℤ u) (sym x.total) in
            subst (λ u. Path (folded l c es) k s u y t) e
            (along c v.0 new (c_from ∙ ap (λ (u : Edge). u.from) (sym f) ∙ q) v.1 (subst (λ u. Path (folded l c es) u x.middle x.left_cost y t) (sym c_to) x.rest))

    back : {k y : ℕ} {s t : State} {a : ℤ} → length s ≡ n → Path (folded l c es) k s a y t → Path es k s a y t
    back h here = here
    back {k} {y} {s} {t} h (along {m = m} {c = a} {d = d} g z i q w p) = by (was g i) (λ e. back e p)
      where
        two : g ≡ c → (length m ≡ n → Path es g.to m d y t) → Path es k s (a +ℤ d) y t
        two e r =
            let v : Then (Crosses J.first) (Crosses J.second) s a m = (crosses s a m h).0 (z, subst (λ u. Step u s z a m) e w) in
            let j = step_length n J.first s v.0 v.1 v.3.0 (shape J.first first_among.among) v.3.1 in
            let o = step_length n J.second v.0 m v.2 v.4.0 (shape J.second second_among.among) v.4.1 in
            let f : v.1 +ℤ (v.2 +ℤ d) ≡ a +ℤ d = sym (+ℤ_assoc v.1 v.2 d) ∙ ap (λ u. u +ℤ d) (sym v.5) in
            subst (λ u. Path es k s u y t) f
            (along J.first v.3.0 first_among.among (sym c_from ∙ ap (λ (u : Edge). u.from) (sym e) ∙ q) v.3.1
            (along J.second v.4.0 second_among.among (second_from ∙ sym first_to) v.4.1 (subst (λ u. Path es u m d y t) (ap (λ (u : Edge). u.to) e ∙ c_to) (r o))))

        by : (g ≡ c) ⊎ (Among g es × (g.to ≡ l → ⊥) × (g.from ≡ l → ⊥)) → (length m ≡ n → Path es g.to m d y t) → Path es k s (a +ℤ d) y t
        by (inl e) r = two e r
        by (inr e) r = along g z e.0 q w (r (step_length n g s m a z (shape g e.0) w))

    pub fold_paths : (k y : ℕ) (s t : State) (a : ℤ) → (k ≡ l → ⊥) → (y ≡ l → ⊥) → length s ≡ n → Path (folded l c es) k s a y t ↔ Path es k s a y t
    fold_paths k y s t a nk ny h = ((λ p. back h p), λ p. (onward ny h p).0 nk)
