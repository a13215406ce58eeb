-- Along a composed edge one gets where one gets along the two.
use Rattle.std.specs.Prelude.{◌≡◌, ◌↔◌, ◌⊎◌, ℕ, zero, suc, ◌+◌, ◌≤◌, Bool, true, false, not, ◌&&◌, leb, if◌then◌else◌, List, [], ◌∷◌, ◌++◌, map, length, slice_index_or, ℤ, pos, ◌+ℤ◌, ◌*ℤ◌, int_le, Some, None, refl}
use Rattle.std.specs.List.{AllByRecursion}
use Rattle.std.proofs.Common.{sym, ◌∙◌, ap, ap₂, subst, arith, inl, inr}
use Rattle.std.proofs.lemmas.Int.{ints}
use Rattle.std.proofs.lemmas.Bool.{leb-true, and_parts, and_from}
use Rattle.std.proofs.lemmas.List.{length-map}
use Rattle.dc_math.specs.Members.{each-++}
use Rattle.dc_math.specs.WholeRing.{ring, reads, read_nat, same_form}
use Rattle.dc_math.specs.WholeVectors.{dot_ℤ}
use Rattle.dc_syntax.specs.Value.{State}
use Rattle.dc_syntax.specs.Table.{Then}
use Rattle.dc_poly.specs.Terms.{Exponents, TermList, power, mono_value, value, coef, degree_of, Places, Polynomial}
use Rattle.dc_poly.specs.Sums.{zeros, values, composition_of, places_of, sum_of}
use Rattle.dc_poly.specs.Affine.{units}
use Rattle.dc_poly.proofs.Values.{value-composed, value-plus}
use Rattle.dc_affine.specs.declared.atom.Atom.{Atom}
use Rattle.dc_affine.specs.Atoms.{atom_value, holds_at, all_hold}
use Rattle.dc_affine.proofs.Units.{read_value}
use Rattle.dc_system.specs.declared.edges.Edge.{Edge}
use Rattle.dc_system.specs.Edges.{chosen}
use Rattle.dc_system.specs.Paths.{at, Step}
use Rattle.dc_system.specs.Shapes.{IsForm, TermsSkip, Skips, AtomSkips, IsUnchosen, IsEdge}
use Rattle.dc_system.specs.Composed.{after, coef_at, atom_at, atoms_at, forms_at, composed, all_flat, atoms_fit, form_fits, forms_fit, can_compose, compose_of, Crosses}
use Rattle.dc_poly.proofs.Padded.{Places-variable}
use Rattle.dc_poly.proofs.Degrees.{degree-unit_at}
use Rattle.dc_system.proofs.Points.{chosen_value, values-++}

-- ---- an atom at affine values
combine : (c : ℤ) (f g : Exponents → ℤ) (us : List Exponents) (w : List ℤ) → dot_ℤ (map (λ u. c *ℤ f u +ℤ g u) us) w ≡ c *ℤ dot_ℤ (map f us) w +ℤ dot_ℤ (map g us) w
combine c f g [] w = ring (c ∷ []) (λ ρ i. simp (i, read_nat ρ, reads) (same_form _ _ _ refl))
combine c f g (u ∷ us) [] = ring (c ∷ []) (λ ρ i. simp (i, read_nat ρ, reads) (same_form _ _ _ refl))
combine c f g (u ∷ us) (x ∷ w) = shape c (f u) (g u) x _ _ _ (combine c f g us w)
  where
    shape : (c a b x y z v : ℤ) → v ≡ c *ℤ y +ℤ z → (c *ℤ a +ℤ b) *ℤ x +ℤ v ≡ c *ℤ (a *ℤ x +ℤ y) +ℤ (b *ℤ x +ℤ z)
    shape c a b x y z v e = rw e (ring (c ∷ a ∷ b ∷ x ∷ y ∷ z ∷ []) (λ ρ i j k l m o. simp (i, j, k, l, m, o, reads) (same_form _ _ _ refl)))

nothing : (us : List Exponents) (w : List ℤ) → dot_ℤ (map (λ u. pos 0) us) w ≡ pos 0
nothing [] w = refl
nothing (u ∷ us) [] = refl
nothing (u ∷ us) (x ∷ w) = shape x _ (nothing us w)
  where
    shape : (x y : ℤ) → y ≡ pos 0 → pos 0 *ℤ x +ℤ y ≡ pos 0
    shape x y e = rw e (ring (x ∷ []) (λ ρ i. simp (i, read_nat ρ, reads) (same_form _ _ _ refl)))

-- what a value is by constant and coefficients
abbrev told : Exponents → List Exponents → List ℤ → Polynomial → ℤ
told z us w v = coef v.terms z +ℤ dot_ℤ (map (coef v.terms) us) w

coefs_along : (cs : List ℤ) (vs : List Polynomial) (z : Exponents) (us : List Exponents) (w : List ℤ) → coef_at cs vs z +ℤ dot_ℤ (map (coef_at cs vs) us) w ≡ dot_ℤ cs (map (told z us w) vs)
coefs_along [] vs z us w = ap (λ y. pos 0 +ℤ y) (nothing us w)
coefs_along (c ∷ cs) [] z us w = ap (λ y. pos 0 +ℤ y) (nothing us w)
coefs_along (c ∷ cs) (v ∷ vs) z us w =
    shape c (coef v.terms z) (coef_at cs vs z) (dot_ℤ (map (coef v.terms) us) w) (dot_ℤ (map (coef_at cs vs) us) w) _ _ (combine c (coef v.terms) (coef_at cs vs) us w) (coefs_along cs vs z us w)
  where
    shape : (c a b y d l r : ℤ) → l ≡ c *ℤ y +ℤ d → b +ℤ d ≡ r → (c *ℤ a +ℤ b) +ℤ l ≡ c *ℤ (a +ℤ y) +ℤ r
    shape c a b y d l r e f = rw (e, ← f) (ring (c ∷ a ∷ b ∷ y ∷ d ∷ []) (λ ρ i j k m o. simp (i, j, k, m, o, reads) (same_form _ _ _ refl)))

-- affine values of m places
pub record IsFlat (m : ℕ) (p : Polynomial) : Type 0 where
  pub padded : Places m p.terms
  pub low : degree_of p.terms ≤ 1

told_values : (m : ℕ) (vs : List Polynomial) (w : List ℤ) → AllByRecursion (IsFlat m) vs → map (told (zeros m) (units m) w) vs ≡ values vs w
told_values m [] w h = refl
told_values m (v ∷ vs) w h = ap₂ ◌∷◌ (read_value m v.terms w h.0.padded h.0.low) (told_values m vs w h.1)

atom_at_value : (m : ℕ) (a : Atom) (vs : List Polynomial) (w : List ℤ) → AllByRecursion (IsFlat m) vs → atom_value (atom_at m a vs) w ≡ atom_value a (values vs w)
atom_at_value m a vs w h =
    shape a.c0 _ _ _ (coefs_along a.coefs vs (zeros m) (units m) w ∙ ap (dot_ℤ a.coefs) (told_values m vs w h))
  where
    shape : (k x y z : ℤ) → x +ℤ y ≡ z → (k +ℤ x) +ℤ y ≡ k +ℤ z
    shape k x y z e = omega (arith, ints)

atoms_at_hold : (m : ℕ) (gs : List Atom) (vs : List Polynomial) (w : List ℤ) → AllByRecursion (IsFlat m) vs → all_hold (atoms_at m gs vs) w ≡ all_hold gs (values vs w)
atoms_at_hold m [] vs w h = refl
atoms_at_hold m (a ∷ gs) vs w h = ap₂ ◌&&◌ (ap (int_le (pos 0)) (atom_at_value m a vs w h)) (atoms_at_hold m gs vs w h)

all_hold-++ : (gs bs : List Atom) (w : List ℤ) → all_hold (gs ++ bs) w ≡ (all_hold gs w && all_hold bs w)
all_hold-++ [] bs w = refl
all_hold-++ (a ∷ gs) bs w = ap (λ b. holds_at a w && b) (all_hold-++ gs bs w) ∙ grouped (holds_at a w) (all_hold gs w) (all_hold bs w)
  where
    grouped : (a b c : Bool) → (a && (b && c)) ≡ ((a && b) && c)
    grouped true b c = refl
    grouped false b c = refl

-- ---- forms at values
pub forms_at_values : (ps vs : List Polynomial) (w : List ℤ) → values (forms_at ps vs) w ≡ values ps (values vs w)
forms_at_values [] vs w = refl
forms_at_values (p ∷ ps) vs w = ap₂ ◌∷◌ (value-composed (places_of vs) p.terms vs w) (forms_at_values ps vs w)

after_values : (n : ℕ) (e : Edge) (s : State) (z : ℤ) → length s ≡ n → values (after n e) (at s z) ≡ at (values e.update (at s z)) z
after_values n e s z l = values-++ e.update (chosen n ∷ []) (at s z) ∙ ap (λ y. values e.update (at s z) ++ y ∷ []) (chosen_value n s z l)

-- ---- what does not mention the chosen value
mono_skips : (n : ℕ) (m : Exponents) (s : State) (y z : ℤ) → length m ≡ n + 1 → slice_index_or m n 0 ≡ 0 → length s ≡ n → mono_value m (at s y) ≡ mono_value m (at s z)
mono_skips n [] s y z l h k = refl
mono_skips zero (e ∷ []) [] y z l h k = rw h refl
mono_skips zero (e ∷ f ∷ m) [] y z l h k = absurd (omega arith)
mono_skips (suc n) (e ∷ m) [] y z l h k = absurd (omega arith)
mono_skips zero (e ∷ m) (x ∷ s) y z l h k = absurd (omega arith)
mono_skips (suc n) (e ∷ m) (x ∷ s) y z l h k = ap (λ v. power x e *ℤ v) (mono_skips n m s y z (omega arith) h (omega arith))

terms_skip : (n : ℕ) (p : TermList) (s : State) (y z : ℤ) → Places (n + 1) p → TermsSkip n p → length s ≡ n → value p (at s y) ≡ value p (at s z)
terms_skip n [] s y z j h k = refl
terms_skip n (t ∷ p) s y z j h k = ap₂ (λ u v. t.coef *ℤ u +ℤ v) (mono_skips n t.mono s y z j.0 h.0 k) (terms_skip n p s y z j.1 h.1 k)

dot_skips : (n : ℕ) (cs : List ℤ) (s : State) (y z : ℤ) → slice_index_or cs n (pos 0) ≡ pos 0 → length s ≡ n → dot_ℤ cs (at s y) ≡ dot_ℤ cs (at s z)
dot_skips n [] s y z h k = refl
dot_skips zero (c ∷ cs) [] y z h k = by cs
  where
    gone : (x y : ℤ) → x ≡ pos 0 → x *ℤ y +ℤ pos 0 ≡ pos 0
    gone x y e = rw e (ring (y ∷ []) (λ ρ i. simp (i, read_nat ρ, reads) (same_form _ _ _ refl)))

    by : (cs : List ℤ) → c *ℤ y +ℤ dot_ℤ cs [] ≡ c *ℤ z +ℤ dot_ℤ cs []
    by [] = gone c y h ∙ sym (gone c z h)
    by (d ∷ cs) = gone c y h ∙ sym (gone c z h)
dot_skips (suc n) (c ∷ cs) [] y z h k = absurd (omega arith)
dot_skips zero (c ∷ cs) (x ∷ s) y z h k = absurd (omega arith)
dot_skips (suc n) (c ∷ cs) (x ∷ s) y z h k = ap (λ v. c *ℤ x +ℤ v) (dot_skips n cs s y z h (omega arith))

atoms_skip : (n : ℕ) (gs : List Atom) (s : State) (y z : ℤ) → AllByRecursion (AtomSkips n) gs → length s ≡ n → all_hold gs (at s y) ≡ all_hold gs (at s z)
atoms_skip n [] s y z h k = refl
atoms_skip n (a ∷ gs) s y z h k = ap₂ ◌&&◌ (ap (λ v. int_le (pos 0) (a.c0 +ℤ v)) (dot_skips n a.coefs s y z h.0 k)) (atoms_skip n gs s y z h.1 k)

forms_padded : (n : ℕ) (ps : List Polynomial) → AllByRecursion (IsForm (n + 1)) ps → AllByRecursion (λ p. Places (n + 1) p.terms) ps
forms_padded n [] h = tt
forms_padded n (p ∷ ps) h = (subst (λ k. Places k p.terms) h.0.has_places h.0.kind.padded, forms_padded n ps h.1)

values_skip : (n : ℕ) (ps : List Polynomial) (s : State) (y z : ℤ) → AllByRecursion (λ p. Places (n + 1) p.terms) ps → AllByRecursion (Skips n) ps → length s ≡ n → values ps (at s y) ≡ values ps (at s z)
values_skip n [] s y z j h k = refl
values_skip n (p ∷ ps) s y z j h k = ap₂ ◌∷◌ (terms_skip n p.terms s y z j.0 h.0 k) (values_skip n ps s y z j.1 h.1 k)

pub step_any : (n : ℕ) (e : Edge) (s t : State) (c y z : ℤ) → IsEdge n e → e.any ≡ false → length s ≡ n → Step e s y c t → Step e s z c t
step_any n e s t c y z h a l w =
    let u : IsUnchosen n e = h.unchosen a in
    record {
      passes = sym (atoms_skip n e.guard s y z u.guard l) ∙ w.passes;
      costs = w.costs ∙ terms_skip n e.cost.terms s y z (subst (λ k. Places k e.cost.terms) h.cost.has_places h.cost.kind.padded) u.cost l;
      moves = w.moves ∙ values_skip n e.update s y z (forms_padded n e.update h.updates) u.update l;
    }

pub step_length : (n : ℕ) (e : Edge) (s t : State) (c z : ℤ) → IsEdge n e → Step e s z c t → length t ≡ n
step_length n e s t c z h w = ap length w.moves ∙ length-map e.update (λ (p : Polynomial). value p.terms (at s z)) ∙ h.one_each

-- ---- what can be composed
pub record Composable (n : ℕ) (e f : Edge) : Type 0 where
  pub one_choice : (e.any ≡ false) ⊎ (f.any ≡ false)
  pub flat : all_flat e.update ≡ true
  pub few : length e.guard + length f.guard ≤ 256
  pub atoms : atoms_fit (atoms_at (n + 1) f.guard (after n e)) ≡ true
  pub updates : forms_fit (forms_at f.update (after n e)) ≡ true
  pub cost : form_fits (sum_of e.cost (composition_of f.cost (after n e))) ≡ true

not_both : (a b : Bool) → not (a && b) ≡ true → (a ≡ false) ⊎ (b ≡ false)
not_both true true h = cc
not_both true false h = inr refl
not_both false b h = inl refl

pub can_be : (n : ℕ) (e f : Edge) → can_compose n e f ≡ true → Composable n e f
can_be n e f h =
    let a = and_parts (not (e.any && f.any)) _ h in
    let b = and_parts (all_flat e.update) _ a.1 in
    let c = and_parts (leb (length e.guard + length f.guard) 256) _ b.1 in
    let d = and_parts (atoms_fit (atoms_at (n + 1) f.guard (after n e))) _ c.1 in
    let g = and_parts (forms_fit (forms_at f.update (after n e))) (form_fits (sum_of e.cost (composition_of f.cost (after n e)))) d.1 in
    record { one_choice = not_both e.any f.any a.0; flat = b.0; few = leb-true (length e.guard + length f.guard) 256 c.0; atoms = d.0; updates = g.0; cost = g.1 }

pub record Made (n : ℕ) (e f g : Edge) : Type 0 where
  pub can : Composable n e f
  pub is : g ≡ composed n e f

pub made_by : (n : ℕ) (e f g : Edge) → compose_of n e f ≡ Some g → Made n e f g
made_by n e f g h = by (can_compose n e f) refl h
  where
    by : (b : Bool) → can_compose n e f ≡ b → (if b then Some (composed n e f) else None) ≡ Some g → Made n e f g
    by true q h = let r : g ≡ composed n e f = cc in record { can = can_be n e f q; is = r }
    by false q h = cc

flat_all : (n : ℕ) (ps : List Polynomial) → all_flat ps ≡ true → AllByRecursion (IsForm (n + 1)) ps → AllByRecursion (IsFlat (n + 1)) ps
flat_all n [] h j = tt
flat_all n (p ∷ ps) h j =
    let q = and_parts (leb (degree_of p.terms) 1) (all_flat ps) h in
    (record { padded = subst (λ k. Places k p.terms) j.0.has_places j.0.kind.padded; low = leb-true (degree_of p.terms) 1 q.0 }, flat_all n ps q.1 j.1)

pub after_flat : (n : ℕ) (e : Edge) → IsEdge n e → all_flat e.update ≡ true → AllByRecursion (IsFlat (n + 1)) (after n e)
after_flat n e h a =
    each-++ (IsFlat (n + 1)) e.update (chosen n ∷ []) (flat_all n e.update a h.updates)
    (record { padded = Places-variable n (n + 1); low = (let d = degree-unit_at (n + 1) n in omega arith) }, tt)

-- ---- both ways
apart : (n : ℕ) (e f : Edge) (s t : State) (c : ℤ) → Composable n e f → IsEdge n e → IsEdge n f → length s ≡ n → Crosses (composed n e f) s c t → Then (Crosses e) (Crosses f) s c t
apart n e f s t c k h j l w =
    let z = w.0 in
    let m = values e.update (at s z) in
    let g = and_parts (all_hold e.guard (at s z)) (all_hold (atoms_at (n + 1) f.guard (after n e)) (at s z)) (sym (all_hold-++ e.guard (atoms_at (n + 1) f.guard (after n e)) (at s z)) ∙ w.1.passes) in
    let v = after_values n e s z l in (
      m,
      value e.cost.terms (at s z),
      value f.cost.terms (at m z),
      (z, record { passes = g.0; costs = refl; moves = refl }),
      (z, record { passes = ap (all_hold f.guard) (sym v) ∙ sym (atoms_at_hold (n + 1) f.guard (after n e) (at s z) (after_flat n e h k.flat)) ∙ g.1; costs = refl; moves = w.1.moves ∙ forms_at_values f.update (after n e) (at s z) ∙ ap (values f.update) v }),
      w.1.costs ∙ value-plus e.cost.terms (composition_of f.cost (after n e)).terms (at s z) ∙ ap (λ y. value e.cost.terms (at s z) +ℤ y) (value-composed (places_of (after n e)) f.cost.terms (after n e) (at s z) ∙ ap (value f.cost.terms) v),
    )

together : (n : ℕ) (e f : Edge) (s m t : State) (a b z : ℤ) → Composable n e f → IsEdge n e → length s ≡ n → Step e s z a m → Step f m z b t → Step (composed n e f) s z (a +ℤ b) t
together n e f s m t a b z k h l x y =
    let v : values (after n e) (at s z) ≡ at m z = after_values n e s z l ∙ ap (λ i. at i z) (sym x.moves) in
    record {
      passes = all_hold-++ e.guard (atoms_at (n + 1) f.guard (after n e)) (at s z) ∙ and_from _ _ x.passes (atoms_at_hold (n + 1) f.guard (after n e) (at s z) (after_flat n e h k.flat) ∙ ap (all_hold f.guard) v ∙ y.passes);
      costs = ap₂ ◌+ℤ◌ x.costs (y.costs ∙ ap (value f.cost.terms) (sym v) ∙ sym (value-composed (places_of (after n e)) f.cost.terms (after n e) (at s z))) ∙ sym (value-plus e.cost.terms (composition_of f.cost (after n e)).terms (at s z));
      moves = y.moves ∙ ap (values f.update) (sym v) ∙ sym (forms_at_values f.update (after n e) (at s z));
    }

one_after : (n : ℕ) (e f : Edge) (s m t : State) (a b y z : ℤ) → Composable n e f → IsEdge n e → IsEdge n f → length s ≡ n → Step e s y a m → Step f m z b t → Crosses (composed n e f) s (a +ℤ b) t
one_after n e f s m t a b y z k h j l x w = by k.one_choice
  where
    by : (e.any ≡ false) ⊎ (f.any ≡ false) → Crosses (composed n e f) s (a +ℤ b) t
    by (inl q) = (z, together n e f s m t a b z k h l (step_any n e s m a y z h q l x) w)
    by (inr q) = (y, together n e f s m t a b y k h l x (step_any n f m t b z y j q (step_length n e s m a y h x) w))

pub composed_crosses : (n : ℕ) (e f g : Edge) → IsEdge n e → IsEdge n f → compose_of n e f ≡ Some g → (s : State) (c : ℤ) (t : State) → length s ≡ n → Crosses g s c t ↔ Then (Crosses e) (Crosses f) s c t
composed_crosses n e f g h j q s c t l =
    let d = made_by n e f g q in (
      (λ w. apart n e f s t c d.can h j l (subst (λ x. Crosses x s c t) d.is w)),
      λ w. subst (λ x. Crosses x s c t) (sym d.is) (subst (λ y. Crosses (composed n e f) s y t) (sym w.5) (one_after n e f s w.0 t w.1 w.2 w.3.0 w.4.0 d.can h j l w.3.1 w.4.1)),
    )
