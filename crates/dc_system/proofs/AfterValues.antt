-- Linear forms and atoms after an edge's update: their values at states and at rational points.
use Rattle.std.specs.Prelude.{◌≡◌, ℕ, ◌+◌, Bool, true, false, cond, List, [], ◌∷◌, map, ℤ, pos, ◌+ℤ◌, ◌*ℤ◌}
use Rattle.std.specs.List.{AllByRecursion}
use Rattle.std.proofs.Common.{refl, sym, ◌∙◌, ap, ap₂, subst, arith}
use Rattle.std.proofs.lemmas.Bool.{leb-true}
use Rattle.std.proofs.lemmas.Int.{ints}
use Rattle.std.proofs.Math.IntN.{*ℤ-zero}
use Rattle.dc_math.specs.WholeVectors.{dot_ℤ}
use Rattle.dc_math.specs.WholeRing.{ring, reads, read_nat, same_form}
use Rattle.dc_poly.specs.Terms.{Exponents, TermList, value, coef, same_mono, degree_of, Places, Canonical, Polynomial}
use Rattle.dc_poly.specs.Sums.{shifted, zeros, values}
use Rattle.dc_poly.specs.Affine.{units}
use Rattle.dc_poly.proofs.Values.{value-plus, value-shifted, coef-plus, Canonical-plus}
use Rattle.dc_poly.proofs.Padded.{Places-plus}
use Rattle.dc_affine.specs.declared.atom.Atom.{Atom}
use Rattle.dc_affine.specs.Atoms.{atom_value, scaled_value}
use Rattle.dc_affine.proofs.Units.{read_value}
use Rattle.dc_system.specs.declared.edges.Edge.{Edge}
use Rattle.dc_system.specs.Composed.{coef_at}
use Rattle.dc_system.specs.Shapes.{IsForm, IsEdge}
use Rattle.dc_system.specs.After.{weighted, is_affine_after, atom_after, affine_part, affine_parts}

-- ---- the value and the coefficients of a weighted sum
one_times : (c x : ℤ) → (c *ℤ pos 1) *ℤ x ≡ c *ℤ x
one_times c x = ring (c ∷ x ∷ []) (λ ρ p q. simp (p, q, read_nat ρ, reads) (same_form _ _ _ refl))

pub value-weighted : (cs : List ℤ) (vs : List Polynomial) (xs : List ℤ) → value (weighted cs vs) xs ≡ dot_ℤ cs (values vs xs)
value-weighted [] vs xs = refl
value-weighted (c ∷ cs) [] xs = refl
value-weighted (c ∷ cs) (v ∷ vs) xs =
    value-plus (shifted [] c v.terms) (weighted cs vs) xs ∙ ap₂ ◌+ℤ◌ (value-shifted [] c v.terms xs ∙ one_times c (value v.terms xs)) (value-weighted cs vs xs)

share : (c t k : ℤ) → c *ℤ t +ℤ c *ℤ k ≡ c *ℤ (t +ℤ k)
share c t k = ring (c ∷ t ∷ k ∷ []) (λ ρ p q r. simp (p, q, r, reads) (same_form _ _ _ refl))

none : (c k : ℤ) → pos 0 +ℤ c *ℤ k ≡ c *ℤ (pos 0 +ℤ k)
none c k = ring (c ∷ k ∷ []) (λ ρ p q. simp (p, q, read_nat ρ, reads) (same_form _ _ _ refl))

pub coef-shifted : (c : ℤ) (p : TermList) (u : Exponents) → coef (shifted [] c p) u ≡ c *ℤ coef p u
coef-shifted c [] u = sym (*ℤ-zero c)
coef-shifted c (t ∷ p) u = by (coef-shifted c p u) (same_mono t.mono u)
  where
    by : coef (shifted [] c p) u ≡ c *ℤ coef p u → (b : Bool) → cond b (c *ℤ t.coef) (pos 0) +ℤ coef (shifted [] c p) u ≡ c *ℤ (cond b t.coef (pos 0) +ℤ coef p u)
    by r true = ap (λ y. c *ℤ t.coef +ℤ y) r ∙ share c t.coef (coef p u)
    by r false = ap (λ y. pos 0 +ℤ y) r ∙ none c (coef p u)

pub coef-weighted : (cs : List ℤ) (vs : List Polynomial) (u : Exponents) → coef (weighted cs vs) u ≡ coef_at cs vs u
coef-weighted [] vs u = refl
coef-weighted (c ∷ cs) [] u = refl
coef-weighted (c ∷ cs) (v ∷ vs) u = coef-plus (shifted [] c v.terms) (weighted cs vs) u ∙ ap₂ ◌+ℤ◌ (coef-shifted c v.terms u) (coef-weighted cs vs u)

-- ---- its places
Places-shifted : (n : ℕ) (c : ℤ) (p : TermList) → Places n p → Places n (shifted [] c p)
Places-shifted n c [] h = tt
Places-shifted n c (t ∷ p) h = (h.0, Places-shifted n c p h.1)

pub Places-weighted : (n : ℕ) (cs : List ℤ) (vs : List Polynomial) → AllByRecursion (IsForm n) vs → Places n (weighted cs vs)
Places-weighted n [] vs h = tt
Places-weighted n (c ∷ cs) [] h = tt
Places-weighted n (c ∷ cs) (v ∷ vs) h =
    Places-plus n _ _ (Places-shifted n c v.terms (subst (λ m. Places m v.terms) h.0.has_places h.0.kind.padded)) (Places-weighted n cs vs h.1)

regroup : (a k d : ℤ) → (a +ℤ k) +ℤ d ≡ a +ℤ (k +ℤ d)
regroup a k d = ring (a ∷ k ∷ d ∷ []) (λ ρ p q r. simp (p, q, r, reads) (same_form _ _ _ refl))

same_dot : (f g : Exponents → ℤ) → ((u : Exponents) → f u ≡ g u) → (us : List Exponents) (xs : List ℤ) → dot_ℤ (map f us) xs ≡ dot_ℤ (map g us) xs
same_dot f g e [] xs = refl
same_dot f g e (u ∷ us) [] = refl
same_dot f g e (u ∷ us) (x ∷ xs) = ap₂ (λ a b. a *ℤ x +ℤ b) (e u) (same_dot f g e us xs)

-- a linear form that is affine after an update has there the value that it has at the updated state
pub row_value : (n : ℕ) (e : Edge) (row xs : List ℤ) → IsEdge n e → is_affine_after e row ≡ true
    → coef_at row e.update (zeros (n + 1)) +ℤ dot_ℤ (map (coef_at row e.update) (units (n + 1))) xs ≡ dot_ℤ row (values e.update xs)
row_value n e row xs h d =
    let w = weighted row e.update in
    let k = coef-weighted row e.update in
    ap₂ ◌+ℤ◌ (sym (k (zeros (n + 1)))) (sym (same_dot (coef w) (coef_at row e.update) k (units (n + 1)) xs))
    ∙ read_value (n + 1) w xs (Places-weighted (n + 1) row e.update h.updates) (leb-true (degree_of w) 1 d)
    ∙ value-weighted row e.update xs

pub atom_after_value : (n : ℕ) (e : Edge) (a : Atom) (xs : List ℤ) → IsEdge n e → is_affine_after e a.coefs ≡ true → atom_value (atom_after n e a) xs ≡ atom_value a (values e.update xs)
atom_after_value n e a xs h d = regroup a.c0 _ _ ∙ ap (λ y. a.c0 +ℤ y) (row_value n e a.coefs xs h d)

-- ---- at a rational point
plain : (x d : ℤ) → d ≡ pos 0 → pos 0 *ℤ x +ℤ d ≡ pos 0
plain x d e = omega (arith, ints)

nothing : (us : List Exponents) (xs : List ℤ) → dot_ℤ (map (λ u. pos 0) us) xs ≡ pos 0
nothing [] xs = refl
nothing (u ∷ us) [] = refl
nothing (u ∷ us) (x ∷ xs) = plain x _ (nothing us xs)

combine : (c : ℤ) (f g : Exponents → ℤ) (us : List Exponents) (xs : List ℤ) → dot_ℤ (map (λ u. c *ℤ f u +ℤ g u) us) xs ≡ c *ℤ dot_ℤ (map f us) xs +ℤ dot_ℤ (map g us) xs
combine c f g [] xs = ring (c ∷ []) (λ ρ i. simp (i, read_nat ρ, reads) (same_form _ _ _ refl))
combine c f g (u ∷ us) [] = ring (c ∷ []) (λ ρ i. simp (i, read_nat ρ, reads) (same_form _ _ _ refl))
combine c f g (u ∷ us) (x ∷ xs) = shape c (f u) (g u) x _ _ _ (combine c f g us xs)
  where
    shape : (c a b x y z v : ℤ) → v ≡ c *ℤ y +ℤ z → (c *ℤ a +ℤ b) *ℤ x +ℤ v ≡ c *ℤ (a *ℤ x +ℤ y) +ℤ (b *ℤ x +ℤ z)
    shape c a b x y z v e = rw e (ring (c ∷ a ∷ b ∷ x ∷ y ∷ z ∷ []) (λ ρ i j k l m o. simp (i, j, k, l, m, o, reads) (same_form _ _ _ refl)))

parts : (n : ℕ) (q : ℤ) (xs cs : List ℤ) (vs : List Polynomial) → coef_at cs vs (zeros (n + 1)) *ℤ q +ℤ dot_ℤ (map (coef_at cs vs) (units (n + 1))) xs ≡ dot_ℤ cs (affine_parts n q xs vs)
parts n q xs [] vs = plain q _ (nothing (units (n + 1)) xs)
parts n q xs (c ∷ cs) [] = plain q _ (nothing (units (n + 1)) xs)
parts n q xs (c ∷ cs) (v ∷ vs) =
    ap (λ d. coef_at (c ∷ cs) (v ∷ vs) (zeros (n + 1)) *ℤ q +ℤ d) (combine c (coef v.terms) (coef_at cs vs) (units (n + 1)) xs)
    ∙ split c (coef v.terms (zeros (n + 1))) (coef_at cs vs (zeros (n + 1))) q _ _
    ∙ ap (λ d. c *ℤ affine_part n q xs v +ℤ d) (parts n q xs cs vs)
  where
    split : (c a b q d k : ℤ) → (c *ℤ a +ℤ b) *ℤ q +ℤ (c *ℤ d +ℤ k) ≡ c *ℤ (a *ℤ q +ℤ d) +ℤ (b *ℤ q +ℤ k)
    split c a b q d k = ring (c ∷ a ∷ b ∷ q ∷ d ∷ k ∷ []) (λ ρ p r s t u v. simp (p, r, s, t, u, v, reads) (same_form _ _ _ refl))

-- an atom after an update has at a point what it has at the affine parts of the updates there
pub atom_after_scaled : (n : ℕ) (e : Edge) (a : Atom) (q : ℤ) (xs : List ℤ) → scaled_value (atom_after n e a) q xs ≡ scaled_value a q (affine_parts n q xs e.update)
atom_after_scaled n e a q xs = split a.c0 (coef_at a.coefs e.update (zeros (n + 1))) q _ ∙ ap (λ d. a.c0 *ℤ q +ℤ d) (parts n q xs a.coefs e.update)
  where
    split : (a k q d : ℤ) → (a +ℤ k) *ℤ q +ℤ d ≡ a *ℤ q +ℤ (k *ℤ q +ℤ d)
    split a k q d = ring (a ∷ k ∷ q ∷ d ∷ []) (λ ρ p r s t. simp (p, r, s, t, reads) (same_form _ _ _ refl))

-- ---- the sum is in order
pub Canonical-weighted : (cs : List ℤ) (vs : List Polynomial) → Canonical (weighted cs vs)
Canonical-weighted [] vs = tt
Canonical-weighted (c ∷ cs) [] = tt
Canonical-weighted (c ∷ cs) (v ∷ vs) = Canonical-plus (shifted [] c v.terms) (weighted cs vs) (Canonical-weighted cs vs)
