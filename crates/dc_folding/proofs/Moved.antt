-- Points after the first of two edges that meet: what holds there after the second edge holds before after the two as one.
use Rattle.std.specs.Prelude.{◌≡◌, ℕ, zero, suc, ◌+◌, ◌≤◌, true, leb, List, [], ◌∷◌, map, length, replicate, ℤ, pos, ◌+ℤ◌, ◌*ℤ◌, ◌≤ℤ◌}
use Rattle.std.specs.List.{AllByRecursion}
use Rattle.std.proofs.Common.{refl, sym, ap, ap₂, ◌∙◌, subst, arith}
use Rattle.std.proofs.lemmas.Bool.{leb-true, le-leb}
use Rattle.std.proofs.lemmas.List.{map-append, length-map, length-replicate}
use Rattle.std.proofs.lemmas.Int.{ints}
use Rattle.dc_math.specs.WholeVectors.{dot_ℤ, dot_ℤ-longer}
use Rattle.dc_poly.specs.Terms.{coef, degree_of, Polynomial}
use Rattle.dc_poly.specs.Sums.{zeros, values, composed as composed_terms}
use Rattle.dc_poly.specs.Affine.{units}
use Rattle.dc_poly.proofs.Degrees.{AllLow, degree-composed}
use Rattle.dc_poly.proofs.Padded.{AllPadded, Places-composed}
use Rattle.dc_poly.proofs.Unique.{values_unique}
use Rattle.dc_poly.proofs.Values.{value-composed, Canonical-composed}
use Rattle.dc_affine.specs.declared.atom.Atom.{Atom}
use Rattle.dc_affine.specs.Atoms.{atom_value}
use Rattle.dc_affine.proofs.Units.{read_value, length-units}
use Rattle.dc_system.specs.declared.edges.Edge.{Edge}
use Rattle.dc_system.specs.Composed.{after, coef_at, atom_at, atoms_at}
use Rattle.dc_system.specs.Edges.{chosen}
use Rattle.dc_system.specs.After.{weighted, is_affine_after, atom_after, affine_part, affine_parts}
use Rattle.dc_system.specs.Shapes.{IsEdge}
use Rattle.dc_system.proofs.AfterValues.{value-weighted, Places-weighted, Canonical-weighted, atom_after_value}
use Rattle.dc_system.proofs.Crossings.{IsFlat, after_flat, Made, forms_at_values}
use Rattle.dc_points.specs.Points.{Point, left_at, MeetsAt, MeetsAll, whole_point}
use Rattle.dc_points.proofs.Whole.{left_at-whole}
use Rattle.dc_families.proofs.False.{image, left_image}
use Rattle.dc_families.proofs.Reached.{dot-nothing}

-- ---- the point after the first edge, with the chosen value in the last place
abbrev pub onward : ℕ → Edge → Edge
onward n e = record { from = e.from; to = e.to; guard = e.guard; update = after n e; any = e.any; cost = e.cost }

abbrev pub moved : ℕ → Edge → Point → Point
moved n e p = image n (onward n e) p

-- an atom after the edge has before it the value that it has after it
pub left_moved : (n : ℕ) (e : Edge) (p : Point) (a : Atom) → left_at (atom_at (n + 1) a (after n e)) p ≡ left_at a (moved n e p)
left_moved n e p a = left_image n p (onward n e) a

pub meets_moved : (n : ℕ) (e : Edge) (p : Point) (a : Atom) → MeetsAt p (atom_at (n + 1) a (after n e)) → MeetsAt (moved n e p) a
meets_moved n e p a h = subst (λ v. pos 0 ≤ℤ v) (left_moved n e p a) h

pub moved_meets : (n : ℕ) (e : Edge) (p : Point) (a : Atom) → MeetsAt (moved n e p) a → MeetsAt p (atom_at (n + 1) a (after n e))
moved_meets n e p a h = subst (λ v. pos 0 ≤ℤ v) (sym (left_moved n e p a)) h

pub guard_moved : (n : ℕ) (e : Edge) (p : Point) (gs : List Atom) → MeetsAll p (atoms_at (n + 1) gs (after n e)) → MeetsAll (moved n e p) gs
guard_moved n e p [] h = tt
guard_moved n e p (a ∷ gs) h = (meets_moved n e p a h.0, guard_moved n e p gs h.1)

-- an atom over the variables does not see the chosen value
pub over_moved : (n : ℕ) (e : Edge) (p : Point) (a : Atom) → length a.coefs ≤ length e.update → left_at a (moved n e p) ≡ left_at (atom_after n e a) p
over_moved n e p a h =
    ap (λ v. a.c0 *ℤ p.denominator +ℤ v)
    (ap (dot_ℤ a.coefs) (map-append _ e.update (chosen n ∷ []))
    ∙ dot_ℤ-longer a.coefs (affine_parts n p.denominator p.numbers e.update) _ (let q = length-map e.update (affine_part n p.denominator p.numbers) in omega arith))
    ∙ sym (left_image n p e a)

-- ---- at whole points it is the state after the edge
flat_parts : (n : ℕ) (xs : List ℤ) (vs : List Polynomial) → AllByRecursion (IsFlat (n + 1)) vs → affine_parts n (pos 1) xs vs ≡ values vs xs
flat_parts n xs [] h = refl
flat_parts n xs (v ∷ vs) h = ap₂ ◌∷◌ (by_one (coef v.terms (zeros (n + 1))) (dot_ℤ (map (coef v.terms) (units (n + 1))) xs) ∙ read_value (n + 1) v.terms xs h.0.padded h.0.low) (flat_parts n xs vs h.1)
  where
    by_one : (c d : ℤ) → c *ℤ pos 1 +ℤ d ≡ c +ℤ d
    by_one c d = omega (arith, ints)

-- ---- atoms that have equal values are equal
same_dots : (n : ℕ) (cs ds : List ℤ) → length cs ≡ n → length ds ≡ n → ((xs : List ℤ) → length xs ≡ n → dot_ℤ cs xs ≡ dot_ℤ ds xs) → cs ≡ ds
same_dots n [] [] l m h = refl
same_dots n [] (d ∷ ds) l m h = absurd (omega arith)
same_dots n (c ∷ cs) [] l m h = absurd (omega arith)
same_dots zero (c ∷ cs) (d ∷ ds) l m h = absurd (omega arith)
same_dots (suc n) (c ∷ cs) (d ∷ ds) l m h =
    ap₂ ◌∷◌ (first c d _ _ (dot-nothing cs n) (dot-nothing ds n) (h (pos 1 ∷ replicate n (pos 0)) (ap suc (length-replicate n (pos 0)))))
    (same_dots n cs ds (omega arith) (omega arith) (λ xs k. rest c d _ _ (h (pos 0 ∷ xs) (ap suc k))))
  where
    first : (c d x y : ℤ) → x ≡ pos 0 → y ≡ pos 0 → c *ℤ pos 1 +ℤ x ≡ d *ℤ pos 1 +ℤ y → c ≡ d
    first c d x y e f g = omega (arith, ints)

    rest : (c d x y : ℤ) → c *ℤ pos 0 +ℤ x ≡ d *ℤ pos 0 +ℤ y → x ≡ y
    rest c d x y g = omega (arith, ints)

same_atoms : (n : ℕ) (a b : Atom) → length a.coefs ≡ n → length b.coefs ≡ n → ((xs : List ℤ) → length xs ≡ n → atom_value a xs ≡ atom_value b xs) → a ≡ b
same_atoms n a b l m h =
    let c : a.c0 ≡ b.c0 = constants a.c0 b.c0 _ _ (dot-nothing a.coefs n) (dot-nothing b.coefs n) (h (replicate n (pos 0)) (length-replicate n (pos 0))) in
    ap₂ (λ c cs. record { c0 = c; coefs = cs }) c (same_dots n a.coefs b.coefs l m (λ xs k. cancel a.c0 b.c0 _ _ c (h xs k)))
  where
    constants : (c d x y : ℤ) → x ≡ pos 0 → y ≡ pos 0 → c +ℤ x ≡ d +ℤ y → c ≡ d
    constants c d x y e f g = omega (arith, ints)

    cancel : (c d x y : ℤ) → c ≡ d → c +ℤ x ≡ d +ℤ y → x ≡ y
    cancel c d x y e g = omega (arith, ints)

-- ---- two edges that can be one
all_low : (m : ℕ) (vs : List Polynomial) → AllByRecursion (IsFlat m) vs → AllLow 1 vs
all_low m [] h = tt
all_low m (v ∷ vs) h = (h.0.low, all_low m vs h.1)

all_padded : (m : ℕ) (vs : List Polynomial) → AllByRecursion (IsFlat m) vs → AllPadded m vs
all_padded m [] h = tt
all_padded m (v ∷ vs) h = (h.0.padded, all_padded m vs h.1)

module _ (n : ℕ) (e f c : Edge) (we : IsEdge n e) (wf : IsEdge n f) (wc : IsEdge n c) (made : Made n e f c) where
  flat : AllByRecursion (IsFlat (n + 1)) (after n e)
  flat = after_flat n e we made.can.flat

  abbrev pub state_after : List ℤ → List ℤ
  state_after xs = values (after n e) xs

  pub moved_whole : (xs : List ℤ) → (moved n e (whole_point xs)).numbers ≡ state_after xs
  moved_whole xs = flat_parts n xs (after n e) flat

  -- an atom before the edge has the value that it has at the state after it
  pub value_moved : (a : Atom) (xs : List ℤ) → atom_value (atom_at (n + 1) a (after n e)) xs ≡ atom_value a (state_after xs)
  value_moved a xs =
      sym (left_at-whole (atom_at (n + 1) a (after n e)) xs) ∙ left_moved n e (whole_point xs) a
      ∙ by_one a.c0 (dot_ℤ a.coefs (moved n e (whole_point xs)).numbers) ∙ ap (λ ys. a.c0 +ℤ dot_ℤ a.coefs ys) (moved_whole xs)
    where
      by_one : (c d : ℤ) → c *ℤ pos 1 +ℤ d ≡ c +ℤ d
      by_one c d = omega (arith, ints)

  pub update_is : (xs : List ℤ) → values c.update xs ≡ values f.update (state_after xs)
  update_is xs = ap (λ (g : Edge). values g.update xs) made.is ∙ forms_at_values f.update (after n e) xs

  -- the sum of updates after both edges
  weighted_is : (cs : List ℤ) → weighted cs c.update ≡ composed_terms (n + 1) (weighted cs f.update) (after n e)
  weighted_is cs =
      values_unique (n + 1) (weighted cs c.update) _ (Canonical-weighted cs c.update) (Canonical-composed (n + 1) (weighted cs f.update) (after n e))
      (Places-weighted (n + 1) cs c.update wc.updates) (Places-composed (n + 1) (weighted cs f.update) (after n e) (all_padded (n + 1) (after n e) flat))
      (λ xs l. value-weighted cs c.update xs ∙ ap (dot_ℤ cs) (update_is xs) ∙ sym (value-weighted cs f.update (state_after xs)) ∙ sym (value-composed (n + 1) (weighted cs f.update) (after n e) xs))

  pub affine_both : (cs : List ℤ) → is_affine_after f cs ≡ true → is_affine_after c cs ≡ true
  affine_both cs h =
      let w = weighted cs f.update in
      let a = leb-true (degree_of w) 1 h in
      let b = degree-composed 1 (n + 1) w (after n e) (all_low (n + 1) (after n e) flat) in
      ap (λ p. leb (degree_of p) 1) (weighted_is cs) ∙ le-leb (degree_of (composed_terms (n + 1) w (after n e))) 1 (omega arith)

  coefs_length : (a : Atom) (vs : List Polynomial) → length (atom_at (n + 1) a vs).coefs ≡ n + 1
  coefs_length a vs = length-map (units (n + 1)) (coef_at a.coefs vs) ∙ length-units (n + 1)

  -- an atom after both is the atom after the second, taken before the first
  pub after_both : (a : Atom) → is_affine_after f a.coefs ≡ true → atom_after n c a ≡ atom_at (n + 1) (atom_after n f a) (after n e)
  after_both a h =
      same_atoms (n + 1) _ _ (coefs_length a c.update) (coefs_length (atom_after n f a) (after n e))
      (λ xs l. atom_after_value n c a xs wc (affine_both a.coefs h) ∙ ap (atom_value a) (update_is xs) ∙ sym (atom_after_value n f a (state_after xs) wf h) ∙ sym (value_moved (atom_after n f a) xs))
