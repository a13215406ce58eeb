-- Forms after an edge.
use Rattle.std.specs.Prelude.{◌≡◌, ℕ, zero, suc, ◌+◌, ◌*◌, ◌<◌, ◌≤◌, ◌^◌, Bool, true, false, cond, List, [], ◌∷◌, map, length, take, slice_index_or, sum_by, ℤ, pos, ◌+ℤ◌, ◌*ℤ◌, ◌≤ℤ◌, unsigned_abs}
use Rattle.std.specs.List.{AllByRecursion}
use Rattle.std.proofs.Common.{refl, sym, ◌∙◌, ap, subst, arith, add-one}
use Rattle.std.proofs.lemmas.Int.{ints}
use Rattle.std.proofs.lemmas.List.{length-map, length-take-le}
use Rattle.std.proofs.lemmas.List.Sums.{sum_by-cons}
use Rattle.dc_poly.specs.Terms.{Exponents, coef, Polynomial}
use Rattle.dc_poly.specs.Sums.{unit_at}
use Rattle.dc_poly.specs.Affine.{units}
use Rattle.dc_poly.specs.NormalForm.{most}
use Rattle.dc_affine.specs.declared.atom.Atom.{Atom}
use Rattle.dc_affine.specs.Atoms.{AllFit}
use Rattle.dc_affine.proofs.Fits.{coef_fits}
use Rattle.dc_affine.proofs.Units.{length-units}
use Rattle.dc_system.specs.declared.edges.Edge.{Edge}
use Rattle.dc_system.specs.Composed.{coef_at}
use Rattle.dc_system.specs.After.{row_after_of, atom_after}
use Rattle.dc_system.specs.Shapes.{Skips, IsForm, IsEdge}
use Rattle.dc_system.proofs.Shape.{units_at}
use Rattle.dc_system.proofs.Skipping.{exponent, no_coef_at}
use Rattle.dc_system.proofs.Sums.{product_small, sum_small}
use Rattle.dc_system.proofs.Wider.{unit_last}
use Rattle.dc_points.specs.Points.{Point, left_at}
use Rattle.dc_points.proofs.Whole.{atoms_are_forms}
use Rattle.dc_families.specs.Moves.{edge_places, form_after}
use Rattle.dc_moves.specs.Laws.{FormsHavePlaces, FormsAreLight, FormsTellAtoms}
use Rattle.dc_moves.proofs.Cuts.{dot-places}

-- ---- places
coefs_many : (n : ℕ) (e : Edge) (row : List ℤ) → length ((row_after_of n e row).coefs) ≡ n + 1
coefs_many n e row = length-map (units (n + 1)) (coef_at row e.update) ∙ length-units (n + 1)

pub forms_have_places : FormsHavePlaces
forms_have_places n e row = by e.any
  where
    by : (b : Bool) → length (take (cond b (n + 1) n) (row_after_of n e row).coefs) ≡ cond b (n + 1) n
    by true = length-take-le (n + 1) (row_after_of n e row).coefs (omega (arith, coefs_many n e row))
    by false = length-take-le n (row_after_of n e row).coefs (omega (arith, coefs_many n e row))

-- ---- sizes
coef_small : (m : ℕ) (v : Polynomial) (u : Exponents) → IsForm m v → unsigned_abs (coef v.terms u) ≤ most
coef_small m v u h = coef_fits v.terms u h.kind.in_order h.narrow.fits

pub coef_at-small : (m : ℕ) (cs : List ℤ) (vs : List Polynomial) (u : Exponents) → AllFit cs → AllByRecursion (IsForm m) vs → unsigned_abs (coef_at cs vs u) ≤ length cs * (most * most)
coef_at-small m [] vs u h k = omega arith
coef_at-small m (c ∷ cs) [] u h k = omega arith
coef_at-small m (c ∷ cs) (v ∷ vs) u h k =
    let p = product_small c (coef v.terms u) h.0 (coef_small m v u k.0) in
    let r = coef_at-small m cs vs u h.1 k.1 in
    let s = sum_small (coef_at cs vs u) (c *ℤ coef v.terms u) (length cs) r p in
    let e : c *ℤ coef v.terms u +ℤ coef_at cs vs u ≡ coef_at cs vs u +ℤ c *ℤ coef v.terms u = omega (arith, ints) in
    let f : length (c ∷ cs) ≡ length cs + 1 = omega arith in
    rw (e, f) s

times_more : (k m : ℕ) → suc k * m ≡ m + k * m
times_more k m = omega arith

-- the coefficients of an atom
pub fit-light : (cs : List ℤ) → AllFit cs → sum_by unsigned_abs cs ≤ length cs * most
fit-light [] h = omega arith
fit-light (c ∷ cs) h =
    let r = fit-light cs h.1 in
    let a = h.0 in
    let e = sum_by-cons unsigned_abs c cs in
    let q = times_more (length cs) most in
    omega arith

pub row_is_light : (cs : List ℤ) → AllFit cs → length cs ≤ 10 → sum_by unsigned_abs cs < 2 ^ 70
row_is_light cs h l = let s = fit-light cs h in let t = most_times (length cs) l in omega arith
  where
    most_times : (k : ℕ) → k ≤ 10 → k * most ≤ 21474836470
    most_times k l = omega arith

sum-small : (m : ℕ) (f : Exponents → ℤ) (us : List Exponents) → ((u : Exponents) → unsigned_abs (f u) ≤ m) → (k : ℕ) → sum_by unsigned_abs (take k (map f us)) ≤ k * m
sum-small m f us h zero = omega arith
sum-small m f [] h (suc k) = omega arith
sum-small m f (u ∷ us) h (suc k) =
    let a = h u in
    let r = sum-small m f us h k in
    let e = sum_by-cons unsigned_abs (f u) (take k (map f us)) in
    let q = times_more k m in
    omega arith

most_ten : (k : ℕ) → k ≤ 10 → k * (most * most) ≤ 46116860141324206090
most_ten k l = omega arith

pub forms_are_light : FormsAreLight
forms_are_light n e row l h k fit =
    let bound : (u : Exponents) → unsigned_abs (coef_at row e.update u) ≤ 46116860141324206090 =
    λ u. let s = coef_at-small (n + 1) row e.update u fit h.updates in let t = most_ten (length row) (omega arith) in omega arith in
    let s = sum-small 46116860141324206090 (coef_at row e.update) (units (n + 1)) bound (edge_places n e) in
    let p : edge_places n e ≤ 11 = places e.any in
    small (edge_places n e) p s
  where
    places : (b : Bool) → cond b (n + 1) n ≤ 11
    places true = omega arith
    places false = omega arith

    small : (k : ℕ) {s : ℕ} → k ≤ 11 → s ≤ k * 46116860141324206090 → s < 2 ^ 70
    small k a b = omega arith

-- ---- the chosen value of an edge that chooses none

one_gone : (n : ℕ) (v : Polynomial) (u : Exponents) → exponent u n ≡ 1 → Skips n v → coef v.terms u ≡ pos 0
one_gone n v u e h =
    let z : pos 1 *ℤ coef v.terms u +ℤ pos 0 ≡ pos 0 = no_coef_at n (v ∷ []) v (pos 1 ∷ []) u e (h, tt) refl in
    omega (arith, ints)

all_gone : (n : ℕ) (cs : List ℤ) (vs : List Polynomial) (u : Exponents) → exponent u n ≡ 1 → AllByRecursion (Skips n) vs → coef_at cs vs u ≡ pos 0
all_gone n [] vs u e h = refl
all_gone n (c ∷ cs) [] u e h = refl
all_gone n (c ∷ cs) (v ∷ vs) u e h =
    let a = one_gone n v u e h.0 in
    let b = all_gone n cs vs u e h.1 in
    gone c (coef v.terms u) (coef_at cs vs u) a b
  where
    gone : (x y z : ℤ) → y ≡ pos 0 → z ≡ pos 0 → x *ℤ y +ℤ z ≡ pos 0
    gone x y z a b = rw (a, b) (zero_times x)
      where
        zero_times : (x : ℤ) → x *ℤ pos 0 +ℤ pos 0 ≡ pos 0
        zero_times x = omega (arith, ints)

last_gone : (n : ℕ) (e : Edge) (row : List ℤ) → IsEdge n e → e.any ≡ false → slice_index_or (row_after_of n e row).coefs n (pos 0) ≡ pos 0
last_gone n e row h t =
    units_at (coef_at row e.update) (n + 1) n (omega arith)
    ∙ all_gone n row e.update (unit_at (n + 1) n) (ap (λ m. exponent (unit_at m n) n) (add-one n) ∙ unit_last n) (h.unchosen t).update

-- an atom after the edge, at the places of the edge
pub left_after : (n : ℕ) (e : Edge) (a : Atom) (p : Point) → IsEdge n e
    → left_at (record { c0 = (atom_after n e a).c0; coefs = form_after n e a.coefs }) p ≡ left_at (atom_after n e a) p
left_after n e a p h =
    ap (λ s. (atom_after n e a).c0 *ℤ p.denominator +ℤ s)
    (dot-places n e.any (atom_after n e a).coefs p.numbers (omega (arith, coefs_many n e a.coefs)) (last_gone n e a.coefs h))

pub forms_tell_atoms : FormsTellAtoms
forms_tell_atoms n e hyps a h =
    let w : ℤ = (atom_after n e a).c0 in
    let form : List ℤ = form_after n e a.coefs in
    let k = atoms_are_forms hyps form w in (
      (λ f. k.0 (λ p m. subst (λ x. pos 0 ≤ℤ x) (sym (left_after n e a p h)) (f p m))),
      (λ f p m. subst (λ x. pos 0 ≤ℤ x) (left_after n e a p h) (k.1 f p m)),
    )
