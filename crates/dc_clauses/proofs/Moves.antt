-- Atoms in 128 bits: those of a certificate, and after an edge's update.
use Rattle.std.specs.Prelude.{◌≡◌, ℕ, zero, suc, ◌+◌, ◌*◌, ◌<◌, ◌≤◌, List, [], ◌∷◌, map, length, ℤ, ◌+ℤ◌, ◌*ℤ◌, unsigned_abs}
use Rattle.std.specs.List.{AllByRecursion}
use Rattle.std.specs.Int.{w128}
use Rattle.std.proofs.Common.{refl, sym, ◌∙◌, ap, subst, arith, SFits}
use Rattle.std.proofs.lemmas.Int.{ints, fits_signed_from_abs}
use Rattle.dc_frac.specs.Fits.{IsSmall}
use Rattle.dc_poly.specs.Terms.{Exponents, coef, Polynomial}
use Rattle.dc_poly.specs.Sums.{zeros}
use Rattle.dc_poly.specs.Affine.{units}
use Rattle.dc_poly.specs.NormalForm.{most}
use Rattle.dc_affine.specs.declared.atom.Atom.{Atom}
use Rattle.dc_affine.specs.Atoms.{AllFit, IsAtom}
use Rattle.dc_affine.proofs.Fits.{coef_fits}
use Rattle.dc_lp.specs.Problems.{whole_at}
use Rattle.dc_system.specs.declared.edges.Edge.{Edge}
use Rattle.dc_system.specs.declared.rows.RowAfter.{RowAfter}
use Rattle.dc_system.specs.Shapes.{IsEdge, IsForm}
use Rattle.dc_system.specs.After.{row_after_of, is_affine_after, atom_after}
use Rattle.dc_system.specs.Composed.{coef_at}
use Rattle.dc_system.proofs.Sums.{fit_at, product_small}
use Rattle.dc_cert.specs.declared.sparse.Sparse.{Sparse}
use Rattle.dc_clauses.specs.Steps.{Test, all_of}
use Rattle.dc_clauses.specs.Lines.{keep_parts}

-- ---- sizes
pub small_at : (cs ds : List ℤ) (k : ℕ) → AllFit ds → cs ≡ ds → k < length cs → IsSmall (whole_at cs k)
small_at cs ds k h e l =
    subst (λ xs. IsSmall (whole_at xs k)) (sym e) (let b : unsigned_abs (whole_at ds k) ≤ most = fit_at ds k (whole_at ds k) h (subst (λ (xs : List ℤ). k < length xs) e l) refl in omega arith)

pub coef_at_small : (k : ℕ) (cs : List ℤ) (vs : List Polynomial) (m : ℕ) (u : Exponents) → AllFit cs → AllByRecursion (IsForm m) vs → length cs ≤ k → unsigned_abs (coef_at cs vs u) ≤ k * (most * most)
coef_at_small k [] vs m u h g l = omega arith
coef_at_small k (c ∷ cs) [] m u h g l = omega arith
coef_at_small zero (c ∷ cs) (v ∷ vs) m u h g l = absurd (omega arith)
coef_at_small (suc k) (c ∷ cs) (v ∷ vs) m u h g l =
    let a : unsigned_abs (coef v.terms u) ≤ most = coef_fits v.terms u g.0.kind.in_order g.0.narrow.fits in
    let b : unsigned_abs (c *ℤ coef v.terms u) ≤ most * most = product_small c (coef v.terms u) h.0 a in
    let d : unsigned_abs (coef_at cs vs u) ≤ k * (most * most) = coef_at_small k cs vs m u h.1 g.1 (omega arith) in
    both (c *ℤ coef v.terms u) (coef_at cs vs u) k b d
  where
    both : (p s : ℤ) (k : ℕ) → unsigned_abs p ≤ most * most → unsigned_abs s ≤ k * (most * most) → unsigned_abs (p +ℤ s) ≤ suc k * (most * most)
    both p s k x y = omega (arith, ints)

-- a constant, and with it a sum
pub sum_fits : (c s : ℤ) → unsigned_abs c ≤ 2147483648 → unsigned_abs s ≤ 10 * (most * most) → SFits w128 (c +ℤ s)
sum_fits c s h g = fits_signed_from_abs w128 (c +ℤ s) (let a : unsigned_abs (c +ℤ s) ≤ unsigned_abs c + unsigned_abs s = omega (arith, ints) in omega arith)

pub number_fits : (c : ℤ) → unsigned_abs c ≤ 10 * (most * most) → SFits w128 c
number_fits c h = fits_signed_from_abs w128 c (omega arith)

pub sum_small : (c s : ℤ) → unsigned_abs c ≤ 2147483648 → unsigned_abs s ≤ 10 * (most * most) → IsSmall (c +ℤ s)
sum_small c s h g = (let a : unsigned_abs (c +ℤ s) ≤ unsigned_abs c + unsigned_abs s = omega (arith, ints) in omega arith)

-- ---- the same keep
pub same_keep : (h g : List Atom) (n m : ℕ) (z w : ℤ) (cs ds : List ℤ) (more : List Test) (v : Sparse) (t : Test) → h ≡ g → n ≡ m → z ≡ w → cs ≡ ds
    → t ≡ all_of (keep_parts h n (record { c0 = z; coefs = cs }) more v) → t ≡ all_of (keep_parts g m (record { c0 = w; coefs = ds }) more v)
same_keep h g n m z w cs ds more v t a b c d e =
    e ∙ ap (λ x. all_of (keep_parts x n (record { c0 = z; coefs = cs }) more v)) a ∙ ap (λ x. all_of (keep_parts g x (record { c0 = z; coefs = cs }) more v)) b
    ∙ ap (λ x. all_of (keep_parts g m (record { c0 = x; coefs = cs }) more v)) c ∙ ap (λ x. all_of (keep_parts g m (record { c0 = w; coefs = x }) more v)) d

-- ---- a row after an edge
mapped_small : {A : Type 0} (f : A → ℤ) (us : List A) (k b : ℕ) → ((u : A) → unsigned_abs (f u) ≤ b) → unsigned_abs (whole_at (map f us) k) ≤ b
mapped_small f [] k b h = omega arith
mapped_small f (u ∷ us) zero b h = h u
mapped_small f (u ∷ us) (suc k) b h = mapped_small f us k b h

module _ (n : ℕ) (e : Edge) (a : Atom) (r : RowAfter) (cs : List ℤ) (h : r ≡ row_after_of n e cs) (q : cs ≡ a.coefs) where
  whole : r ≡ row_after_of n e a.coefs
  whole = h ∙ ap (row_after_of n e) q

  pub row_coefs : r.coefs ≡ (atom_after n e a).coefs
  row_coefs = ap (λ (x : RowAfter). x.coefs) whole

  pub row_affine : r.is_affine ≡ is_affine_after e a.coefs
  row_affine = ap (λ (x : RowAfter). x.is_affine) whole

  pub row_constant : (z : ℤ) → z ≡ a.c0 +ℤ r.constant → z ≡ (atom_after n e a).c0
  row_constant z g = g ∙ ap (λ (x : RowAfter). a.c0 +ℤ x.constant) whole

  pub row_small : IsEdge n e → IsAtom 10 a → unsigned_abs r.constant ≤ 10 * (most * most)
  row_small f g =
      subst (λ (x : RowAfter). unsigned_abs x.constant ≤ 10 * (most * most)) (sym whole) (coef_at_small 10 a.coefs e.update (n + 1) (zeros (n + 1)) g.coefs_within f.updates g.few)

pub moved_small : (n : ℕ) (e : Edge) (a : Atom) (cs : List ℤ) (k : ℕ) → IsEdge n e → IsAtom 10 a → cs ≡ (atom_after n e a).coefs → IsSmall (whole_at cs k)
moved_small n e a cs k f g q =
    subst (λ xs. IsSmall (whole_at xs k)) (sym q)
    (let b : unsigned_abs (whole_at (atom_after n e a).coefs k) ≤ 10 * (most * most) = mapped_small (coef_at a.coefs e.update) (units (n + 1)) k (10 * (most * most)) (λ u. coef_at_small 10 a.coefs e.update (n + 1) u g.coefs_within f.updates g.few) in omega arith)

pub moved_constant_small : (n : ℕ) (e : Edge) (a : Atom) (z : ℤ) → IsEdge n e → IsAtom 10 a → z ≡ (atom_after n e a).c0 → IsSmall z
moved_constant_small n e a z f g q = subst IsSmall (sym q) (sum_small a.c0 (coef_at a.coefs e.update (zeros (n + 1))) g.constant_within (coef_at_small 10 a.coefs e.update (n + 1) (zeros (n + 1)) g.coefs_within f.updates g.few))
