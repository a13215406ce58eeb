-- The two facts of a chosen value between bounds: each has an affine difference.
use Rattle.std.specs.Prelude.{◌≡◌, ℕ, ◌+◌, ◌≤◌, ◌<◌, Bool, true, false, cond, ℤ, pos, neg_ℤ, ◌+ℤ◌, ◌-ℤ◌, unsigned_abs, None, refl, ◌⊎◌}
use Rattle.std.proofs.Common.{sym, ◌∙◌, ap, subst, arith, inl, inr}
use Rattle.std.proofs.lemmas.Bool.{lt-ltb}
use Rattle.std.proofs.lemmas.Int.{ints}
use Rattle.dc_syntax.specs.declared.tree.Expr.{Expr, Var, roll-Expr, fold-roll-Expr}
use Rattle.dc_syntax.specs.declared.tree.Expr.TheOpen as F
use Rattle.dc_poly.specs.Terms.{Exponents, TermList, same_mono, coef, degree_of}
use Rattle.dc_poly.specs.Sums.{plus, negated, unit_at, variable_of}
use Rattle.dc_poly.proofs.Values.{coef-plus}
use Rattle.dc_poly.proofs.Same.{coef-negated}
use Rattle.dc_poly.proofs.Canon.{same_mono_is}
use Rattle.dc_poly.proofs.Degrees.{degree-plus, degree-negated, degree-unit_at}
use Rattle.dc_poly.specs.NormalForm.{most}
use Rattle.dc_affine.specs.Forms.{Formed, formed, is_below, below_step, affine_fault}
use Rattle.dc_affine.specs.Table.{fact}
use Rattle.dc_affine.specs.Atoms.{gap_of}
use Rattle.dc_affine.proofs.FormLaws.{form_proper, formed-Var}
use Rattle.dc_affine.proofs.FactAtoms.{IsAffineFact}
use Rattle.dc_affine.proofs.Fits.{coef_fits}
use Rattle.dc_system.proofs.Wider.{below_wider, form_wider, wide_coef_last}
use Rattle.dc_system.proofs.Bounded.{affine_narrow}

below-Var : (m k : ℕ) → k < m → is_below m (Var k) ≡ true
unfolding roll-Expr denote.Hole.Carrier.roll
below-Var m k h = fold-roll-Expr Bool (below_step m) (F.Var k) ∙ lt-ltb k m h

var_coef : (m k : ℕ) (u : Exponents) → (coef (variable_of k m) u ≡ pos 1) × (u ≡ unit_at m k) ⊎ (coef (variable_of k m) u ≡ pos 0)
var_coef m k u = by (same_mono (unit_at m k) u) refl
  where
    by : (b : Bool) → same_mono (unit_at m k) u ≡ b → (cond b (pos 1) (pos 0) +ℤ pos 0 ≡ pos 1) × (u ≡ unit_at m k) ⊎ (cond b (pos 1) (pos 0) +ℤ pos 0 ≡ pos 0)
    by true e = inl (refl, sym (same_mono_is (unit_at m k) u e))
    by false e = inr refl

-- a difference of a form that mentions no chosen value and the chosen value has no larger coefficients
chosen_small : (n : ℕ) (a : TermList) (u : Exponents) → coef a (unit_at (n + 1) n) ≡ pos 0 → unsigned_abs (coef a u) ≤ most → (x y : ℤ) → x ≡ coef (variable_of n (n + 1)) u → y ≡ coef a u → (unsigned_abs (x -ℤ y) ≤ most) × (unsigned_abs (y -ℤ x) ≤ most)
chosen_small n a u z h x y e f = by (var_coef (n + 1) n u)
  where
    by : (coef (variable_of n (n + 1)) u ≡ pos 1) × (u ≡ unit_at (n + 1) n) ⊎ (coef (variable_of n (n + 1)) u ≡ pos 0) → (unsigned_abs (x -ℤ y) ≤ most) × (unsigned_abs (y -ℤ x) ≤ most)
    by (inl g) = let o : coef a u ≡ pos 0 = ap (coef a) g.1 ∙ z in let q = g.0 in (omega (arith, ints), omega (arith, ints))
    by (inr g) = (omega (arith, ints), omega (arith, ints))

pub record IsBound (n : ℕ) (e : Expr) : Type 0 where
  pub below : is_below n e ≡ true
  pub faultless : affine_fault n e ≡ None

bound_last : (n : ℕ) (e : Expr) → is_below n e ≡ true → coef (formed (n + 1) e).terms (unit_at (n + 1) n) ≡ pos 0
bound_last n e b = ap (λ p. coef p (unit_at (n + 1) n)) (form_wider n e b) ∙ wide_coef_last n (formed n e).terms (form_proper n e).padded

low_gap : (m : ℕ) (p q : TermList) → degree_of p ≤ 1 → degree_of q ≤ 1 → degree_of (plus p (negated q)) ≤ 1
low_gap m p q h k = let d = degree-plus p (negated q) in let e = degree-negated q in omega arith

var_terms : (m k : ℕ) → (formed m (Var k)).terms ≡ variable_of k m
var_terms m k = ap (λ (x : Formed). x.terms) (formed-Var m k)

coef_gap : (m : ℕ) (a b : Expr) (u : Exponents) → coef (gap_of m a b) u ≡ coef (formed m a).terms u -ℤ coef (formed m b).terms u
coef_gap m a b u =
    let p = coef-plus (formed m a).terms (negated (formed m b).terms) u in
    let q = coef-negated (formed m b).terms u in
    shape _ _ _ _ p q
  where
    shape : (g x n y : ℤ) → g ≡ x +ℤ n → n ≡ neg_ℤ y → g ≡ x -ℤ y
    shape g x n y e f = omega (arith, ints)

pub lower_affine : (n : ℕ) (a : Expr) → IsBound n a → IsAffineFact (n + 1) (fact (Var n) a 0)
lower_affine n a h =
    let k = affine_narrow n a h.below h.faultless in
    let v = var_terms (n + 1) n in
    let d = degree-unit_at (n + 1) n in
    record {
      big_below = below-Var (n + 1) n (omega arith);
      small_below = below_wider n a h.below;
      low = subst (λ p. degree_of (plus p (negated (formed (n + 1) a).terms)) ≤ 1) (sym v) (low_gap (n + 1) (variable_of n (n + 1)) (formed (n + 1) a).terms (omega arith) k.1);
      small = λ u. subst (λ z. unsigned_abs z ≤ most) (sym (coef_gap (n + 1) (Var n) a u)) (chosen_small n (formed (n + 1) a).terms u (bound_last n a h.below) (coef_fits (formed (n + 1) a).terms u (form_proper (n + 1) a).in_order k.0.fits) (coef (formed (n + 1) (Var n)).terms u) (coef (formed (n + 1) a).terms u) (ap (λ p. coef p u) v) refl).0;
      little = omega arith;
    }

pub upper_affine : (n : ℕ) (b : Expr) → IsBound n b → IsAffineFact (n + 1) (fact b (Var n) 0)
upper_affine n b h =
    let k = affine_narrow n b h.below h.faultless in
    let v = var_terms (n + 1) n in
    let d = degree-unit_at (n + 1) n in
    record {
      big_below = below_wider n b h.below;
      small_below = below-Var (n + 1) n (omega arith);
      low = subst (λ p. degree_of (plus (formed (n + 1) b).terms (negated p)) ≤ 1) (sym v) (low_gap (n + 1) (formed (n + 1) b).terms (variable_of n (n + 1)) k.1 (omega arith));
      small = λ u. subst (λ z. unsigned_abs z ≤ most) (sym (coef_gap (n + 1) b (Var n) u)) (chosen_small n (formed (n + 1) b).terms u (bound_last n b h.below) (coef_fits (formed (n + 1) b).terms u (form_proper (n + 1) b).in_order k.0.fits) (coef (formed (n + 1) (Var n)).terms u) (coef (formed (n + 1) b).terms u) (ap (λ p. coef p u) v) refl).1;
      little = omega arith;
    }
