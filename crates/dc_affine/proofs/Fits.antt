-- Coefficients within bounds: by a scan of the terms, of one monomial, and negated.
use Rattle.std.specs.Prelude.{◌≡◌, ◌+◌, ◌≤◌, Bool, true, false, cond, leb, [], ◌∷◌, ℤ, pos, neg_ℤ, ◌+ℤ◌, ◌-ℤ◌, unsigned_abs, refl}
use Rattle.std.proofs.Common.{sym, ◌∙◌, ap, subst, arith, SFits}
use Rattle.std.proofs.lemmas.Bool.{leb-true, and_parts}
use Rattle.std.specs.Int.{w64, w128}
use Rattle.std.proofs.lemmas.Int.{ints, fits_signed_from_abs}
use Rattle.dc_poly.specs.Terms.{Exponents, TermList, same_mono, coef, Canonical, weight, largest}
use Rattle.dc_poly.proofs.Canon.{coef_ahead, same_mono_is}
use Rattle.dc_poly.specs.Terms.{Ahead}
use Rattle.dc_poly.specs.NormalForm.{most, coefs_fit}
use Rattle.dc_affine.specs.Atoms.{most_constant}
use Rattle.dc_affine.specs.Gaps.{signed}

-- the coefficient of any monomial
pub coef_fits : (p : TermList) (m : Exponents) → Canonical p → coefs_fit p ≡ true → unsigned_abs (coef p m) ≤ most
coef_fits [] m k h = omega arith
coef_fits (t ∷ p) m k h = by (and_parts (leb (unsigned_abs t.coef) most) (coefs_fit p) h) (coef_fits p m k.2) (same_mono t.mono m) refl
  where
    by : (leb (unsigned_abs t.coef) most ≡ true) × (coefs_fit p ≡ true) → (coefs_fit p ≡ true → unsigned_abs (coef p m) ≤ most) → (b : Bool) → same_mono t.mono m ≡ b → unsigned_abs (cond b t.coef (pos 0) +ℤ coef p m) ≤ most
    by q r true e =
        let a = leb-true (unsigned_abs t.coef) most q.0 in
        let z : coef p m ≡ pos 0 = coef_ahead m p (subst (λ y. Ahead y p) (same_mono_is t.mono m e) k.1) in
        omega (arith, ints)
    by q r false e = let o = r q.1 in omega (arith, ints)

-- and within the size of a constant
pub coefs_within : (p : TermList) → Canonical p → coefs_fit p ≡ true → (m : Exponents) → unsigned_abs (coef p m) ≤ most_constant
coefs_within p k h m = let f = coef_fits p m k h in omega arith

pub small_128 : (z : ℤ) → unsigned_abs z ≤ most_constant → SFits w128 z
small_128 z h = fits_signed_from_abs w128 z (omega arith)

pub small_64 : (z : ℤ) → unsigned_abs z ≤ most_constant → SFits w64 z
small_64 z h = fits_signed_from_abs w64 z (omega arith)

pub ruleset reading = (coef_fits, small_128, small_64)

pub turned_small : (z : ℤ) → unsigned_abs z ≤ most_constant → unsigned_abs (pos 0 -ℤ z) ≤ most_constant
turned_small z h = omega (arith, ints)

pub turned_value : (b : Bool) (z y : ℤ) → b ≡ true → z ≡ y → pos 0 -ℤ z ≡ signed b y
turned_value b z y e f = ap (λ (u : ℤ). pos 0 -ℤ u) f ∙ minus y ∙ ap (λ t. signed t y) (sym e)
  where
    minus : (y : ℤ) → pos 0 -ℤ y ≡ neg_ℤ y
    minus y = omega (arith, ints)

pub kept_value : (b : Bool) (z y : ℤ) → b ≡ false → z ≡ y → z ≡ signed b y
kept_value b z y e f = f ∙ ap (λ t. signed t y) (sym e)

-- ---- a coefficient of a polynomial, in 128 bits
coef_light : (p : TermList) (u : Exponents) → unsigned_abs (coef p u) ≤ weight p
coef_light [] u = omega arith
coef_light (t ∷ p) u = by (same_mono t.mono u) (coef_light p u)
  where
    by : (b : Bool) → unsigned_abs (coef p u) ≤ weight p → unsigned_abs (cond b t.coef (pos 0) +ℤ coef p u) ≤ unsigned_abs t.coef + weight p
    by true h = omega (arith, ints)
    by false h = omega (arith, ints)

pub coef_128 : (p : TermList) (u : Exponents) (z : ℤ) → weight p ≤ largest → z ≡ coef p u → SFits w128 z
coef_128 p u z h e = let a = coef_light p u in let b : unsigned_abs z ≡ unsigned_abs (coef p u) = ap unsigned_abs e in fits_signed_from_abs w128 z (omega arith)
