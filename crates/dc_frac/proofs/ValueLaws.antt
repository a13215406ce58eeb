-- A fraction and its value fix each other. For callers: nothing in this crate's contracts cites this file.
use Rattle.std.specs.Prelude.{◌≡◌, ◌<◌, ◌^◌, ℤ, pos, ◌*ℤ◌, ◌≤ℤ◌, unsigned_abs, ◌&&◌}
use Rattle.std.specs.Ordering.{int_eq}
use Rattle.std.proofs.Common.{sym, ◌∙◌, ap, ap₂}
use Rattle.std.proofs.Props.{props}
use Rattle.std.proofs.lemmas.Bool.{and_from, and_parts}
use Rattle.std.proofs.lemmas.Bool.Decides.{Decides-int_eq, same_from_decides}
use mathlib.Core.HLevel.{Σ_prop_path}
use Rattle.dc_math.specs.Gcd.{gcd}
use Rattle.dc_math.specs.Rational.{Fraction, ratio_same}
use Rattle.dc_math.specs.Lowest.{lowest, lowest-of_reduced}
use Rattle.dc_math.specs.Tests.{eq_ℚ, eq_ℚ-true, eq_ℚ_true}
use Rattle.dc_frac.specs.declared.Frac.{Frac}
use Rattle.dc_frac.specs.Value.{fraction, value}

-- the pair of a fraction is the lowest terms of its value
pub lowest-value : (f : Frac) → lowest (value f) ≡ fraction f
unfolding value
lowest-value f = lowest-of_reduced (fraction f) f.reduced

pub value_num : (f g : Frac) → value f ≡ value g → f.num ≡ g.num
value_num f g e = ap (λ (p : Fraction). p.num) (sym (lowest-value f) ∙ ap lowest e ∙ lowest-value g)

pub value_den : (f g : Frac) → value f ≡ value g → f.den ≡ g.den
value_den f g e = ap (λ (p : Fraction). p.den) (sym (lowest-value f) ∙ ap lowest e ∙ lowest-value g)

pub value_same : (f g : Frac) → f.num ≡ g.num → f.den ≡ g.den → value f ≡ value g
unfolding value
value_same f g e h = ratio_same (fraction f) (fraction g) (ap₂ ◌*ℤ◌ e (sym h))

-- `==` on fractions is equality of their values
pub eq-value : (f g : Frac) → (int_eq f.num g.num && int_eq f.den g.den) ≡ eq_ℚ (value f) (value g)
eq-value f g = same_from_decides {P = value f ≡ value g} _ _ (
  λ e. let p = and_parts _ _ e in value_same f g ((Decides-int_eq f.num g.num).0 p.0) ((Decides-int_eq f.den g.den).0 p.1),
  λ e. and_from _ _ ((Decides-int_eq f.num g.num).1 (value_num f g e)) ((Decides-int_eq f.den g.den).1 (value_den f g e)),
)
    (eq_ℚ_true (value f) (value g), eq_ℚ-true (value f) (value g))

-- ---- fractions of one number are one fraction
abbrev AreParts : ℤ × ℤ → Type 0
AreParts z = (pos 1 ≤ℤ z.1) × (gcd (unsigned_abs z.0) (unsigned_abs z.1) ≡ 1) × (unsigned_abs z.0 < 2 ^ 127)

parts_prop : (z : ℤ × ℤ) → IsProp (AreParts z)
parts_prop z = hlevel props

frac_of : (z : ℤ × ℤ) × AreParts z → Frac
frac_of p = record { num = p.0.0; den = p.0.1; positive = p.1.0; reduced = p.1.1; small = p.1.2 }

pair : ℤ → ℤ → ℤ × ℤ
pair n d = (n, d)

pub same_frac : (f g : Frac) → value f ≡ value g → f ≡ g
unfolding frac_of pair
same_frac f g e = ap frac_of (Σ_prop_path (λ z. parts_prop z) (ap₂ pair (value_num f g e) (value_den f g e)))
