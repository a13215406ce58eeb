-- A fraction is its two parts, and so its value.
use Rattle.std.specs.Prelude.{◌≡◌, ◌<◌, ◌^◌, ℤ, pos, ◌≤ℤ◌, unsigned_abs}
use Rattle.std.proofs.Common.{◌∙◌, ap, subst}
use native.Mathlib.Nat.{ℕ_set}
use Rattle.std.proofs.Math.Bridge.{le_prop}
use Rattle.dc_math.specs.Gcd.{gcd}
use Rattle.dc_math.specs.Lowest.{at_least_prop}
use Rattle.dc_frac.specs.declared.Frac.{Frac}

unfoldable pub make : (n d : ℤ) → pos 1 ≤ℤ d → gcd (unsigned_abs n) (unsigned_abs d) ≡ 1 → unsigned_abs n < 2 ^ 127 → Frac
make n d p r s = record { num = n; den = d; positive = p; reduced = r; small = s }

-- a fraction is its two parts
pub same_parts : (f g : Frac) → f.num ≡ g.num → f.den ≡ g.den → f ≡ g
unfolding make
same_parts f g e h = go g.num g.den e h g.positive g.reduced g.small
  where
    at : (p : pos 1 ≤ℤ f.den) (r : gcd (unsigned_abs f.num) (unsigned_abs f.den) ≡ 1) (s : unsigned_abs f.num < 2 ^ 127) → f ≡ make f.num f.den p r s
    at p r s =
        ap (λ x. make f.num f.den x f.reduced f.small) (at_least_prop f.den f.positive p)
        ∙ ap (λ x. make f.num f.den p x f.small) (ℕ_set (gcd (unsigned_abs f.num) (unsigned_abs f.den)) 1 f.reduced r)
        ∙ ap (λ x. make f.num f.den p r x) (le_prop f.small s)

    go : (n d : ℤ) → f.num ≡ n → f.den ≡ d → (p : pos 1 ≤ℤ d) (r : gcd (unsigned_abs n) (unsigned_abs d) ≡ 1) (s : unsigned_abs n < 2 ^ 127) → f ≡ make n d p r s
    go n d e h =
        subst (λ y. (p : pos 1 ≤ℤ y) (r : gcd (unsigned_abs n) (unsigned_abs y) ≡ 1) (s : unsigned_abs n < 2 ^ 127) → f ≡ make n y p r s) h
        (subst (λ y. (p : pos 1 ≤ℤ f.den) (r : gcd (unsigned_abs y) (unsigned_abs f.den) ≡ 1) (s : unsigned_abs y < 2 ^ 127) → f ≡ make y f.den p r s) e at)
