-- The order of fractions by the order of products.
use Rattle.std.specs.Prelude.{◌≡◌, ◌*◌, ◌<◌, ℤ, pos, negsuc, neg_ℤ, ◌*ℤ◌, ◌+ℤ◌, ◌≤ℤ◌, ◌<ℤ◌, unsigned_abs}
use Rattle.std.specs.Ordering.{MatchOrdering}
use Rattle.std.specs.declared.cmp.Ordering.{Ordering}
use Rattle.std.proofs.Common.{arith, refl, ap}
use Rattle.std.proofs.lemmas.Int.{ints}
use Rattle.dc_math.specs.Integers.{≤ℤ-*ℤ_right, +ℤ-*ℤ, 0≤ℤ-*ℤ}
use Rattle.dc_math.specs.Rational.{◌<ℚ◌, ratio_same}
use Rattle.dc_math.specs.Order.{ratio_below}
use Rattle.dc_frac.specs.declared.Frac.{Frac}
use Rattle.dc_frac.specs.Value.{fraction, value}
use Rattle.dc_frac.proofs.Sizes.{map_ordering}

-- which of two whole numbers is smaller
abbrev pub Ranked : Ordering → ℤ → ℤ → Type 0
Ranked o x y = MatchOrdering o (x <ℤ y) (x ≡ y) (y <ℤ x)

pub value_ranked : (f g : Frac) (o : Ordering) → Ranked o (f.num *ℤ g.den) (g.num *ℤ f.den) → MatchOrdering o (value f <ℚ value g) (value f ≡ value g) (value g <ℚ value f)
unfolding value
value_ranked f g o m = map_ordering o (ratio_below (fraction f) (fraction g)) (ratio_same (fraction f) (fraction g)) (ratio_below (fraction g) (fraction f)) m

below_times : (x y d : ℤ) → pos 1 ≤ℤ d → x <ℤ y → (x *ℤ d) <ℤ (y *ℤ d)
below_times x y d h k =
    let m = ≤ℤ-*ℤ_right (x +ℤ pos 1) y d (omega (arith, ints)) (omega (arith, ints)) in
    let e = +ℤ-*ℤ x (pos 1) d in
    omega (arith, ints, m, e)

pub over_ranked : (a c d : ℤ) (o : Ordering) → pos 1 ≤ℤ d → Ranked o a c → Ranked o (a *ℤ d) (c *ℤ d)
over_ranked a c d o h m = map_ordering o (below_times a c d h) (λ e. ap (λ z. z *ℤ d) e) (below_times c a d h) m

size_positive : (x d : ℤ) → pos 0 ≤ℤ x → pos 1 ≤ℤ d → x *ℤ d ≡ pos (unsigned_abs x * unsigned_abs d)
size_positive (pos m) (pos n) h k = refl
size_positive (pos m) (negsuc n) h k = absurd (omega (arith, ints))
size_positive (negsuc m) d h k = absurd (omega (arith, ints))

size_negative : (x d : ℤ) → x <ℤ pos 0 → pos 1 ≤ℤ d → x *ℤ d ≡ neg_ℤ (pos (unsigned_abs x * unsigned_abs d))
size_negative (pos m) d h k = absurd (omega (arith, ints))
size_negative (negsuc m) (pos n) h k = omega (arith, ints)
size_negative (negsuc m) (negsuc n) h k = absurd (omega (arith, ints))

module _ (a b c d : ℤ) (hb : pos 1 ≤ℤ b) (hd : pos 1 ≤ℤ d) where
  pub both_positive : (o : Ordering) → pos 0 ≤ℤ a → pos 0 ≤ℤ c
      → MatchOrdering o (unsigned_abs a * unsigned_abs d < unsigned_abs c * unsigned_abs b) (unsigned_abs a * unsigned_abs d ≡ unsigned_abs c * unsigned_abs b) (unsigned_abs c * unsigned_abs b < unsigned_abs a * unsigned_abs d)
      → Ranked o (a *ℤ d) (c *ℤ b)
  both_positive o ha hc m =
      let e = size_positive a d ha hd in
      let f = size_positive c b hc hb in
      map_ordering o (λ h. omega (arith, ints, e, f, h)) (λ h. omega (arith, ints, e, f, h)) (λ h. omega (arith, ints, e, f, h)) m

  pub both_negative : (o : Ordering) → a <ℤ pos 0 → c <ℤ pos 0
      → MatchOrdering o (unsigned_abs c * unsigned_abs b < unsigned_abs a * unsigned_abs d) (unsigned_abs c * unsigned_abs b ≡ unsigned_abs a * unsigned_abs d) (unsigned_abs a * unsigned_abs d < unsigned_abs c * unsigned_abs b)
      → Ranked o (a *ℤ d) (c *ℤ b)
  both_negative o ha hc m =
      let e = size_negative a d ha hd in
      let f = size_negative c b hc hb in
      map_ordering o (λ h. omega (arith, ints, e, f, h)) (λ h. omega (arith, ints, e, f, h)) (λ h. omega (arith, ints, e, f, h)) m

  pub signs_apart : a <ℤ pos 0 → pos 0 ≤ℤ c → (a *ℤ d) <ℤ (c *ℤ b)
  signs_apart ha hc =
      let e = below_times a (pos 0) d hd ha in
      let f = 0≤ℤ-*ℤ c b hc (omega (arith, ints)) in
      omega (arith, ints, e, f)
