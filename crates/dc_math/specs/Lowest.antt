-- Each rational number has one fraction in lowest terms, so a fraction can be taken from it.
use Rattle.std.specs.Prelude.{◌≡◌, ℕ, zero, suc, ◌*◌, ◌/◌, ℤ, pos, negsuc, neg_ℤ, ◌*ℤ◌, ◌≤ℤ◌, unsigned_abs, [], ◌∷◌}
use Rattle.std.proofs.Common.{refl, sym, ◌∙◌, ap, ap₂, subst, arith}
use Rattle.std.proofs.lemmas.Int.{ints, unsigned_abs-mul}
use Rattle.std.proofs.Math.Nat.{dvd-mul_left, dvd_antisymm, div-mul_cancel, mul-div_cancel'}
use Prim.Native.Nat.{◌∣◌}
use lib.Dec.{T_prop}
use Rattle.std.proofs.Math.IntN.{ℤ_set}
use native.Mathlib.Nat.{ℕ_set}
use mathlib.Core.HLevel.{Σ_prop_path}
use Rattle.dc_math.specs.Gcd.{gcd, gcd_is, gcd_positive, Coprime_parts, Coprime-gcd, gcd-Coprime, Coprime-swap, dvd_other}
use Rattle.dc_math.specs.Integers.{≤ℤ-*ℤ_cancel, size_positive, neg_ℤ-*ℤ}
use Rattle.dc_math.specs.WholeRing.{ring, reads, same_form}
use Rattle.dc_math.specs.Rational.{ℚ, Fraction, IsSameFraction, ratio, ratio_same, same_ratio, ℚ_set, ℚ_ind, ℚ_lift, ℚ_lift-ratio}

-- ---- lowest terms are unique
sizes : (a b c d : ℤ) → a *ℤ d ≡ c *ℤ b → unsigned_abs a * unsigned_abs d ≡ unsigned_abs c * unsigned_abs b
sizes a b c d e = sym (unsigned_abs-mul a d) ∙ ap unsigned_abs e ∙ unsigned_abs-mul c b

den_dvd : (a b c d : ℤ) → gcd (unsigned_abs a) (unsigned_abs b) ≡ 1 → a *ℤ d ≡ c *ℤ b → unsigned_abs b ∣ unsigned_abs d
den_dvd a b c d h e = dvd_other (unsigned_abs b) (unsigned_abs a) (unsigned_abs d) (Coprime-swap _ _ (gcd-Coprime _ _ h))
    (subst (λ n. unsigned_abs b ∣ n) (sym (sizes a b c d e)) (dvd-mul_left (unsigned_abs b) (unsigned_abs c)))

same_den : (a b c d : ℤ) → pos 1 ≤ℤ b → pos 1 ≤ℤ d → gcd (unsigned_abs a) (unsigned_abs b) ≡ 1 → gcd (unsigned_abs c) (unsigned_abs d) ≡ 1 → a *ℤ d ≡ c *ℤ b → b ≡ d
same_den a b c d pb pd h k e =
    let s = dvd_antisymm (den_dvd a b c d h e) (den_dvd c d a b k (sym e)) in
    omega (arith, ints)

cancel_ℤ : (a c b : ℤ) → pos 1 ≤ℤ b → a *ℤ b ≡ c *ℤ b → a ≡ c
cancel_ℤ a c b pb e = ≤ℤ_antisymm (≤ℤ-*ℤ_cancel a c b (omega (arith, ints)) (omega (arith, ints))) (≤ℤ-*ℤ_cancel c a b (omega (arith, ints)) (omega (arith, ints)))
  where
    ≤ℤ_antisymm : {a c : ℤ} → a ≤ℤ c → c ≤ℤ a → a ≡ c
    ≤ℤ_antisymm h k = omega (arith, ints)

-- ---- lowest terms of a fraction
record Lowest (f : Fraction) : Type 0 where
  pub num : ℤ
  pub den : ℤ
  pub den_positive : pos 1 ≤ℤ den
  pub coprime : gcd (unsigned_abs num) (unsigned_abs den) ≡ 1
  pub same : f.num *ℤ den ≡ num *ℤ f.den

part : ℤ → ℕ → ℤ
part (pos a) g = pos (a / g)
part (negsuc a) g = neg_ℤ (pos (suc a / g))

part_abs : (z : ℤ) (g : ℕ) → unsigned_abs (part z g) ≡ unsigned_abs z / g
unfolding part
part_abs (pos a) g = refl
part_abs (negsuc a) g = by (suc a / g)
  where
    by : (n : ℕ) → unsigned_abs (neg_ℤ (pos n)) ≡ n
    by zero = refl
    by (suc n) = refl

part_times : (z : ℤ) (g : ℕ) → g ∣ unsigned_abs z → part z g *ℤ pos g ≡ z
unfolding part
part_times (pos a) g h = ap pos (div-mul_cancel g h)
part_times (negsuc a) g h = by (suc a / g) (div-mul_cancel g h)
  where
    by : (n : ℕ) → n * g ≡ suc a → neg_ℤ (pos n) *ℤ pos g ≡ negsuc a
    by n e = neg_ℤ-*ℤ (pos n) (pos g) ∙ ap (λ (k : ℕ). neg_ℤ (pos k)) e

lowest_of : (f : Fraction) → Lowest f
lowest_of f =
    let g = gcd (unsigned_abs f.num) (unsigned_abs f.den) in
    let d = gcd_is (unsigned_abs f.num) (unsigned_abs f.den) in
    let e₁ = part_times f.num g d.0 in
    let e₂ = part_times f.den g d.1 in
    record {
      num = part f.num g;
      den = part f.den g;
      den_positive = positive (part f.den g) g (subst (λ z. pos 1 ≤ℤ z) (sym e₂) f.den_positive);
      coprime = ap₂ gcd (part_abs f.num g) (part_abs f.den g) ∙ Coprime-gcd _ _ (Coprime_parts (unsigned_abs f.num) (unsigned_abs f.den) _ _ (gcd_positive _ _ (size_positive f.den f.den_positive)) (sym (mul-div_cancel' g d.0)) (sym (mul-div_cancel' g d.1)));
      same = crossed f.num f.den (part f.num g) (part f.den g) (pos g) e₁ e₂;
    }
  where
    positive : (z : ℤ) (g : ℕ) → pos 1 ≤ℤ (z *ℤ pos g) → pos 1 ≤ℤ z
    positive (pos zero) g h = absurd (omega (arith, ints))
    positive (pos (suc n)) g h = omega (arith, ints)
    positive (negsuc n) g h = absurd (omega (arith, ints))

    crossed : (a b m n g : ℤ) → m *ℤ g ≡ a → n *ℤ g ≡ b → a *ℤ n ≡ m *ℤ b
    crossed a b m n g h k = ap (λ z. z *ℤ n) (sym h) ∙ ring (m ∷ g ∷ n ∷ []) (λ ρ p q r. simp (p, q, r, reads) (same_form _ _ _ refl)) ∙ ap (λ z. m *ℤ z) k

fraction_in : (f : Fraction) → Lowest f → Fraction
fraction_in f l = record { num = l.num; den = l.den; den_positive = l.den_positive }

reduced : Fraction → Fraction
reduced f = fraction_in f (lowest_of f)

reduced_ratio : (f : Fraction) → ratio (reduced f) ≡ ratio f
unfolding reduced fraction_in
reduced_ratio f = sym (ratio_same f (reduced f) (lowest_of f).same)

reduced_coprime : (f : Fraction) → gcd (unsigned_abs (reduced f).num) (unsigned_abs (reduced f).den) ≡ 1
unfolding reduced fraction_in
reduced_coprime f = (lowest_of f).coprime

fraction_of_parts : ℤ → (d : ℤ) × (pos 1 ≤ℤ d) → Fraction
fraction_of_parts n d = record { num = n; den = d.0; den_positive = d.1 }

pub at_least_prop : (d : ℤ) → IsProp (pos 1 ≤ℤ d)
at_least_prop d = hlevel T_prop

fraction_path : (p q : Fraction) → p.num ≡ q.num → p.den ≡ q.den → p ≡ q
unfolding fraction_of_parts
fraction_path p q e f = ap₂ fraction_of_parts e (Σ_prop_path (λ d. at_least_prop d) f)

Fraction_set : IsSet Fraction
Fraction_set = hlevel (T_prop, ℤ_set)

reduced_same : (p q : Fraction) → IsSameFraction p q → reduced p ≡ reduced q
unfolding reduced fraction_in
reduced_same p q h =
    let l = lowest_of p in
    let m = lowest_of q in
    let e = same_ratio (reduced p) (reduced q) (reduced_ratio p ∙ ratio_same p q h ∙ sym (reduced_ratio q)) in
    let d = same_den l.num l.den m.num m.den l.den_positive m.den_positive l.coprime m.coprime e in
    fraction_path (reduced p) (reduced q) (cancel_ℤ l.num m.num l.den l.den_positive (ap (λ x. l.num *ℤ x) d ∙ e)) d

-- ---- lowest terms of a number
abbrev pub IsReduced : Fraction → Type 0
IsReduced f = gcd (unsigned_abs f.num) (unsigned_abs f.den) ≡ 1

-- the fraction of a number in lowest terms
pub lowest : ℚ → Fraction
lowest = ℚ_lift Fraction_set reduced reduced_same

lowest-ratio : (f : Fraction) → lowest (ratio f) ≡ reduced f
unfolding lowest
lowest-ratio f = ℚ_lift-ratio Fraction_set reduced reduced_same f

pub ratio-lowest : (x : ℚ) → ratio (lowest x) ≡ x
ratio-lowest = ℚ_ind (λ x. ratio (lowest x) ≡ x) (λ x. ℚ_set _ _) (λ f. ap ratio (lowest-ratio f) ∙ reduced_ratio f)

pub lowest_reduced : (x : ℚ) → IsReduced (lowest x)
lowest_reduced = ℚ_ind (λ x. IsReduced (lowest x)) (λ x. ℕ_set (gcd (unsigned_abs (lowest x).num) (unsigned_abs (lowest x).den)) 1) (λ f. subst IsReduced (sym (lowest-ratio f)) (reduced_coprime f))

-- two fractions in lowest terms of one number are one fraction
pub lowest_unique : (p q : Fraction) → IsReduced p → IsReduced q → ratio p ≡ ratio q → p ≡ q
lowest_unique p q h k r =
    let e = same_ratio p q r in
    let d = same_den p.num p.den q.num q.den p.den_positive q.den_positive h k e in
    fraction_path p q (cancel_ℤ p.num q.num p.den p.den_positive (ap (λ x. p.num *ℤ x) d ∙ e)) d

pub lowest-of_reduced : (p : Fraction) → IsReduced p → lowest (ratio p) ≡ p
lowest-of_reduced p h = lowest_unique (lowest (ratio p)) p (lowest_reduced (ratio p)) h (ratio-lowest (ratio p))
