-- The value of a fraction by its parts.
use Rattle.std.specs.Prelude.{◌≡◌, ◌≢◌, zero, suc, ◌<◌, ◌^◌, ℤ, pos, negsuc, neg_ℤ, ◌*ℤ◌, ◌≤ℤ◌, ◌<ℤ◌, unsigned_abs, int_div, true, false, [], ◌∷◌}
use Rattle.std.proofs.Common.{refl, sym, ◌∙◌, ap, ap₂, subst, arith, lt_of_le_of_lt, mul_comm}
use Rattle.std.specs.Int.{int_div_euclid}
use Rattle.std.proofs.lemmas.Int.{ints}
use Rattle.std.proofs.lemmas.Bool.{both_ways}
use Rattle.dc_math.specs.WholeRing.{ring, reads, same_form}
use Rattle.dc_math.specs.Gcd.{gcd, gcd_is, gcd_positive, Coprime_parts, Coprime-gcd, Coprime-swap, gcd-Coprime}
use Rattle.dc_math.specs.Quotients.{gcd_ℤ, exact_quotient, quotient_size, size_of_product, positive_factor}
use Rattle.dc_math.specs.Rational.{ℚ, Fraction, fraction_of, ratio, ratio_same, same_ratio, ratio-neg, ratio-mul, of_ℤ, of_ℤ_is, neg_ℚ, ◌*ℚ◌, ◌<ℚ◌}
use Rattle.dc_math.specs.Inverse.{inverse, inverse_unique, *ℚ-inverse}
use Rattle.dc_math.specs.Order.{ratio_below, below_ratio, ratio_quotient, inverse-neg_ℚ, of_ℤ-neg_ℤ, of_ℤ_injective}
use Rattle.dc_math.specs.RationalRing as rational
use Rattle.dc_math.specs.Tests.{is_zero, is_negative, is_positive, eq_ℚ-true, eq_ℚ_true, eq_ℚ_false, lt_ℚ-true, lt_ℚ_true}
use Rattle.dc_math.specs.Floor.{floor, floor-ratio}
use Rattle.dc_math.specs.Integers.{size_positive}
use Rattle.dc_frac.specs.declared.Frac.{Frac}
use Rattle.dc_frac.specs.Fits.{IsSmall}
use Rattle.dc_frac.specs.Value.{fraction, value}

-- the parts of a fraction of the value x
pub record Parts (n d : ℤ) (x : ℚ) : Type 0 where
  pub positive : pos 1 ≤ℤ d
  pub reduced : gcd (unsigned_abs n) (unsigned_abs d) ≡ 1
  pub small : IsSmall n
  pub is : ratio (record { num = n; den = d; den_positive = positive }) ≡ x

pub parts_value : (r : Frac) (n d : ℤ) (x : ℚ) → Parts n d x → r.num ≡ n → r.den ≡ d → value r ≡ x
unfolding value
parts_value r n d x p e f = ratio_same (fraction r) (record { num = n; den = d; den_positive = p.positive }) (ap₂ ◌*ℤ◌ e (sym f)) ∙ p.is

-- ---- whole numbers and negations
pub whole_parts : (z : ℤ) → IsSmall z → Parts z (pos 1) (of_ℤ z)
whole_parts z h = record {
  positive = omega (arith, ints);
  reduced = Coprime-gcd (unsigned_abs z) 1 (λ d p q. q);
  small = h;
  is = ratio_same _ (fraction_of z) refl ∙ sym (of_ℤ_is z);
}

pub neg_parts : (f : Frac) → Parts (neg_ℤ f.num) f.den (neg_ℚ (value f))
unfolding value
neg_parts f = record {
  positive = f.positive;
  reduced = subst (λ n. gcd n (unsigned_abs f.den) ≡ 1) (same_size f.num) f.reduced;
  small = subst (λ n. n < 2 ^ 127) (same_size f.num) f.small;
  is = sym (ratio-neg (fraction f));
}
  where
    same_size : (z : ℤ) → unsigned_abs z ≡ unsigned_abs (neg_ℤ z)
    same_size z = omega (arith, ints)

-- ---- lowest terms of a pair
pub lowest_parts : (n d : ℤ) → pos 1 ≤ℤ d → IsSmall n → Parts (int_div n (gcd_ℤ n d)) (int_div d (gcd_ℤ n d)) (of_ℤ n *ℚ inverse (of_ℤ d))
lowest_parts n d h s =
    let g = gcd (unsigned_abs n) (unsigned_abs d) in
    let some : 0 < g = gcd_positive (unsigned_abs n) (unsigned_abs d) (size_positive d h) in
    let en : int_div n (pos g) *ℤ pos g ≡ n = exact_quotient n g (gcd_is (unsigned_abs n) (unsigned_abs d)).0 in
    let ed : int_div d (pos g) *ℤ pos g ≡ d = exact_quotient d g (gcd_is (unsigned_abs n) (unsigned_abs d)).1 in
    let p = positive_factor (int_div d (pos g)) g d ed h in
    record {
      positive = p;
      reduced = Coprime-gcd _ _ (Coprime_parts (unsigned_abs n) (unsigned_abs d) _ _ some (size_of_product (int_div n (pos g)) (pos g) n en ∙ mul_comm _ _) (size_of_product (int_div d (pos g)) (pos g) d ed ∙ mul_comm _ _));
      small = lt_of_le_of_lt (quotient_size n g) s;
      is = ratio_same (record { num = int_div n (pos g); den = int_div d (pos g); den_positive = p }) (record { num = n; den = d; den_positive = h }) (crossed n d (int_div n (pos g)) (int_div d (pos g)) (pos g) en ed)
          ∙ ratio_quotient (record { num = n; den = d; den_positive = h });
    }
  where
    crossed : (n d m e g : ℤ) → m *ℤ g ≡ n → e *ℤ g ≡ d → m *ℤ d ≡ n *ℤ e
    crossed n d m e g p q = ap (λ x. m *ℤ x) (sym q) ∙ ring (m ∷ e ∷ g ∷ []) (λ ρ i j k. simp (i, j, k, reads) (same_form _ _ _ refl)) ∙ ap (λ x. x *ℤ e) p

-- ---- zero and inverses
pub zero_num : (f : Frac) → f.num ≡ pos 0 → is_zero (value f) ≡ true
unfolding value
zero_num f e = eq_ℚ-true (value f) (of_ℤ (pos 0)) (ratio_same (fraction f) (fraction_of (pos 0)) (zero_left f.num f.den e) ∙ sym (of_ℤ_is (pos 0)))
  where
    zero_left : (n d : ℤ) → n ≡ pos 0 → n *ℤ pos 1 ≡ pos 0 *ℤ d
    zero_left n d e = omega (arith, ints)

pub num_zero : (f : Frac) → is_zero (value f) ≡ true → f.num ≡ pos 0
unfolding value
num_zero f e = left_zero f.num f.den (same_ratio (fraction f) (fraction_of (pos 0)) (eq_ℚ_true (value f) (of_ℤ (pos 0)) e ∙ of_ℤ_is (pos 0)))
  where
    left_zero : (n d : ℤ) → n *ℤ pos 1 ≡ pos 0 *ℤ d → n ≡ pos 0
    left_zero n d e = omega (arith, ints)

-- y is the inverse of x where their product is 1
pub inverse_is : (x y : ℚ) → is_zero x ≡ false → x *ℚ y ≡ of_ℤ (pos 1) → y ≡ inverse x
inverse_is x y n e = inverse_unique x y (inverse x) e (*ℚ-inverse x (eq_ℚ_false x (of_ℤ (pos 0)) n))

pub product_one : (p q : Fraction) → (p.num *ℤ q.num) ≡ (p.den *ℤ q.den) → ratio p *ℚ ratio q ≡ of_ℤ (pos 1)
product_one p q e = ratio-mul p q ∙ ratio_same _ (fraction_of (pos 1)) (one_right (p.num *ℤ q.num) (p.den *ℤ q.den) e) ∙ sym (of_ℤ_is (pos 1))
  where
    one_right : (n d : ℤ) → n ≡ d → n *ℤ pos 1 ≡ pos 1 *ℤ d
    one_right n d e = omega (arith, ints)

pub inverse_parts : (f : Frac) → IsSmall f.den → is_zero (value f) ≡ false → pos 1 ≤ℤ f.num → Parts f.den f.num (inverse (value f))
unfolding value
inverse_parts f s n h = record {
  positive = h;
  reduced = Coprime-gcd _ _ (Coprime-swap _ _ (gcd-Coprime _ _ f.reduced));
  small = s;
  is = inverse_is (value f) _ n (product_one (fraction f) (record { num = f.den; den = f.num; den_positive = h }) (turned f.num f.den));
}
  where
    turned : (a b : ℤ) → a *ℤ b ≡ b *ℤ a
    turned a b = ring (a ∷ b ∷ []) (λ ρ p q. simp (p, q, reads) (same_form _ _ _ refl))

pub negative_parts : (f : Frac) → IsSmall f.den → is_zero (value f) ≡ false → (h : pos 1 ≤ℤ neg_ℤ f.num) → Parts (neg_ℤ f.den) (neg_ℤ f.num) (inverse (value f))
unfolding value
negative_parts f s n h = record {
  positive = h;
  reduced = Coprime-gcd _ _ (Coprime-swap _ _ (gcd-Coprime (unsigned_abs (neg_ℤ f.num)) (unsigned_abs (neg_ℤ f.den)) (ap₂ gcd (sym (same_size f.num)) (sym (same_size f.den)) ∙ f.reduced)));
  small = subst (λ n. n < 2 ^ 127) (same_size f.den) s;
  is = inverse_is (value f) _ n (product_one (fraction f) (record { num = neg_ℤ f.den; den = neg_ℤ f.num; den_positive = h }) (turned f.num f.den));
}
  where
    same_size : (z : ℤ) → unsigned_abs z ≡ unsigned_abs (neg_ℤ z)
    same_size z = omega (arith, ints)

    turned : (a b : ℤ) → a *ℤ neg_ℤ b ≡ b *ℤ neg_ℤ a
    turned a b = ring (a ∷ b ∷ []) (λ ρ p q. simp (p, q, reads) (same_form _ _ _ refl))

-- ---- floors
pub floor_parts : (f : Frac) → floor (value f) ≡ int_div_euclid f.num f.den
unfolding value
floor_parts f = floor-ratio (fraction f)

pub floor_whole : (f : Frac) → f.den ≡ pos 1 → floor (value f) ≡ f.num
floor_whole f e = floor_parts f ∙ ap (int_div_euclid f.num) e ∙ by_one f.num
  where
    by_one : (z : ℤ) → int_div_euclid z (pos 1) ≡ z
    by_one (pos n) = omega (arith, ints)
    by_one (negsuc n) = omega (arith, ints)

-- ---- both signs turned
pub turned_quotient : (n d : ℤ) → d ≢ pos 0 → of_ℤ (neg_ℤ n) *ℚ inverse (of_ℤ (neg_ℤ d)) ≡ of_ℤ n *ℚ inverse (of_ℤ d)
turned_quotient n d h =
    rw (of_ℤ-neg_ℤ n, of_ℤ-neg_ℤ d, inverse-neg_ℚ (of_ℤ d) (λ e. h (of_ℤ_injective d (pos 0) e)))
    (signs (of_ℤ n) (inverse (of_ℤ d)))
  where
    signs : (x y : ℚ) → neg_ℚ x *ℚ neg_ℚ y ≡ x *ℚ y
    signs x y = rational.ring (x ∷ y ∷ []) (λ ρ p q. simp (p, q, rational.reads) (rational.same_form _ _ _ refl))

pub positive_num : (f : Frac) → is_zero (value f) ≡ false → pos 0 ≤ℤ f.num → pos 1 ≤ℤ f.num
positive_num f n h = by f.num (λ e. both_ways (is_zero (value f)) n (zero_num f e)) h
  where
    by : (z : ℤ) → z ≢ pos 0 → pos 0 ≤ℤ z → pos 1 ≤ℤ z
    by (pos zero) n h = absurd (n refl)
    by (pos (suc k)) n h = omega (arith, ints)
    by (negsuc k) n h = absurd (omega (arith, ints))

-- ---- signs
pub negative_num : (f : Frac) → f.num <ℤ pos 0 → is_negative (value f) ≡ true
unfolding value
negative_num f h = lt_ℚ-true (value f) (of_ℤ (pos 0)) (subst (λ x. value f <ℚ x) (sym (of_ℤ_is (pos 0))) (ratio_below (fraction f) (fraction_of (pos 0)) (omega (arith, ints))))

pub num_negative : (f : Frac) → is_negative (value f) ≡ true → f.num <ℤ pos 0
unfolding value
num_negative f e =
    let h = below_ratio (fraction f) (fraction_of (pos 0)) (subst (λ x. value f <ℚ x) (of_ℤ_is (pos 0)) (lt_ℚ_true (value f) (of_ℤ (pos 0)) e)) in
    omega (arith, ints)

pub above_num : (f : Frac) → pos 0 <ℤ f.num → is_positive (value f) ≡ true
unfolding value
above_num f h = lt_ℚ-true (of_ℤ (pos 0)) (value f) (subst (λ x. x <ℚ value f) (sym (of_ℤ_is (pos 0))) (ratio_below (fraction_of (pos 0)) (fraction f) (omega (arith, ints))))

pub num_above : (f : Frac) → is_positive (value f) ≡ true → pos 0 <ℤ f.num
unfolding value
num_above f e =
    let h = below_ratio (fraction_of (pos 0)) (fraction f) (subst (λ x. x <ℚ value f) (of_ℤ_is (pos 0)) (lt_ℚ_true (of_ℤ (pos 0)) (value f) e)) in
    omega (arith, ints)
