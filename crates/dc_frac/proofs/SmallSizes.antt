-- Numbers of small parts, reduced or not: lowest terms are no larger than the parts of any pair of their number.
use Rattle.std.specs.Prelude.{◌≡◌, ℕ, zero, suc, ◌+◌, ◌*◌, ◌<◌, ◌≤◌, ◌^◌, ℤ, pos, negsuc, neg_ℤ, ◌+ℤ◌, ◌*ℤ◌, ◌≤ℤ◌, unsigned_abs, int_div, true, [], ◌∷◌}
use Rattle.std.proofs.Common.{refl, sym, ◌∙◌, ap, ap₂, subst, arith, lt_of_lt_of_le, lt_of_le_of_lt, le_trans, le_of_eq, mul-le-mul, mul-le-mul_left, le_of_mul-le-mul_right, pow_mono, pow-add}
use Rattle.std.proofs.lemmas.Bool.{and_from}
use Rattle.std.proofs.lemmas.Int.{ints, unsigned_abs-mul}
use Rattle.std.proofs.Math.Nat.{dvd-mul_left, le_of_dvd}
use Prim.Native.Nat.{◌∣◌}
use Rattle.dc_math.specs.Gcd.{gcd-Coprime, Coprime-swap, dvd_other}
use Rattle.dc_math.specs.Quotients.{quotient_size}
use Rattle.dc_math.specs.WholeRing.{ring, reads, same_form}
use Rattle.dc_math.specs.Rational.{ℚ, Fraction, fraction_of, fraction_neg, fraction_mul, ratio, ratio_same, same_ratio, ratio-neg, ratio-mul, of_ℤ, of_ℤ_is, of_ℤ-*ℤ, neg_ℚ, ◌*ℚ◌}
use Rattle.dc_math.specs.Inverse.{inverse, inverse_unique, *ℚ-inverse, ◌/ℚ◌}
use Rattle.dc_math.specs.Order.{ratio_quotient}
use Rattle.dc_math.specs.Lowest.{lowest, ratio-lowest, lowest_reduced, lowest-of_reduced}
use Rattle.dc_math.specs.Integers.{size-neg_ℤ, size_positive, *ℤ-one}
use Rattle.dc_frac.specs.Fits.{is_small, fits, product_fits, quotient_fits, sum_fits, difference_fits, parts_fit, rule_fits, sum_total, sum_den, IsWithin}
use Rattle.dc_frac.specs.Laws.{SmallNumbers}
use Rattle.dc_frac.proofs.FitLaws.{small_true}
use Rattle.dc_frac.proofs.ShortWays.{div_one, gcd_nat_one, gcd_one}
use Rattle.dc_frac.proofs.Values.{product_one}

-- ---- sizes of products and of sums
pub product_below : (m n : ℕ) (a b : ℤ) → unsigned_abs a < 2 ^ m → unsigned_abs b < 2 ^ n → unsigned_abs (a *ℤ b) < 2 ^ (m + n)
product_below m n a b h k = rw (unsigned_abs-mul a b, pow-add 2 m n) (below (unsigned_abs a) (unsigned_abs b) (2 ^ m) (2 ^ n) h k)
  where
    below : (a b x y : ℕ) → a < x → b < y → a * b < x * y
    below a b x y h k =
        let s : suc a * suc b ≤ x * y = mul-le-mul h k in
        omega (arith, s)

pub sum_below : (n : ℕ) (a b : ℤ) → unsigned_abs a < 2 ^ n → unsigned_abs b < 2 ^ n → unsigned_abs (a +ℤ b) < 2 ^ (n + 1)
sum_below n a b h k = double (2 ^ n) (2 ^ (n + 1)) (pow-add 2 n 1) h k
  where
    double : (p q : ℕ) → q ≡ p * 2 ^ 1 → unsigned_abs a < p → unsigned_abs b < p → unsigned_abs (a +ℤ b) < q
    double p q e h k = omega (arith, ints, e)

pub small_below : (n : ℕ) (z : ℤ) → unsigned_abs z < 2 ^ n → n ≤ 127 → is_small z ≡ true
small_below n z h l = small_true z (lt_of_lt_of_le h (pow_mono l))

-- ---- lowest terms are no larger

-- a/b in lowest terms against the pair c/d of the same number
module _ (a b c d : ℤ) (pb : pos 1 ≤ℤ b) (pd : pos 1 ≤ℤ d) (e : a *ℤ d ≡ c *ℤ b) where
  crossed : unsigned_abs a * unsigned_abs d ≡ unsigned_abs c * unsigned_abs b
  crossed = sym (unsigned_abs-mul a d) ∙ ap unsigned_abs e ∙ unsigned_abs-mul c b

  den_size : (unsigned_abs b ∣ unsigned_abs d) → unsigned_abs b ≤ unsigned_abs d
  den_size h = le_of_dvd (size_positive d pd) h

  num_size : unsigned_abs b ≤ unsigned_abs d → unsigned_abs a ≤ unsigned_abs c
  num_size h = le_of_mul-le-mul_right {k = unsigned_abs d} (le_trans (le_of_eq crossed) (mul-le-mul_left (unsigned_abs c) h)) (size_positive d pd)

same_pair : (x : ℚ) (p : Fraction) → ratio p ≡ x → (lowest x).num *ℤ p.den ≡ p.num *ℤ (lowest x).den
same_pair x p e = same_ratio (lowest x) p (ratio-lowest x ∙ sym e)

pub lowest_den_size : (x : ℚ) (p : Fraction) → ratio p ≡ x → unsigned_abs (lowest x).den ≤ unsigned_abs p.den
lowest_den_size x p e =
    let l = lowest x in
    let s = same_pair x p e in
    den_size l.num l.den p.num p.den l.den_positive p.den_positive s
    (dvd_other (unsigned_abs l.den) (unsigned_abs l.num) (unsigned_abs p.den) (Coprime-swap _ _ (gcd-Coprime _ _ (lowest_reduced x)))
    (subst (λ n. unsigned_abs l.den ∣ n) (sym (crossed l.num l.den p.num p.den l.den_positive p.den_positive s)) (dvd-mul_left (unsigned_abs l.den) (unsigned_abs p.num))))

pub lowest_num_size : (x : ℚ) (p : Fraction) → ratio p ≡ x → unsigned_abs (lowest x).num ≤ unsigned_abs p.num
lowest_num_size x p e =
    let l = lowest x in
    num_size l.num l.den p.num p.den l.den_positive p.den_positive (same_pair x p e) (lowest_den_size x p e)

pub lowest_num_below : (n : ℕ) (x : ℚ) → IsWithin n x → unsigned_abs (lowest x).num < 2 ^ n
lowest_num_below n x h = lt_of_le_of_lt (lowest_num_size x h.pair h.is) h.num

pub lowest_den_below : (n : ℕ) (x : ℚ) → IsWithin n x → unsigned_abs (lowest x).den < 2 ^ n
lowest_den_below n x h = lt_of_le_of_lt (lowest_den_size x h.pair h.is) h.den

-- ---- numbers within a size
pub within_more : (m n : ℕ) (x : ℚ) → IsWithin m x → m ≤ n → IsWithin n x
within_more m n x h l = record { pair = h.pair; is = h.is; num = lt_of_lt_of_le h.num (pow_mono l); den = lt_of_lt_of_le h.den (pow_mono l) }

pub whole_within : (n : ℕ) (z : ℤ) → 1 ≤ n → unsigned_abs z < 2 ^ n → IsWithin n (of_ℤ z)
whole_within n z l h = record { pair = fraction_of z; is = sym (of_ℤ_is z); num = h; den = lt_of_lt_of_le one (pow_mono l) }
  where
    one : 1 < 2 ^ 1
    one = omega arith

pub ratio_within : (n : ℕ) (z d : ℤ) → pos 1 ≤ℤ d → unsigned_abs z < 2 ^ n → unsigned_abs d < 2 ^ n → IsWithin n (of_ℤ z /ℚ of_ℤ d)
ratio_within n z d p h k = record { pair = record { num = z; den = d; den_positive = p }; is = ratio_quotient (record { num = z; den = d; den_positive = p }); num = h; den = k }

pub neg_within : (n : ℕ) (x : ℚ) → IsWithin n x → IsWithin n (neg_ℚ x)
neg_within n x h = record {
  pair = fraction_neg h.pair;
  is = sym (ratio-neg h.pair) ∙ ap neg_ℚ h.is;
  num = subst (λ k. k < 2 ^ n) (sym (size-neg_ℤ h.pair.num)) h.num;
  den = h.den;
}

pub product_within : (m n : ℕ) (x y : ℚ) → IsWithin m x → IsWithin n y → IsWithin (m + n) (x *ℚ y)
product_within m n x y h k = record {
  pair = fraction_mul h.pair k.pair;
  is = sym (ratio-mul h.pair k.pair) ∙ ap₂ ◌*ℚ◌ h.is k.is;
  num = product_below m n h.pair.num k.pair.num h.num k.num;
  den = product_below m n h.pair.den k.pair.den h.den k.den;
}

-- the inverse has the parts of its number, and the signs of both are turned where that is negative
turned : (p : Fraction) (x : ℚ) (n d : ℤ) (h : pos 1 ≤ℤ d) → ratio p ≡ x → ¬ (x ≡ of_ℤ (pos 0)) → p.num *ℤ n ≡ p.den *ℤ d → ratio (record { num = n; den = d; den_positive = h }) ≡ inverse x
turned p x n d h e nz k =
    let q : Fraction = record { num = n; den = d; den_positive = h } in
    inverse_unique x (ratio q) (inverse x) (ap (λ w. w *ℚ ratio q) (sym e) ∙ product_one p q k) (*ℚ-inverse x nz)

swapped : (a b : ℤ) → a *ℤ b ≡ b *ℤ a
swapped a b = ring (a ∷ b ∷ []) (λ ρ p q. simp (p, q, reads) (same_form _ _ _ refl))

swapped_signs : (a b : ℤ) → a *ℤ neg_ℤ b ≡ b *ℤ neg_ℤ a
swapped_signs a b = ring (a ∷ b ∷ []) (λ ρ p q. simp (p, q, reads) (same_form _ _ _ refl))

zero_num : (p : Fraction) → p.num ≡ pos 0 → ratio p ≡ of_ℤ (pos 0)
zero_num p e = ratio_same p (fraction_of (pos 0)) (none p.num p.den e) ∙ sym (of_ℤ_is (pos 0))
  where
    none : (a b : ℤ) → a ≡ pos 0 → a *ℤ pos 1 ≡ pos 0 *ℤ b
    none a b e = omega (arith, ints)

pub inverse_within : (n : ℕ) (x : ℚ) → ¬ (x ≡ of_ℤ (pos 0)) → IsWithin n x → IsWithin n (inverse x)
inverse_within n x nz h = by h.pair.num refl
  where
    by : (z : ℤ) → h.pair.num ≡ z → IsWithin n (inverse x)
    by (pos zero) e = absurd (nz (sym h.is ∙ zero_num h.pair e))
    by (pos (suc k)) e =
        let some : pos 1 ≤ℤ h.pair.num = omega (arith, ints, e) in
        record {
          pair = record { num = h.pair.den; den = h.pair.num; den_positive = some };
          is = turned h.pair x h.pair.den h.pair.num some h.is nz (swapped h.pair.num h.pair.den);
          num = h.den;
          den = h.num;
        }
    by (negsuc k) e =
        let some : pos 1 ≤ℤ neg_ℤ h.pair.num = omega (arith, ints, e) in
        record {
          pair = record { num = neg_ℤ h.pair.den; den = neg_ℤ h.pair.num; den_positive = some };
          is = turned h.pair x (neg_ℤ h.pair.den) (neg_ℤ h.pair.num) some h.is nz (swapped_signs h.pair.num h.pair.den);
          num = subst (λ k. k < 2 ^ n) (sym (size-neg_ℤ h.pair.den)) h.den;
          den = subst (λ k. k < 2 ^ n) (sym (size-neg_ℤ h.pair.num)) h.num;
        }

pub quotient_within : (m n : ℕ) (x y : ℚ) → ¬ (y ≡ of_ℤ (pos 0)) → IsWithin m x → IsWithin n y → IsWithin (m + n) (x /ℚ y)
quotient_within m n x y nz h k = product_within m n x (inverse y) h (inverse_within n y nz k)

-- ---- what fits
pub within_fits : (n : ℕ) (x : ℚ) → IsWithin n x → n ≤ 127 → fits x ≡ true
unfolding fits
within_fits n x h l = and_from _ _ (small_below n (lowest x).num (lowest_num_below n x h) l) (small_below n (lowest x).den (lowest_den_below n x h) l)

pub products_fit : (m n : ℕ) (x y : ℚ) → IsWithin m x → IsWithin n y → m + n ≤ 127 → product_fits x y ≡ true
products_fit m n x y h k l = within_fits (m + n) (x *ℚ y) (product_within m n x y h k) l

pub quotients_fit : (m n : ℕ) (x y : ℚ) → ¬ (y ≡ of_ℤ (pos 0)) → IsWithin m x → IsWithin n y → m + n ≤ 127 → quotient_fits x y ≡ true
quotients_fit m n x y nz h k l = within_fits (m + n) (x /ℚ y) (quotient_within m n x y nz h k) l

-- the parts of the sum rule, g and e being any divisors
module _ (m n : ℕ) (l : m + n ≤ 126) (a b c d : ℤ) (ha : unsigned_abs a < 2 ^ m) (hb : unsigned_abs b < 2 ^ m) (hc : unsigned_abs c < 2 ^ n) (hd : unsigned_abs d < 2 ^ n) (g : ℕ) where
  left_below : unsigned_abs (a *ℤ int_div d (pos g)) < 2 ^ (m + n)
  left_below = product_below m n a (int_div d (pos g)) ha (lt_of_le_of_lt (quotient_size d g) hd)

  right_below : unsigned_abs (c *ℤ int_div b (pos g)) < 2 ^ (m + n)
  right_below =
      let p = product_below m n (int_div b (pos g)) c (lt_of_le_of_lt (quotient_size b g) hb) hc in
      subst (λ z. unsigned_abs z < 2 ^ (m + n)) (swapped (int_div b (pos g)) c) p

  den_below : (e : ℕ) → unsigned_abs (int_div b (pos g) *ℤ int_div d (pos e)) < 2 ^ (m + n)
  den_below e = product_below m n (int_div b (pos g)) (int_div d (pos e)) (lt_of_le_of_lt (quotient_size b g) hb) (lt_of_le_of_lt (quotient_size d e) hd)

  more : m + n + 1 ≤ 127
  more = omega (arith, l)

  less : m + n ≤ 127
  less = omega (arith, l)

  rule_small : rule_fits a b c d (pos g) ≡ true
  rule_small =
      and_from _ _
      (and_from _ _ (and_from _ _ (small_below _ (a *ℤ int_div d (pos g)) left_below less) (small_below _ (c *ℤ int_div b (pos g)) right_below less))
      (small_below _ (sum_total a b c d (pos g)) (sum_below (m + n) (a *ℤ int_div d (pos g)) (c *ℤ int_div b (pos g)) left_below right_below) more))
      (small_below _ (sum_den a b c d (pos g)) (den_below _) less)

pub sums_fit : (m n : ℕ) (x y : ℚ) → IsWithin m x → IsWithin n y → m + n ≤ 126 → sum_fits x y ≡ true
unfolding sum_fits
sums_fit m n x y h k l = rule_small m n l (lowest x).num (lowest x).den (lowest y).num (lowest y).den (lowest_num_below m x h) (lowest_den_below m x h) (lowest_num_below n y k) (lowest_den_below n y k) _

pub differences_fit : (m n : ℕ) (x y : ℚ) → IsWithin m x → IsWithin n y → m + n ≤ 126 → difference_fits x y ≡ true
differences_fit m n x y h k l = sums_fit m n x (neg_ℚ y) h (neg_within n y k) l

pub steps_fit : (x y z : ℚ) → IsWithin 41 x → IsWithin 41 y → IsWithin 41 z → difference_fits z (x *ℚ y) ≡ true
steps_fit x y z h k l = differences_fit 41 82 z (x *ℚ y) l (product_within 41 41 x y h k) (omega arith)

-- ---- whole numbers
pub lowest-whole : (z : ℤ) → lowest (of_ℤ z) ≡ fraction_of z
lowest-whole z = ap lowest (of_ℤ_is z) ∙ lowest-of_reduced (fraction_of z) (gcd_nat_one (unsigned_abs z))

pub whole_fits : (z : ℤ) → unsigned_abs z < 2 ^ 127 → fits (of_ℤ z) ≡ true
whole_fits z h = within_fits 127 (of_ℤ z) (whole_within 127 z (omega arith) h) (omega arith)

pub whole_products_fit : (z w : ℤ) → unsigned_abs (z *ℤ w) < 2 ^ 127 → product_fits (of_ℤ z) (of_ℤ w) ≡ true
whole_products_fit z w h = ap fits (sym (of_ℤ-*ℤ z w)) ∙ whole_fits (z *ℤ w) h

whole_rule : (z w : ℤ) → unsigned_abs z < 2 ^ 126 → unsigned_abs w < 2 ^ 126 → rule_fits z (pos 1) w (pos 1) (pos 1) ≡ true
whole_rule z w h k =
    and_from _ _
    (and_from _ _ (and_from _ _ (small_below 126 (z *ℤ int_div (pos 1) (pos 1)) (part z h) (omega arith)) (small_below 126 (w *ℤ int_div (pos 1) (pos 1)) (part w k) (omega arith)))
    (small_below 127 (sum_total z (pos 1) w (pos 1) (pos 1)) (sum_below 126 (z *ℤ int_div (pos 1) (pos 1)) (w *ℤ int_div (pos 1) (pos 1)) (part z h) (part w k)) (omega arith)))
    (ap is_small one ∙ small_true (pos 1) (omega arith))
  where
    part : (z : ℤ) → unsigned_abs z < 2 ^ 126 → unsigned_abs (z *ℤ int_div (pos 1) (pos 1)) < 2 ^ 126
    part z h = rw (div_one (pos 1), *ℤ-one z) h

    one : sum_den z (pos 1) w (pos 1) (pos 1) ≡ pos 1
    one = ap₂ ◌*ℤ◌ (div_one (pos 1)) (ap (int_div (pos 1)) (gcd_one (sum_total z (pos 1) w (pos 1) (pos 1))) ∙ div_one (pos 1))

pub whole_sums_fit : (z w : ℤ) → unsigned_abs z < 2 ^ 126 → unsigned_abs w < 2 ^ 126 → sum_fits (of_ℤ z) (of_ℤ w) ≡ true
unfolding sum_fits
whole_sums_fit z w h k = ap₂ parts_fit (lowest-whole z) (lowest-whole w) ∙ ap (rule_fits z (pos 1) w (pos 1)) (gcd_one (pos 1)) ∙ whole_rule z w h k

pub small_numbers : SmallNumbers
small_numbers = record {
  whole = whole_within;
  ratio = ratio_within;
  lowest_num = lowest_num_below;
  lowest_den = lowest_den_below;
  fit = within_fits;
  negation = neg_within;
  inverse = inverse_within;
  product = product_within;
  quotient = quotient_within;
  product_fit = products_fit;
  quotient_fit = quotients_fit;
  sum_fit = sums_fit;
  difference_fit = differences_fit;
  step_fit = steps_fit;
  whole_fit = whole_fits;
  whole_product = whole_products_fit;
  whole_sum = whole_sums_fit;
}
