-- The tests on values say whether the parts that the code computes fit, and the values are right.
use Rattle.std.specs.Prelude.{◌≡◌, ◌≤◌, ℤ, ◌*ℤ◌, unsigned_abs, int_div, true, false, ◌&&◌}
use Rattle.std.proofs.Common.{sym, ◌∙◌, ap, ap₂, arith, lt_of_le_of_lt}
use Rattle.std.proofs.lemmas.Bool.{and_from, and_parts, false_from_ne_true}
use Rattle.std.proofs.lemmas.Grind.{common_steps}
use Rattle.dc_math.specs.Quotients.{gcd_ℤ}
use Rattle.dc_math.specs.Rational.{ℚ, Fraction, ratio, ratio_same, ratio-add, ratio-mul, ◌+ℚ◌, ◌*ℚ◌}
use Rattle.dc_math.specs.Lowest.{lowest, ratio-lowest, lowest_reduced, lowest-of_reduced}
use Rattle.dc_frac.specs.declared.Frac.{Frac}
use Rattle.dc_frac.specs.Fits.{IsSmall, is_small, fits, parts_fit, rule_fits, sum_fits, sum_total, sum_num, sum_den, product_fits}
use Rattle.dc_frac.specs.Parts.{SumFits, ProductFits, product_num, product_den}
use Rattle.dc_frac.specs.Value.{fraction, value}
use Rattle.dc_frac.proofs.ValueLaws.{lowest-value}
use Rattle.dc_frac.proofs.Values.{Parts}
use Rattle.dc_frac.proofs.SumLaws.{SumParts, sum_parts}
use Rattle.dc_frac.proofs.ProductLaws.{product_parts}

-- ---- tests
pub small_true : (z : ℤ) → IsSmall z → is_small z ≡ true
small_true z h = grind (arith, common_steps)

pub true_small : (z : ℤ) → is_small z ≡ true → IsSmall z
true_small z e = grind (arith, common_steps)

module _ (a b c d g : ℤ) where
  rule_true : SumFits a b c d g → rule_fits a b c d g ≡ true
  rule_true f = and_from _ _ (and_from _ _ (and_from _ _ (small_true (a *ℤ int_div d g) f.left) (small_true (c *ℤ int_div b g) f.right)) (small_true (sum_total a b c d g) f.total)) (small_true (sum_den a b c d g) f.den)

  true_rule : rule_fits a b c d g ≡ true → SumFits a b c d g
  true_rule e =
      let p = and_parts _ _ e in
      let q = and_parts _ _ p.0 in
      let r = and_parts _ _ q.0 in
      record { left = true_small (a *ℤ int_div d g) r.0; right = true_small (c *ℤ int_div b g) r.1; total = true_small (sum_total a b c d g) q.1; den = true_small (sum_den a b c d g) p.1 }

-- ---- tests on values
sum_fits-value : (f g : Frac) → sum_fits (value f) (value g) ≡ rule_fits f.num f.den g.num g.den (gcd_ℤ f.den g.den)
unfolding sum_fits
sum_fits-value f g = ap₂ parts_fit (lowest-value f) (lowest-value g)

pub sum_true : (f g : Frac) → SumFits f.num f.den g.num g.den (gcd_ℤ f.den g.den) → sum_fits (value f) (value g) ≡ true
sum_true f g h = sum_fits-value f g ∙ rule_true _ _ _ _ _ h

pub sum_false : (f g : Frac) → ¬ (SumFits f.num f.den g.num g.den (gcd_ℤ f.den g.den)) → sum_fits (value f) (value g) ≡ false
sum_false f g n = false_from_ne_true _ (λ e. n (true_rule _ _ _ _ _ (sym (sum_fits-value f g) ∙ e)))

-- ---- a sum that exists
smaller : (n w : ℤ) → unsigned_abs n ≤ unsigned_abs w → is_small w ≡ true → is_small n ≡ true
smaller n w l h = small_true n (lt_of_le_of_lt l (true_small w h))

pub sum-fits : (x y : ℚ) → sum_fits x y ≡ true → fits (x +ℚ y) ≡ true
unfolding sum_fits fits
sum-fits x y h =
    let p = lowest x in
    let q = lowest y in
    let g = gcd_ℤ p.den q.den in
    let s : SumParts p.num p.den q.num q.den (sum_num p.num p.den q.num q.den g) (sum_den p.num p.den q.num q.den g) = sum_parts p.num p.den q.num q.den p.den_positive q.den_positive (lowest_reduced x) (lowest_reduced y) in
    let r : Fraction = record { num = sum_num p.num p.den q.num q.den g; den = sum_den p.num p.den q.num q.den g; den_positive = s.positive } in
    let is : x +ℚ y ≡ ratio r = ap₂ ◌+ℚ◌ (sym (ratio-lowest x)) (sym (ratio-lowest y)) ∙ ratio-add p q ∙ sym (ratio_same r _ s.equal) in
    let low : lowest (x +ℚ y) ≡ r = ap lowest is ∙ lowest-of_reduced r s.reduced in
    let w = sum_total p.num p.den q.num q.den g in
    let both = is_small (p.num *ℤ int_div q.den g) && is_small (q.num *ℤ int_div p.den g) in
    let a = and_parts (both && is_small w) (is_small r.den) h in
    let b = and_parts both (is_small w) a.0 in
    ap (λ (f : Fraction). is_small f.num && is_small f.den) low ∙ and_from (is_small r.num) (is_small r.den) (smaller r.num w s.size b.1) a.1

-- ---- the parts of a sum
pub sum_is : (f g : Frac) → SumFits f.num f.den g.num g.den (gcd_ℤ f.den g.den) → Parts (sum_num f.num f.den g.num g.den (gcd_ℤ f.den g.den)) (sum_den f.num f.den g.num g.den (gcd_ℤ f.den g.den)) (value f +ℚ value g)
unfolding value
sum_is f g h =
    let p = sum_parts f.num f.den g.num g.den f.positive g.positive f.reduced g.reduced in
    record {
      positive = p.positive;
      reduced = p.reduced;
      small = lt_of_le_of_lt p.size h.total;
      is = sym (ratio-add (fraction f) (fraction g) ∙ sym (ratio_same _ _ p.equal));
    }

-- ---- products
product_fraction : (f g : Frac) → Fraction
product_fraction f g =
    let p = product_parts f.num f.den g.num g.den f.positive g.positive f.reduced g.reduced in
    record { num = product_num f.num f.den g.num g.den; den = product_den f.num f.den g.num g.den; den_positive = p.positive }

product_ratio : (f g : Frac) → ratio (product_fraction f g) ≡ value f *ℚ value g
unfolding value product_fraction
product_ratio f g =
    let p = product_parts f.num f.den g.num g.den f.positive g.positive f.reduced g.reduced in
    sym (ratio-mul (fraction f) (fraction g) ∙ sym (ratio_same _ _ p.equal))

product_lowest : (f g : Frac) → lowest (value f *ℚ value g) ≡ product_fraction f g
unfolding product_fraction
product_lowest f g =
    let p = product_parts f.num f.den g.num g.den f.positive g.positive f.reduced g.reduced in
    ap lowest (sym (product_ratio f g)) ∙ lowest-of_reduced (product_fraction f g) p.reduced

product_fits-value : (f g : Frac) → product_fits (value f) (value g) ≡ is_small (product_num f.num f.den g.num g.den) && is_small (product_den f.num f.den g.num g.den)
unfolding fits product_fraction
product_fits-value f g = ap (λ (p : Fraction). is_small p.num && is_small p.den) (product_lowest f g)

pub product_true : (f g : Frac) → ProductFits f.num f.den g.num g.den → product_fits (value f) (value g) ≡ true
product_true f g h = product_fits-value f g ∙ and_from _ _ (small_true (product_num f.num f.den g.num g.den) h.num) (small_true (product_den f.num f.den g.num g.den) h.den)

pub product_false : (f g : Frac) → ¬ (ProductFits f.num f.den g.num g.den) → product_fits (value f) (value g) ≡ false
product_false f g n = false_from_ne_true _ (λ e. let p = and_parts _ _ (sym (product_fits-value f g) ∙ e) in n (record { num = true_small (product_num f.num f.den g.num g.den) p.0; den = true_small (product_den f.num f.den g.num g.den) p.1 }))

pub product_is : (f g : Frac) → ProductFits f.num f.den g.num g.den → Parts (product_num f.num f.den g.num g.den) (product_den f.num f.den g.num g.den) (value f *ℚ value g)
unfolding product_fraction
product_is f g h =
    let p = product_parts f.num f.den g.num g.den f.positive g.positive f.reduced g.reduced in
    record { positive = p.positive; reduced = p.reduced; small = h.num; is = product_ratio f g }
