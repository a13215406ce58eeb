-- Laws of the order of any ordered field.
use Rattle.std.proofs.Common.{◌≡◌, ◌≢◌, ℕ, ◌<◌, ◌==◌, Bool, true, false, cond, refl, sym, ◌∙◌, ap, eq-eqb}
use Rattle.std.proofs.lemmas.Bool.{ne_eqb, both_ways, true_from_ne_false, false_from_ne_true}
use Rattle.dc_math.specs.Field.{Field, sum_to, minus, nonneg}
use Rattle.dc_math.specs.FieldSums.{mul_zero, zero_add, neg_back, neg_zero, neg_add, cancel, minus-back, mul_neg, inverse-back, sum-same, sum-none, sum_but, sum-split, sum_but-same}

module _ (Q : Type 0) (F : Field Q) where
  pub neg_neg : (x : Q) → F.neg (F.neg x) ≡ x
  neg_neg x = cancel Q F (F.neg (F.neg x)) x (F.neg x) (neg_back Q F (F.neg x) ∙ sym (F.add_neg x))

  pub neg_mul : (x y : Q) → F.mul (F.neg x) y ≡ F.neg (F.mul x y)
  neg_mul x y = F.mul_comm (F.neg x) y ∙ mul_neg Q F y x ∙ ap F.neg (F.mul_comm y x)

  pub nonneg_zero : nonneg Q F F.zero_q ≡ true
  nonneg_zero = true_from_ne_false (nonneg Q F F.zero_q) (λ e. both_ways (nonneg Q F F.zero_q) e (sym (ap (nonneg Q F) (neg_zero Q F)) ∙ F.nonneg_neg F.zero_q e))

  pub nonneg_neg_zero : nonneg Q F (F.neg F.zero_q) ≡ true
  nonneg_neg_zero = ap (nonneg Q F) (neg_zero Q F) ∙ nonneg_zero

  -- at most 0
  pub at_most_zero : (x : Q) → F.at_most x F.zero_q ≡ nonneg Q F (F.neg x)
  at_most_zero x = F.at_most_sub x F.zero_q ∙ ap (nonneg Q F) (zero_add Q F (F.neg x))

  -- what is above 0 is at least 0, and isn't 0
  pub above-nonneg : (x : Q) → nonneg Q F (F.neg x) ≡ false → nonneg Q F x ≡ true
  above-nonneg x e = sym (ap (nonneg Q F) (neg_neg x)) ∙ F.nonneg_neg (F.neg x) e

  pub above-nonzero : (x : Q) → nonneg Q F (F.neg x) ≡ false → x ≢ F.zero_q
  above-nonzero x e z = both_ways (nonneg Q F (F.neg x)) e (ap (λ y. nonneg Q F (F.neg y)) z ∙ nonneg_neg_zero)

  pub below-nonzero : (x : Q) → nonneg Q F x ≡ false → x ≢ F.zero_q
  below-nonzero x e z = both_ways (nonneg Q F x) e (ap (nonneg Q F) z ∙ nonneg_zero)

  -- below 0 times above 0
  pub below-times_above : (x y : Q) → nonneg Q F x ≡ false → nonneg Q F (F.neg y) ≡ false → nonneg Q F (F.neg (F.mul x y)) ≡ true
  below-times_above x y e f = sym (ap (nonneg Q F) (neg_mul x y)) ∙ F.nonneg_mul (F.neg x) y (F.nonneg_neg x e) (above-nonneg y f)

  pub zero-times : (x y : Q) → x ≡ F.zero_q → F.mul x y ≡ F.zero_q
  zero-times x y e = ap (λ w. F.mul w y) e ∙ F.mul_comm F.zero_q y ∙ mul_zero Q F y

  pub times-zero : (x y : Q) → y ≡ F.zero_q → F.mul x y ≡ F.zero_q
  times-zero x y e = ap (F.mul x) e ∙ mul_zero Q F x

  pub zero-product : (x y : Q) → x ≡ F.zero_q → nonneg Q F (F.neg (F.mul x y)) ≡ true
  zero-product x y e = ap (λ w. nonneg Q F (F.neg w)) (zero-times x y e) ∙ nonneg_neg_zero

  -- where x is at least 0 and x * y above 0, y is above 0
  pub factor-above : (x y : Q) → nonneg Q F x ≡ true → nonneg Q F (F.neg (F.mul x y)) ≡ false → nonneg Q F (F.neg y) ≡ false
  factor-above x y e f = false_from_ne_true (nonneg Q F (F.neg y)) (λ h.
      both_ways (nonneg Q F (F.neg (F.mul x y))) f (sym (ap (nonneg Q F) (mul_neg Q F x y)) ∙ F.nonneg_mul x (F.neg y) e h))

  pub nonneg_one : nonneg Q F F.one ≡ true
  nonneg_one = true_from_ne_false (nonneg Q F F.one) (λ e.
      both_ways (nonneg Q F F.one) e (sym (ap (nonneg Q F) (mul_neg Q F (F.neg F.one) F.one ∙ ap F.neg (F.mul_one (F.neg F.one)) ∙ neg_neg F.one)) ∙ F.nonneg_mul (F.neg F.one) (F.neg F.one) (F.nonneg_neg F.one e) (F.nonneg_neg F.one e)))

  pub inverse-nonneg : (x : Q) → nonneg Q F (F.neg x) ≡ false → nonneg Q F (F.inverse x) ≡ true
  inverse-nonneg x e = true_from_ne_false (nonneg Q F (F.inverse x)) (λ f.
      F.nontrivial (F.nonneg_both F.one nonneg_one
      (sym (ap (nonneg Q F) (mul_neg Q F x (F.inverse x) ∙ ap F.neg (F.mul_inverse x (above-nonzero x e)))) ∙ F.nonneg_mul x (F.neg (F.inverse x)) (above-nonneg x e) (F.nonneg_neg (F.inverse x) f))))

  -- a product with a nonzero factor is 0 only where the other factor is
  pub factor-zero : (x y : Q) → x ≢ F.zero_q → F.mul x y ≡ F.zero_q → y ≡ F.zero_q
  factor-zero x y nz e =
      sym (F.mul_one y) ∙ ap (F.mul y) (sym (F.mul_inverse x nz)) ∙ sym (F.mul_assoc y x (F.inverse x))
      ∙ ap (λ w. F.mul w (F.inverse x)) (F.mul_comm y x ∙ e) ∙ F.mul_comm F.zero_q (F.inverse x) ∙ mul_zero Q F (F.inverse x)

  pub quotient-zero : (x y : Q) → y ≢ F.zero_q → F.mul x (F.inverse y) ≡ F.zero_q → x ≡ F.zero_q
  quotient-zero x y nz e = sym (inverse-back Q F x y nz) ∙ times-zero y (F.mul x (F.inverse y)) e

  pub minus_nothing : (x y : Q) → y ≡ F.zero_q → minus Q F x y ≡ x
  minus_nothing x y e = ap (λ w. F.add x (F.neg w)) e ∙ ap (F.add x) (neg_zero Q F) ∙ F.add_zero x

  -- x - y + y - z = x - z
  pub minus_chain : (x y z : Q) → F.add (minus Q F x y) (minus Q F y z) ≡ minus Q F x z
  minus_chain x y z = sym (F.add_assoc (minus Q F x y) y (F.neg z)) ∙ ap (λ w. F.add w (F.neg z)) (minus-back Q F x y)

  pub minus-flip : (x y : Q) → F.neg (minus Q F x y) ≡ minus Q F y x
  minus-flip x y = neg_add Q F x (F.neg y) ∙ ap (F.add (F.neg x)) (neg_neg y) ∙ F.add_comm (F.neg x) y

  -- (x - y) - x = -y
  pub minus_less : (x y : Q) → minus Q F (minus Q F x y) x ≡ F.neg y
  minus_less x y = F.add_assoc x (F.neg y) (F.neg x) ∙ ap (F.add x) (F.add_comm (F.neg y) (F.neg x)) ∙ sym (F.add_assoc x (F.neg x) (F.neg y)) ∙ ap (λ w. F.add w (F.neg y)) (F.add_neg x) ∙ zero_add Q F (F.neg y)

  pub neg-zero : (x : Q) → F.neg x ≡ F.zero_q → x ≡ F.zero_q
  neg-zero x e = sym (neg_neg x) ∙ ap F.neg e ∙ neg_zero Q F

  pub sum-zero : (k : ℕ) (f : ℕ → Q) → ((i : ℕ) → i < k → f i ≡ F.zero_q) → sum_to Q F k f ≡ F.zero_q
  sum-zero k f h = sum-same Q F k f (λ i. F.zero_q) h ∙ sum-none Q F k

  pub sum-unit : (k r : ℕ) (f g : ℕ → Q) → r < k → ((i : ℕ) → i < k → g i ≡ cond (i == r) F.one F.zero_q) → sum_to Q F k (λ i. F.mul (f i) (g i)) ≡ f r
  unfolding sum_but
  sum-unit k r f g lt h =
      sum-split Q F k r (λ i. F.mul (f i) (g i)) lt
      ∙ ap (F.add (F.mul (f r) (g r))) (sum_but-same Q F r k (λ i. F.mul (f i) (g i)) (λ i. F.zero_q)
      (λ i l ne. times-zero (f i) (g i) (h i l ∙ ap (λ x. cond x F.one F.zero_q) (ne_eqb i r ne)))
      ∙ sum-zero k (λ i. cond (i == r) F.zero_q F.zero_q) (λ i l. both-same (i == r)))
      ∙ F.add_zero (F.mul (f r) (g r))
      ∙ ap (F.mul (f r)) (h r lt ∙ ap (λ x. cond x F.one F.zero_q) (eq-eqb r r refl)) ∙ F.mul_one (f r)
    where
      both-same : (b : Bool) → cond b F.zero_q F.zero_q ≡ F.zero_q
      both-same true = refl
      both-same false = refl
