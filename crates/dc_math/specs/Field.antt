-- An ordered field, and sums by index in it.
use Rattle.std.specs.Prelude.{◌≡◌, ◌≢◌, ℕ, zero, suc, Bool, true, false, not, ◌&&◌}

pub record Field (Q : Type 0) : Type 0 where
  pub zero_q : Q
  pub one : Q
  pub add : Q → Q → Q
  pub mul : Q → Q → Q
  pub neg : Q → Q
  pub inverse : Q → Q
  pub add_comm : (x y : Q) → add x y ≡ add y x
  pub add_assoc : (x y z : Q) → add (add x y) z ≡ add x (add y z)
  pub add_zero : (x : Q) → add x zero_q ≡ x
  pub add_neg : (x : Q) → add x (neg x) ≡ zero_q
  pub mul_comm : (x y : Q) → mul x y ≡ mul y x
  pub mul_assoc : (x y z : Q) → mul (mul x y) z ≡ mul x (mul y z)
  pub mul_one : (x : Q) → mul x one ≡ x
  pub mul_add : (x y z : Q) → mul x (add y z) ≡ add (mul x y) (mul x z)
  pub mul_inverse : (x : Q) → x ≢ zero_q → mul x (inverse x) ≡ one
  pub nontrivial : one ≢ zero_q
  -- order: the test that a number is at most another, which their difference decides
  pub at_most : Q → Q → Bool
  pub at_most_sub : (x y : Q) → at_most x y ≡ at_most zero_q (add y (neg x))
  pub nonneg_add : (x y : Q) → at_most zero_q x ≡ true → at_most zero_q y ≡ true → at_most zero_q (add x y) ≡ true
  pub nonneg_mul : (x y : Q) → at_most zero_q x ≡ true → at_most zero_q y ≡ true → at_most zero_q (mul x y) ≡ true
  pub nonneg_neg : (x : Q) → at_most zero_q x ≡ false → at_most zero_q (neg x) ≡ true
  pub nonneg_both : (x : Q) → at_most zero_q x ≡ true → at_most zero_q (neg x) ≡ true → x ≡ zero_q

module _ (Q : Type 0) (F : Field Q) where
  -- f 0 + .. + f (n - 1)
  unfoldable pub sum_to : ℕ → (ℕ → Q) → Q
  sum_to zero f = F.zero_q
  sum_to (suc n) f = F.add (sum_to n f) (f n)

  -- x - y
  abbrev pub minus : Q → Q → Q
  minus x y = F.add x (F.neg y)

  -- the tests of signs
  abbrev pub nonneg : Q → Bool
  nonneg x = F.at_most F.zero_q x

  abbrev pub is_below : Q → Q → Bool
  is_below x y = not (F.at_most y x)

  abbrev pub is_negative : Q → Bool
  is_negative x = is_below x F.zero_q

  abbrev pub is_positive : Q → Bool
  is_positive x = is_below F.zero_q x

  abbrev pub is_zero : Q → Bool
  is_zero x = F.at_most x F.zero_q && nonneg x
