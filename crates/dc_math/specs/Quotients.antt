-- Whole numbers divided by a natural that divides them, and the greatest common divisor of whole numbers.
use Rattle.std.specs.Prelude.{◌≡◌, ℕ, zero, suc, ◌*◌, ◌/◌, ◌≤◌, ℤ, pos, negsuc, neg_ℤ, ◌*ℤ◌, ◌≤ℤ◌, unsigned_abs, int_div}
use Rattle.std.proofs.Common.{sym, ◌∙◌, ap, arith, div-le_self}
use Rattle.std.proofs.lemmas.Int.{ints, unsigned_abs-mul}
use Rattle.std.proofs.Math.Nat.{div-mul_cancel}
use Prim.Native.Nat.{◌∣◌}
use Rattle.dc_math.specs.Gcd.{gcd}

abbrev pub gcd_ℤ : ℤ → ℤ → ℤ
gcd_ℤ a b = pos (gcd (unsigned_abs a) (unsigned_abs b))

pub exact_quotient : (x : ℤ) (k : ℕ) → k ∣ unsigned_abs x → int_div x (pos k) *ℤ pos k ≡ x
exact_quotient (pos n) k p = ap pos (div-mul_cancel k p)
exact_quotient (negsuc n) k p = by (suc n / k) (div-mul_cancel k p)
  where
    by : (q : ℕ) → q * k ≡ suc n → neg_ℤ (pos q) *ℤ pos k ≡ negsuc n
    by zero e = absurd (omega arith)
    by (suc q) e = omega (arith, ints)

pub quotient_size : (x : ℤ) (k : ℕ) → unsigned_abs (int_div x (pos k)) ≤ unsigned_abs x
quotient_size (pos n) k = div-le_self n k
quotient_size (negsuc n) k = omega (arith, ints, div-le_self (suc n) k)

pub size_of_product : (q k x : ℤ) → q *ℤ k ≡ x → unsigned_abs x ≡ unsigned_abs q * unsigned_abs k
size_of_product q k x e = ap unsigned_abs (sym e) ∙ unsigned_abs-mul q k

pub positive_factor : (q : ℤ) (k : ℕ) (x : ℤ) → q *ℤ pos k ≡ x → pos 1 ≤ℤ x → pos 1 ≤ℤ q
positive_factor (pos zero) k x e h = absurd (omega (arith, ints))
positive_factor (pos (suc q)) k x e h = omega (arith, ints)
positive_factor (negsuc q) k x e h = absurd (omega (arith, ints))
