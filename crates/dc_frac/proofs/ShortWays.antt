-- The short ways answer what the rules answer.
use Rattle.std.specs.Prelude.{◌≡◌, ℕ, zero, suc, ℤ, pos, negsuc, ◌+ℤ◌, ◌*ℤ◌, ◌≤ℤ◌, unsigned_abs, int_div, SomeIff, Option, Some, None}
use Rattle.std.proofs.Common.{refl, sym, ◌∙◌, ap, subst, arith, lt_of_le_of_lt}
use Rattle.std.proofs.lemmas.Int.{ints}
use Rattle.std.proofs.lemmas.Nat.Gcd.{dvd_refl}
use Rattle.std.proofs.Math.Nat.{eq-one_of_dvd-one, one-dvd}
use Prim.Native.Nat.{◌∣◌}
use Rattle.dc_math.specs.Integers.{one-*ℤ, *ℤ_cancel, *ℤ-one}
use Rattle.dc_math.specs.Gcd.{gcd, gcd_is, IsGcd-gcd}
use Rattle.dc_math.specs.Quotients.{gcd_ℤ, exact_quotient, quotient_size}
use Rattle.dc_frac.specs.Fits.{IsSmall}
use Rattle.dc_frac.specs.Parts.{SumFits, sum_pair, over_pair, ApartFits, apart_pair, ProductFits, product_pair, whole_pair}

-- an answer under another name of its test and its value
pub some_iff : {A : Type 0} (r : Option A) (P Q : Type 0) (v w : A) → (P → Q) → (Q → P) → v ≡ w → SomeIff r P v → SomeIff r Q w
some_iff None P Q v w f g e h = λ q. h (g q)
some_iff (Some x) P Q v w f g e h = (f h.0, h.1 ∙ e)

pub div_one : (x : ℤ) → int_div x (pos 1) ≡ x
div_one x = sym (*ℤ-one (int_div x (pos 1))) ∙ exact_quotient x 1 (one_divides x)
  where
    one_divides : (x : ℤ) → 1 ∣ unsigned_abs x
    one_divides x = one-dvd (unsigned_abs x)

pub gcd_nat_one : (n : ℕ) → gcd n 1 ≡ 1
gcd_nat_one n = eq-one_of_dvd-one (gcd_is n 1).1

pub gcd_one : (x : ℤ) → gcd_ℤ x (pos 1) ≡ pos 1
gcd_one x = ap pos (gcd_nat_one (unsigned_abs x))

pub gcd_self : (d : ℤ) → pos 1 ≤ℤ d → gcd_ℤ d d ≡ d
gcd_self (pos n) h = ap pos (sym (IsGcd-gcd n n n (dvd_refl n, dvd_refl n, λ k p q. p)))
gcd_self (negsuc n) h = absurd (omega (arith, ints))

div_self : (d : ℤ) → pos 1 ≤ℤ d → int_div d d ≡ pos 1
div_self (pos zero) h = absurd (omega (arith, ints))
div_self (pos (suc n)) h = *ℤ_cancel _ (pos 1) (pos (suc n)) (omega (arith, ints)) (exact_quotient (pos (suc n)) (suc n) (dvd_refl (suc n)) ∙ sym (one-*ℤ (pos (suc n))))
div_self (negsuc n) h = absurd (omega (arith, ints))

part_small : (d : ℤ) (k : ℕ) → IsSmall d → IsSmall (int_div d (pos k))
part_small d k h = lt_of_le_of_lt (quotient_size d k) h

-- ---- equal denominators
module _ (a c d : ℤ) (h : pos 1 ≤ℤ d) (sa : IsSmall a) (sc : IsSmall c) (sd : IsSmall d) where
  over_fits : IsSmall (a +ℤ c) → SumFits a d c d d
  over_fits t =
      let s = div_self d h in
      record {
        left = simp (s, *ℤ-one) sa;
        right = simp (s, *ℤ-one) sc;
        total = simp (s, *ℤ-one) t;
        den = simp (s, *ℤ-one, one-*ℤ) (part_small d _ sd);
      }

  fits_over : SumFits a d c d d → IsSmall (a +ℤ c)
  fits_over f = let s = div_self d h in simp (s, *ℤ-one) at f.total

  over_same : over_pair a c d ≡ sum_pair a d c d d
  over_same = let s = div_self d h in simp (s, *ℤ-one, one-*ℤ) refl

  pub over_short : (r : Option (ℤ × ℤ)) → SomeIff r (IsSmall (a +ℤ c)) (over_pair a c d) → SomeIff r (SumFits a d c d (gcd_ℤ d d)) (sum_pair a d c d (gcd_ℤ d d))
  over_short r k = subst (λ g. SomeIff r (SumFits a d c d g) (sum_pair a d c d g)) (sym (gcd_self d h)) (some_iff r _ _ _ _ over_fits fits_over over_same k)

pub whole_over : (a c : ℤ) → whole_pair (a +ℤ c) ≡ over_pair a c (pos 1)
whole_over a c = simp (gcd_nat_one, div_one) refl

-- ---- denominators without a common divisor
module _ (a b c d : ℤ) where
  apart_fits : ApartFits a b c d → SumFits a b c d (pos 1)
  apart_fits f = record { left = simp div_one f.left; right = simp div_one f.right; total = simp div_one f.total; den = simp (div_one, gcd_one) f.den }

  fits_apart : SumFits a b c d (pos 1) → ApartFits a b c d
  fits_apart f = record { left = simp div_one at f.left; right = simp div_one at f.right; total = simp div_one at f.total; den = simp (div_one, gcd_one) at f.den }

  apart_same : apart_pair a b c d ≡ sum_pair a b c d (pos 1)
  apart_same = simp (div_one, gcd_one) refl

  pub apart_short : (r : Option (ℤ × ℤ)) (g : ℤ) → g ≡ pos 1 → SomeIff r (ApartFits a b c d) (apart_pair a b c d) → SomeIff r (SumFits a b c d g) (sum_pair a b c d g)
  apart_short r g e k = subst (λ g. SomeIff r (SumFits a b c d g) (sum_pair a b c d g)) (sym e) (some_iff r _ _ _ _ apart_fits fits_apart apart_same k)

-- ---- products of whole numbers
module _ (a c : ℤ) where
  whole_fits : IsSmall (a *ℤ c) → ProductFits a (pos 1) c (pos 1)
  whole_fits t = record { num = simp (gcd_one, div_one) t; den = simp gcd_nat_one one_small }
    where
      one_small : IsSmall (pos 1 *ℤ pos 1)
      one_small = omega arith

  fits_whole : ProductFits a (pos 1) c (pos 1) → IsSmall (a *ℤ c)
  fits_whole f = simp (gcd_one, div_one) at f.num

  whole_same : whole_pair (a *ℤ c) ≡ product_pair a (pos 1) c (pos 1)
  whole_same = simp (gcd_nat_one, div_one) refl

  pub whole_short : (r : Option (ℤ × ℤ)) → SomeIff r (IsSmall (a *ℤ c)) (whole_pair (a *ℤ c)) → SomeIff r (ProductFits a (pos 1) c (pos 1)) (product_pair a (pos 1) c (pos 1))
  whole_short r k = some_iff r _ _ _ _ whole_fits fits_whole whole_same k
