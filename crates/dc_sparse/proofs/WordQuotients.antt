-- Quotients of words of the machine that leave no remainder.
use Rattle.std.specs.Prelude.{◌≡◌, ◌≢◌, ℕ, suc, ◌<◌, ◌≤◌, ◌^◌, ℤ, pos, negsuc, ◌*ℤ◌, unsigned_abs, int_div, int_rem, false, true, [], ◌∷◌}
use Rattle.std.proofs.Common.{refl, sym, ◌∙◌, ap, arith, div-le_self, of_z, SFits}
use Rattle.std.proofs.lemmas.Int.{ints, quot-rem, rem_below, fits_signed_from_abs}
use mir.Syntax.{w64}
use Rattle.dc_math.specs.Rational.{ℚ, Fraction, of_ℤ, of_ℤ-*ℤ, neg_ℚ, ◌*ℚ◌}
use Rattle.dc_math.specs.RationalRing.{ring, reads, read_nat, same_form, linear₁}
use Rattle.dc_math.specs.Inverse.{inverse, *ℚ-inverse, ◌/ℚ◌}
use Rattle.dc_math.specs.Tests.{is_zero}
use Rattle.dc_frac.specs.declared.Frac.{Frac}
use Rattle.dc_frac.specs.Value.{value}
use Rattle.dc_frac.specs.Fits.{fits, quotient_fits}
use Rattle.dc_frac.proofs.Values.{zero_num}
use Rattle.dc_frac.proofs.ValueLaws.{lowest-value}
use Rattle.dc_frac.proofs.SmallSizes.{whole_fits}
use Rattle.dc_sparse.proofs.Wholes.{nonzero, whole_is, whole_value}

-- ---- words

quotient_at_most : (a d : ℤ) → unsigned_abs (int_div a d) ≤ unsigned_abs a
quotient_at_most (pos a) (pos d) = div-le_self a d
quotient_at_most (pos a) (negsuc d) = omega (arith, ints, div-le_self a (suc d))
quotient_at_most (negsuc a) (pos d) = omega (arith, ints, div-le_self (suc a) d)
quotient_at_most (negsuc a) (negsuc d) = omega (arith, ints, div-le_self (suc a) (suc d))

pub quotient_below : (n : ℕ) (a d : ℤ) → unsigned_abs a < n → unsigned_abs (int_div a d) < n
quotient_below n a d h = omega (arith, quotient_at_most a d)

pub remainder_below : (n : ℕ) (a d : ℤ) → d ≢ pos 0 → unsigned_abs d < n → unsigned_abs (int_rem a d) < n
remainder_below n a d z h = (let l : 0 < unsigned_abs d = omega (arith, ints) in omega (arith, rem_below a d l))

pub word_fits : (z : ℤ) → unsigned_abs z < 2 ^ 63 → SFits w64 z
word_fits z h = fits_signed_from_abs w64 z h

pub word_nonzero : (z : ℤ) → z ≢ pos 0 → unsigned_abs z < 2 ^ 63 → 0 < of_z w64 z
word_nonzero z n h = omega (arith, ints)

pub no_remainder : (a d : ℤ) → int_rem a d ≡ pos 0 → int_div a d *ℤ d ≡ a
no_remainder a d e = (let p = quot-rem a d in omega (arith, ints, p))

-- ---- whole numbers

pub num_nonzero : (f : Frac) → is_zero (value f) ≡ false → f.num ≢ pos 0
num_nonzero f n e = (let x : true ≡ false = sym (zero_num f e) ∙ n in absurd (let r : ⊥ = cc in r))

value_whole : (f : Frac) → f.den ≡ pos 1 → value f ≡ of_ℤ f.num
value_whole f e = sym (whole_is 127 (value f) (whole_value 127 f e f.small)) ∙ ap (λ (p : Fraction). of_ℤ p.num) (lowest-value f)

module _ (f d : Frac) (one : f.den ≡ pos 1) (single : d.den ≡ pos 1) (n : is_zero (value d) ≡ false) (q : ℤ) (e : q *ℤ d.num ≡ f.num) where
  pub exact_is : of_ℤ q ≡ value f /ℚ value d
  exact_is =
      plain (of_ℤ q) (value d) (inverse (value d)) (*ℚ-inverse (value d) (nonzero (value d) n))
      ∙ ap (λ x. x /ℚ value d) (ap (λ x. of_ℤ q *ℚ x) (value_whole d single) ∙ sym (of_ℤ-*ℤ q d.num) ∙ ap of_ℤ e ∙ sym (value_whole f one))
    where
      plain : (q y i : ℚ) → y *ℚ i ≡ of_ℤ (pos 1) → q ≡ (q *ℚ y) *ℚ i
      plain q y i e = linear₁ (neg_ℚ q) _ _ _ _ e (ring (q ∷ y ∷ i ∷ []) (λ ρ a b c. simp (a, b, c, read_nat ρ, reads) (same_form _ _ _ refl)))

  pub exact_fits : unsigned_abs q < 2 ^ 127 → quotient_fits (value f) (value d) ≡ true
  exact_fits h = ap fits (sym exact_is) ∙ whole_fits q h
