-- Numbers that fit 128 bits, and the vectors of fractions that have them.
use Rattle.std.specs.Prelude.{◌≡◌, ℕ, zero, suc, ◌<◌, true, ◌&&◌, nat_lt, List, [], ◌∷◌, ℤ, pos, unsigned_abs}
use Rattle.std.proofs.Common.{refl, ◌∙◌, ap, arith}
use Rattle.std.proofs.lemmas.Bool.{and_parts}
use Rattle.dc_math.specs.Rational.{ℚ, Fraction, fraction_of, of_ℤ, of_ℤ_is, neg_ℚ}
use Rattle.dc_math.specs.Lowest.{lowest, ratio-lowest, lowest_reduced, lowest-of_reduced}
use Rattle.dc_math.specs.Integers.{size-neg_ℤ}
use Rattle.dc_frac.specs.Fits.{IsSmall, is_small, fits}
use Rattle.dc_frac.proofs.ShortWays.{gcd_nat_one}
use Rattle.std.specs.Prelude.{◌^◌}
use Rattle.std.proofs.lemmas.Bool.{and_from}
use Rattle.dc_frac.specs.declared.Frac.{Frac}
use Rattle.dc_frac.specs.Value.{value}
use Rattle.dc_frac.proofs.FitLaws.{true_small, small_true}
use Rattle.dc_frac.proofs.ZeroSums.{lowest-neg}
use Rattle.dc_lp.specs.Folds.{numbers}
use Rattle.dc_simplex.specs.Outcomes.{IsVector}
use Rattle.dc_cert.specs.declared.sparse.Sparse.{Sparse}
use Rattle.dc_cert.specs.Vectors.{nonzero_from}
use Rattle.dc_session.specs.Made.{AreItemsOf}

-- both parts are at most 2^127 - 1
abbrev pub IsNumber : ℚ → Type 0
IsNumber x = fits x ≡ true

-- ---- sizes

pub neg_number : (x : ℚ) → IsNumber x → IsNumber (neg_ℚ x)
unfolding fits
neg_number x h =
    ap (λ (f : Fraction). is_small f.num && is_small f.den) (lowest-neg x)
    ∙ ap (λ n. nat_lt n (2 ^ 127) && is_small (lowest x).den) (size-neg_ℤ (lowest x).num) ∙ h

pub whole_number : (z : ℤ) → IsSmall z → IsNumber (of_ℤ z)
unfolding fits
whole_number z l =
    ap (λ (f : Fraction). is_small f.num && is_small f.den) (ap lowest (of_ℤ_is z) ∙ lowest-of_reduced (fraction_of z) (gcd_nat_one (unsigned_abs z)))
    ∙ and_from (is_small z) (is_small (pos 1)) (small_true z l) (small_true (pos 1) (omega arith))

pub zero_number : IsNumber (of_ℤ (pos 0))
zero_number = whole_number (pos 0) (omega arith)

pub one_number : IsNumber (of_ℤ (pos 1))
one_number = whole_number (pos 1) (omega arith)

-- ---- a fraction with the value
pub fraction_is : (x : ℚ) → IsNumber x → (f : Frac) × (value f ≡ x)
unfolding fits value
fraction_is x h = (
  record {
    num = (lowest x).num;
    den = (lowest x).den;
    positive = (lowest x).den_positive;
    reduced = lowest_reduced x;
    small = true_small (lowest x).num (and_parts (is_small (lowest x).num) (is_small (lowest x).den) h).0;
  },
  ratio-lowest x,
)

-- ---- a vector with the values
pub vector_is : (n : ℕ) (f : ℕ → ℚ) → ((k : ℕ) → k < n → IsNumber (f k)) → (xs : List Frac) × IsVector n f xs
vector_is zero f h = ([], record { long = refl; each = λ k l. absurd (omega arith) })
vector_is (suc n) f h =
    let a = fraction_is (f 0) (h 0 (omega arith)) in
    let v = vector_is n (λ k. f (suc k)) (λ k l. h (suc k) (omega arith)) in
    (a.0 ∷ v.0, record { long = ap suc v.1.long; each = each a.0 v.0 a.1 v.1 })
  where
    each : (a : Frac) (xs : List Frac) → value a ≡ f 0 → IsVector n (λ k. f (suc k)) xs → (k : ℕ) → k < suc n → numbers (a ∷ xs) k ≡ f k
    each a xs e v zero l = e
    each a xs e v (suc k) l = v.each k (omega arith)

pub items_are : (n : ℕ) (f : ℕ → ℚ) → ((k : ℕ) → k < n → IsNumber (f k)) → (v : Sparse) × AreItemsOf n f v
items_are n f h =
    let v = vector_is n f h in
    (record { items = nonzero_from 0 v.0 }, record { whole = v.0; vector = v.1; items = refl })
