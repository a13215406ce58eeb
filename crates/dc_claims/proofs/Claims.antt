-- At most one claim holds.
use Rattle.std.specs.Prelude.{[], ◌∷◌, pos}
use Rattle.std.proofs.Common.{refl}
use Rattle.dc_math.specs.Rational.{ℚ, ◌-ℚ◌, of_ℤ, ◌≤ℚ◌, ≤ℚ_antisymm, <ℚ-not}
use Rattle.dc_math.specs.RationalRing.{ring, reads, read_nat, same_form}
use Rattle.dc_math.specs.Order.{<ℚ_by, one_positive}
use Rattle.dc_claims.specs.Laws.{AtMostOneClaim}

pub below : (t : ℚ) → ¬ (t ≤ℚ (t -ℚ of_ℤ (pos 1)))
below t h = <ℚ-not _ _ (<ℚ_by (t -ℚ of_ℤ (pos 1)) t (of_ℤ (pos 1)) one_positive (ring (t ∷ []) (λ ρ p. simp (p, read_nat ρ, reads) (same_form _ _ _ refl)))) h

pub at_most_one : AtMostOneClaim
at_most_one = record {
  least_or_none = λ p d k t l n. n t l.certified;
  least_or_every = λ p d k t l v. below t (l.least (t -ℚ of_ℤ (pos 1)) (v (t -ℚ of_ℤ (pos 1))));
  none_or_every = λ p d k n v. n (of_ℤ (pos 0)) (v (of_ℤ (pos 0)));
  one_least = λ p d k t u l m. ≤ℚ_antisymm _ _ (l.least u m.certified) (m.least t l.certified);
}
