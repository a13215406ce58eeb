-- Tests of sums that are what they should be, where they fit.
use Rattle.std.specs.Prelude.{◌≡◌, ℕ, ℤ, pos, Option, Some, None}
use Rattle.std.specs.Option.{option_map}
use Rattle.std.proofs.Common.{refl, sym, ◌∙◌, subst}
use Rattle.dc_math.specs.Rational.{ℚ, of_ℤ, ◌≤ℚ◌, ◌<ℚ◌, ◌*ℚ◌}
use Rattle.dc_math.specs.Tests.{eq_ℚ, is_positive, eq_ℚ-true, le_ℚ-true, lt_ℚ-true}
use Rattle.dc_math.specs.Sums.{sum_ℚ}
use Rattle.dc_lp.specs.Folds.{folded}
use Rattle.dc_lp.proofs.FoldSums.{folded-sum}
use Rattle.dc_clauses.specs.Lines.{is, is_at_most}
use Rattle.dc_acceptance.proofs.Passing.{Passes}

module _ (n : ℕ) (a : ℕ → ℤ) (x : ℕ → ℚ) where
  abbrev sum : ℚ
  sum = sum_ℚ n (λ k. of_ℤ (a k) *ℚ x k)

  pub is_passes : (c : ℤ) → sum ≡ of_ℤ c → Passes (is (folded n a x) c)
  is_passes c e = by (folded n a x) (λ s q. folded-sum n a x s q)
    where
      by : (o : Option ℚ) → ((s : ℚ) → o ≡ Some s → s ≡ sum) → Passes (is o c)
      by (Some s) q = eq_ℚ-true s (of_ℤ c) (q s refl ∙ e)
      by None q = tt

  pub at_most_passes : (c : ℤ) → sum ≤ℚ of_ℤ c → Passes (is_at_most (folded n a x) c)
  at_most_passes c e = by (folded n a x) (λ s q. folded-sum n a x s q)
    where
      by : (o : Option ℚ) → ((s : ℚ) → o ≡ Some s → s ≡ sum) → Passes (is_at_most o c)
      by (Some s) q = le_ℚ-true s (of_ℤ c) (subst (λ z. z ≤ℚ of_ℤ c) (sym (q s refl)) e)
      by None q = tt

  pub equal_passes : (t : ℚ) → sum ≡ t → Passes (option_map (λ s. eq_ℚ t s) (folded n a x))
  equal_passes t e = by (folded n a x) (λ s q. folded-sum n a x s q)
    where
      by : (o : Option ℚ) → ((s : ℚ) → o ≡ Some s → s ≡ sum) → Passes (option_map (λ s. eq_ℚ t s) o)
      by (Some s) q = eq_ℚ-true t s (sym (q s refl ∙ e))
      by None q = tt

  pub positive_passes : of_ℤ (pos 0) <ℚ sum → Passes (option_map is_positive (folded n a x))
  positive_passes e = by (folded n a x) (λ s q. folded-sum n a x s q)
    where
      by : (o : Option ℚ) → ((s : ℚ) → o ≡ Some s → s ≡ sum) → Passes (option_map is_positive o)
      by (Some s) q = lt_ℚ-true (of_ℤ (pos 0)) s (subst (λ z. of_ℤ (pos 0) <ℚ z) (sym (q s refl)) e)
      by None q = tt
