-- The certified thresholds are the costs of the solutions.
use Rattle.std.specs.Prelude.{◌≡◌, ℕ}
use Rattle.std.proofs.Common.{refl, sym, ◌∙◌, subst}
use Rattle.dc_math.specs.Rational.{ℚ, ◌≤ℚ◌, <ℚ-≤ℚ}
use Rattle.dc_lp.specs.Linear.{IsSolution, cost_of}
use Rattle.dc_points.specs.Stated.{rational}
use Rattle.dc_claims.specs.Duties.{Pair, Flags, AreRight}
use Rattle.dc_claims.specs.Problems.{main_problem}
use Rattle.dc_claims.specs.Claims.{IsCertified}
use Rattle.dc_claims.specs.Plans.{IsFit}
use Rattle.dc_claims.specs.Laws.{CertifiedAreCosts, OutcomesAreClaims}
use Rattle.dc_claims.proofs.Identities.{equations_are_identities}
use Rattle.dc_claims.proofs.Raised.{higher_are_certified}
use Rattle.dc_claims.proofs.Splits.{splits_exist, solutions_split, splits_cost}

module _ (p : Pair) (d k : ℕ) (f : Flags) (t : ℚ) (fit : IsFit p d k f) (right : AreRight p f) where
  abbrev IsCost : Type 0
  IsCost = (x : ℕ → ℚ) × IsSolution (rational (main_problem p d k f)) x × (cost_of (rational (main_problem p d k f)) x ≡ t)

  certified_cost : IsCertified p d k t → IsCost
  certified_cost c =
      let s = splits_exist p d k f t c.0 c.1 c.2 in
      (s.0, (equations_are_identities p d k f s.0 t c.0 c.1 c.2 fit right s.1).0 c.3, splits_cost p d k f s.0 t c.0 c.1 c.2 s.1)

  cost_certified : IsCost → IsCertified p d k t
  cost_certified s =
      let v = solutions_split p d k f s.0 s.1 in
      subst (IsCertified p d k) (sym (splits_cost p d k f s.0 v.0 v.1 v.2 v.3 v.4) ∙ s.2) (v.1, v.2, v.3, (equations_are_identities p d k f s.0 v.0 v.1 v.2 v.3 fit right v.4).1 s.1)

pub certified_are_costs : CertifiedAreCosts
certified_are_costs p d k f t fit right = (certified_cost p d k f t fit right, cost_certified p d k f t fit right)

-- a solution of least cost, no solution, and costs below every bound
pub outcomes_are_claims : OutcomesAreClaims
outcomes_are_claims p d k f fit right = record {
  least = λ x s h. record {
    certified = cost_certified p d k f (cost_of (rational (main_problem p d k f)) x) fit right (x, s, refl);
    least = λ u c. let y = certified_cost p d k f u fit right c in subst (λ v. cost_of (rational (main_problem p d k f)) x ≤ℚ v) y.2 (h y.0 y.1);
  };
  none = λ h t c. let y = certified_cost p d k f t fit right c in h y.0 y.1;
  every = λ x s h t. let z = h x t s in
      higher_are_certified p d k (cost_of (rational (main_problem p d k f)) z.0) t (cost_certified p d k f (cost_of (rational (main_problem p d k f)) z.0) fit right (z.0, z.1, refl)) (<ℚ-≤ℚ _ _ z.2);
}
