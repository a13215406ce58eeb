-- What the clauses of the main problem show.
use Rattle.std.specs.Prelude.{◌≡◌, ℕ, length, ℤ}
use Rattle.dc_math.specs.Rational.{ℚ}
use Rattle.dc_frac.specs.Value.{value}
use Rattle.dc_lp.specs.declared.Problem.{Problem}
use Rattle.dc_lp.specs.Linear.{Linear, IsSolution, cost_of, CostAtLeast, HasNoSolution, HasNoBound}
use Rattle.dc_lp.specs.Problems.{linear_of}
use Rattle.dc_points.specs.Stated.{rational}
use Rattle.dc_cert.specs.declared.certificate.Body.{Body}
use Rattle.dc_cert.specs.declared.certificate.Body.TheVariants.{Threshold, Nothing, Vacuous}
use Rattle.dc_claims.specs.Duties.{Pair, Flags, AreRight}
use Rattle.dc_claims.specs.Parts.{unknowns_of}
use Rattle.dc_claims.specs.Problems.{main_problem}
use Rattle.dc_claims.specs.Claims.{IsLeast, HasNoCertificate, IsVacuous}
use Rattle.dc_claims.specs.Plans.{IsFit}
use Rattle.dc_clauses.specs.Steps.{AllHold}
use Rattle.dc_clauses.specs.Mains.{whole_problem, claim_steps}
use Rattle.dc_mainlines.specs.Paired.{IsPaired}

-- ---- of a problem
-- it has a solution that costs v, and none that costs less
abbrev pub IsLeastCost : Linear ℚ → ℚ → Type 0
IsLeastCost p v = (x : ℕ → ℚ) × IsSolution p x × (cost_of p x ≡ v) × CostAtLeast p v

-- it has solutions, and their costs have no bound
abbrev pub IsUnbounded : Linear ℚ → Type 0
IsUnbounded p = (x : ℕ → ℚ) × IsSolution p x × HasNoBound p

abbrev pub ShownOf : Linear ℚ → Body → Type 0
ShownOf p (Threshold t unknown lambda dual) = IsLeastCost p (value t)
ShownOf p (Nothing dual) = HasNoSolution p
ShownOf p (Vacuous unknown lambda ray_unknown ray_lambda) = IsUnbounded p

-- where all clauses hold of the vectors of a problem in pairs, they show this of it
abbrev pub StepsShow : Type 0
StepsShow = (m : Linear ℤ) (u : ℕ) (b : Body) → IsPaired m u
    → AllHold (claim_steps m u b) → ShownOf (rational m) b

-- ---- of potentials of degree d and products of at most k atoms
abbrev pub ClaimOf : Pair → ℕ → ℕ → Body → Type 0
ClaimOf p d k (Threshold t unknown lambda dual) = IsLeast p d k (value t)
ClaimOf p d k (Nothing dual) = HasNoCertificate p d k
ClaimOf p d k (Vacuous unknown lambda ray_unknown ray_lambda) = IsVacuous p d k

abbrev pub MainProblemsArePaired : Type 0
MainProblemsArePaired = (p : Pair) (d k : ℕ) (f : Flags)
    → IsPaired (main_problem p d k f) (length (unknowns_of p d))

-- where all clauses hold of the vectors of the main problem, what the certificate claims is so
abbrev pub StepsShowClaims : Type 0
StepsShowClaims = (p : Pair) (d k : ℕ) (f : Flags) (b : Body) → IsFit p d k f → AreRight p f
    → AllHold (claim_steps (main_problem p d k f) (length (unknowns_of p d)) b) → ClaimOf p d k b

-- ---- a problem by columns that is m over the rational numbers is m over the whole ones
abbrev pub ProblemsAreWhole : Type 0
ProblemsAreWhole = (q : Problem) (m : Linear ℤ) → linear_of q ≡ rational m → whole_problem q ≡ m
