-- What an accepted certificate claims, of runs and of every other certificate over its atoms.
use Rattle.std.specs.Prelude.{ℕ, List, ℤ, ◌-ℤ◌}
use Rattle.dc_math.specs.Rational.{ℚ, ◌≤ℚ◌, of_ℤ}
use Rattle.dc_frac.specs.Value.{value}
use Rattle.dc_syntax.specs.declared.tree.Proc.{Proc}
use Rattle.dc_syntax.specs.Value.{State}
use Rattle.dc_syntax.specs.Costs.{Costs}
use Rattle.dc_affine.specs.declared.atom.Atom.{Atom}
use Rattle.dc_affine.specs.Atoms.{Allowed}
use Rattle.dc_cert.specs.declared.certificate.Claim.{Claim}
use Rattle.dc_cert.specs.declared.certificate.Claim.TheVariants.{Threshold, Nothing, Vacuous}
use Rattle.dc_claims.specs.Duties.{Pair}
use Rattle.dc_claims.specs.Claims.{IsLeast, HasNoCertificate, IsVacuous}

-- on an allowed input, a finished run of new costs at most t more than a finished run of old
abbrev pub BoundsRuns : Proc → Proc → List (List Atom) → ℚ → Type 0
BoundsRuns new old cases t =
    (v : State) (c d : ℤ) → Allowed cases v → Costs new v c → Costs old v d → of_ℤ (c -ℤ d) ≤ℚ t

-- no allowed input has a finished run of both
abbrev pub HasNoRuns : Proc → Proc → List (List Atom) → Type 0
HasNoRuns new old cases = (v : State) (c d : ℤ) → Allowed cases v → Costs new v c → Costs old v d → ⊥

-- ---- over the atoms of a pair, for potentials of degree d and products of at most k atoms
pub record ShowsThreshold (new old : Proc) (cases : List (List Atom)) (p : Pair) (d k : ℕ)
    (t : ℚ) : Type 0 where
  pub bounds : BoundsRuns new old cases t
  pub least : IsLeast p d k t

pub record ShowsVacuous (new old : Proc) (cases : List (List Atom)) (p : Pair) (d k : ℕ) : Type 0 where
  pub none : HasNoRuns new old cases
  pub every : IsVacuous p d k

abbrev pub ShowsClaim : Proc → Proc → List (List Atom) → Pair → ℕ → ℕ → Claim → Type 0
ShowsClaim new old cases p d k (Threshold t) = ShowsThreshold new old cases p d k (value t)
ShowsClaim new old cases p d k Nothing = HasNoCertificate p d k
ShowsClaim new old cases p d k Vacuous = ShowsVacuous new old cases p d k
