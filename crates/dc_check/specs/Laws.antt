-- What the clauses on families show.
use Rattle.std.specs.Prelude.{◌≡◌, ℕ, List}
use Rattle.std.specs.List.{AllByRecursion}
use Rattle.dc_syntax.specs.declared.tree.Side.TheVariants.{New, Old}
use Rattle.dc_math.specs.Rational.{ℚ}
use Rattle.dc_syntax.specs.declared.tree.Proc.{Proc}
use Rattle.dc_syntax.specs.Params.{HaveSameParams}
use Rattle.dc_affine.specs.declared.atom.Atom.{Atom}
use Rattle.dc_program.specs.Programs.{IsProgram, IsCondition}
use Rattle.dc_system.specs.declared.edges.System.{System}
use Rattle.dc_system.specs.Shapes.{IsWellFormed}
use Rattle.dc_cert.specs.declared.certificate.Certificate.{Certificate}
use Rattle.dc_cert.specs.Ranges.{IsCertificate}
use Rattle.dc_families.specs.Graphs.{graph_of}
use Rattle.dc_families.specs.Families.{family_of}
use Rattle.dc_families.specs.Rounds.{IsInductive}
use Rattle.dc_claims.specs.Duties.{Pair, AreRight}
use Rattle.dc_claims.specs.Plans.{IsFit}
use Rattle.dc_claims.specs.Claims.{IsCertified, IsVacuous}
use Rattle.dc_claims.specs.Runs.{HoldWhereReached}
use Rattle.dc_clauses.specs.Steps.{AllHold}
use Rattle.dc_clauses.specs.Sides.{family_steps}
use Rattle.dc_clauses.specs.Lent.{IsCase}
use Rattle.dc_check.specs.Pairs.{pair, flags}
use Rattle.dc_check.specs.Systems.{HasSystems}
use Rattle.dc_check.specs.Claims.{BoundsRuns, HasNoRuns}

-- each program's atoms are an inductive family, the lines say rightly what is live, and what a path
-- reaches from an allowed input meets the atoms of its location
pub record ShowsFamilies (s t : System) (cases : List (List Atom)) (c : Certificate) : Type 0 where
  pub new_inductive : IsInductive (graph_of s) cases (family_of c.new_side.families)
  pub old_inductive : IsInductive (graph_of t) cases (family_of c.old_side.families)
  pub right : AreRight (pair s t cases c) (flags c)
  pub new_reached : HoldWhereReached (pair s t cases c) New
  pub old_reached : HoldWhereReached (pair s t cases c) Old

abbrev pub ClausesShowFamilies : Type 0
ClausesShowFamilies = (s t : System) (cases : List (List Atom)) (c : Certificate)
    → IsWellFormed s → IsWellFormed t → s.params ≡ t.params → AllByRecursion (IsCase s.params) cases
    → IsCertificate c
    → AllHold (family_steps s t cases c) → ShowsFamilies s t cases c

-- ---- runs
-- what is certified over the atoms of a pair bounds the runs of two programs, and where every
-- threshold is certified, no allowed input has runs of both
pub record SpeaksOfRuns (new old : Proc) (cases : List (List Atom)) (p : Pair) : Type 0 where
  pub bounds : (d k : ℕ) (t : ℚ) → IsCertified p d k t → BoundsRuns new old cases t
  pub none : (d k : ℕ) → IsVacuous p d k → HasNoRuns new old cases

abbrev pub CertificatesSpeakOfRuns : Type 0
CertificatesSpeakOfRuns =
    (new old : Proc) (version : ℕ) (s t : System) (cases : List (List Atom)) (c : Certificate)
    → IsProgram new → IsProgram old → HaveSameParams new old → IsCondition new.params cases
    → IsCertificate c → HasSystems new old version s t
    → AllHold (family_steps s t cases c) → SpeaksOfRuns new old cases (pair s t cases c)

-- ---- sizes
-- what the clauses on families hold of is of the sizes that the main problem asks for
abbrev pub AcceptedFit : Type 0
AcceptedFit = (s t : System) (cases : List (List Atom)) (c : Certificate)
    → IsWellFormed s → IsWellFormed t → s.params ≡ t.params → IsCondition s.params cases
    → IsCertificate c
    → AllHold (family_steps s t cases c) → IsFit (pair s t cases c) c.degree c.products (flags c)
