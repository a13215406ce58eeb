-- What an output means.
--
-- If the program prints threshold t, every finished run of the new version costs at most t more
-- than every finished run of the old on the same allowed input, and no certificate of the stated
-- degrees over the printed invariants shows less; `none` is printed only where no such certificate
-- exists, `vacuous` only where no allowed input finishes in both.
use Rattle.std.specs.Prelude.{◌≡◌, ℕ, true, List, [], ◌∷◌, ◌++◌, ℤ, ◌-ℤ◌, Option, Some, None}
use Rattle.dc_math.specs.Rational.{ℚ, ◌≤ℚ◌, of_ℤ}
use Rattle.dc_frac.specs.Value.{value}
use Rattle.dc_syntax.specs.declared.tree.Proc.{Proc}
use Rattle.dc_syntax.specs.declared.tree.Cond.{Cond}
use Rattle.dc_syntax.specs.Value.{State, truth}
use Rattle.dc_syntax.specs.Costs.{Costs}
use Rattle.dc_syntax.specs.Params.{params_of}
use Rattle.dc_affine.specs.declared.atom.Atom.{Atom}
use Rattle.dc_lines.specs.Bytes.{Bytes}
use Rattle.dc_cert.specs.declared.certificate.Settings.{Settings}
use Rattle.dc_cert.specs.declared.certificate.Claim.{Claim}
use Rattle.dc_cert.specs.declared.certificate.Claim.TheVariants.{Threshold, Nothing, Vacuous}
use Rattle.dc_cert.specs.declared.certificate.Certificate.{Certificate}
use Rattle.dc_cert.specs.Claims.{claim_of}
use Rattle.dc_certtext.specs.Limits.{HasText}
use Rattle.dc_certtext.specs.Text.{claim_line}
use Rattle.dc_system.specs.declared.edges.System.{System}
use Rattle.dc_system.specs.Systems.{system_of}
use Rattle.dc_system.specs.Folded.{IsFolded}
use Rattle.dc_rows.specs.declared.kinds.Candidates.{Candidates}
use Rattle.dc_families.specs.Graphs.{Graph, graph_of}
use Rattle.dc_families.specs.Families.{Family}
use Rattle.dc_families.specs.Rounds.{IsGreatest}
use Rattle.dc_families.specs.Printed as families
use Rattle.dc_families.specs.Printed.{Question}
use Rattle.dc_claims.specs.Duties.{Pair}
use Rattle.dc_claims.specs.Claims.{IsLeast, HasNoCertificate, IsVacuous}
use Rattle.dc_check.specs.Pairs.{pair}
use Rattle.dc_check.specs.Systems.{HasSystems}
use Rattle.dc_parse.specs.Laws.{HasCondition}
use Rattle.dc_session.specs.Session.{Input, candidates_for}
use Rattle.dc_words.specs.Reading.{Reading, for_analyse, for_check, for_sample}
use Rattle.dc_answers.specs.Statuses as status
use Rattle.dc_answers.specs.Sources.{Say}
use Rattle.dc_answers.specs.Claims.{claim_status, accepted_text}
use Rattle.dc_answers.specs.Ends.{sample_text, input_of, new_source, old_source, sample_condition, sample_settings}

-- ---- runs
-- the condition is true of the input; without a condition each input is allowed
abbrev pub IsAllowed : Option Bytes → Proc → State → Type 0
IsAllowed None p v = Unit {0}
IsAllowed (Some z) p v = (b : Cond) × HasCondition (params_of p) z b × (truth b v ≡ true)

-- two finished runs on the same allowed input
pub record AreRuns (new old : Proc) (when : Option Bytes) (new_cost old_cost : ℤ) : Type 0 where
  pub input : State
  pub allowed : IsAllowed when new input
  pub new_run : Costs new input new_cost
  pub old_run : Costs old input old_cost

abbrev pub BoundsRuns : Proc → Proc → Option Bytes → ℚ → Type 0
BoundsRuns new old when t = (c d : ℤ) → AreRuns new old when c d → of_ℤ (c -ℤ d) ≤ℚ t

abbrev pub HasNoRuns : Proc → Proc → Option Bytes → Type 0
HasNoRuns new old when = (c d : ℤ) → ¬ AreRuns new old when c d

-- ---- claims, of runs and over the atoms of a pair
-- for potentials of degree d and products of at most k atoms
abbrev pub ClaimMeans : Proc → Proc → Option Bytes → Pair → ℕ → ℕ → Claim → Type 0
ClaimMeans new old when p d k (Threshold t) =
    BoundsRuns new old when (value t) × IsLeast p d k (value t)
ClaimMeans new old when p d k Nothing = HasNoCertificate p d k
ClaimMeans new old when p d k Vacuous = HasNoRuns new old when × IsVacuous p d k

-- ---- the invariants that are printed
-- of a folded system: the printed atoms of its greatest inductive family
pub record ArePrintedOf (s : Graph) (cases : List (List Atom)) (c : Candidates)
    (atoms : List (List Atom)) : Type 0 where
  pub family : Family
  pub greatest : IsGreatest s cases c family
  pub questions : List (List Question)
  pub printed : families.ArePrinted s c family atoms questions

-- the certificate's atoms are those of both programs
pub record HasInvariants (i : Input) (c : Certificate) : Type 0 where
  pub new_system : System
  pub old_system : System
  pub new_folded : IsFolded (system_of i.new) new_system
  pub old_folded : IsFolded (system_of i.old) old_system
  pub new_atoms : ArePrintedOf (graph_of new_system) i.cases
      (candidates_for i i.new) c.new_side.families
  pub old_atoms : ArePrintedOf (graph_of old_system) i.cases
      (candidates_for i i.old) c.old_side.families

-- ---- analyses
-- what the texts say, the invariants, and what the certificate claims over these with the stated
-- degrees
pub record AnalysisMeans (x y : Bytes) (when : Option Bytes) (s : Settings)
    (c : Certificate) : Type 0 where
  pub new : Proc
  pub old : Proc
  pub cases : List (List Atom)
  pub said : Say x y when new old cases
  pub invariants : HasInvariants (input_of s new old cases) c
  pub degree : c.degree ≡ s.degree
  pub products : c.products ≡ s.products
  pub means : ClaimMeans new old when
      (pair invariants.new_system invariants.old_system cases c) s.degree s.products
      (claim_of c.body)

-- bytes begin with a line
abbrev pub BeginsWith : Bytes → Bytes → Type 0
BeginsWith line bytes = (rest : Bytes) × (bytes ≡ line ++ 10 ∷ rest)

-- what `analyse` prints: the text of a certificate, which begins with its claim, and the claim's status
pub record AnalyseMeans (x y : Bytes) (when : Option Bytes) (s : Settings) (n : ℕ)
    (bytes : Bytes) : Type 0 where
  pub certificate : Certificate
  pub text : HasText certificate bytes
  pub first : BeginsWith (claim_line (claim_of certificate.body)) bytes
  pub status_is : n ≡ claim_status (claim_of certificate.body)
  pub means : AnalysisMeans x y when s certificate

-- what `sample` prints: the claim of an analysis of the generated pair
pub record SampleMeans (seed count n : ℕ) (bytes : Bytes) : Type 0 where
  pub certificate : Certificate
  pub text : bytes ≡ sample_text seed count (claim_of certificate.body)
  pub status_is : n ≡ claim_status (claim_of certificate.body)
  pub means : AnalysisMeans (new_source seed count) (old_source seed count)
      (Some sample_condition) sample_settings certificate

-- what `check` prints: the claim of the certificate that was read, which is so over the
-- certificate's own atoms
pub record CheckMeans (x y z : Bytes) (when : Option Bytes) (n : ℕ) (bytes : Bytes) : Type 0 where
  pub certificate : Certificate
  pub read : HasText certificate z
  pub text : bytes ≡ accepted_text (claim_of certificate.body)
  pub status_is : n ≡ status.accepted
  pub new : Proc
  pub old : Proc
  pub cases : List (List Atom)
  pub said : Say x y when new old cases
  pub new_system : System
  pub old_system : System
  pub systems : HasSystems new old certificate.version new_system old_system
  pub means : ClaimMeans new old when
      (pair new_system old_system cases certificate) certificate.degree certificate.products
      (claim_of certificate.body)

-- ---- of what words ask for, over the texts of the files that they name
abbrev pub Means : Reading → List Bytes → ℕ → Bytes → Type 0
Means (for_analyse new old when s) (x ∷ y ∷ []) n bytes = AnalyseMeans x y when s n bytes
Means (for_check new old cert when) (x ∷ y ∷ z ∷ []) n bytes = CheckMeans x y z when n bytes
Means (for_sample seed count) [] n bytes = SampleMeans seed count n bytes
Means read texts n bytes = ⊥
