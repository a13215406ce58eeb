-- An analysis is determined: each of what the other files define is there, and is one.
use Rattle.std.specs.Prelude.{◌≡◌, ◌⊎◌, ℕ, None}
use Rattle.dc_math.specs.Rational.{ℚ}
use Rattle.dc_lp.specs.Tables.{Table}
use Rattle.dc_lp.specs.Meanings.{Meaning}
use Rattle.dc_program.specs.Programs.{IsProgram}
use Rattle.dc_cert.specs.declared.certificate.Certificate.{Certificate}
use Rattle.dc_families.specs.Graphs.{graph_of}
use Rattle.dc_families.specs.Rounds.{IsGreatest}
use Rattle.dc_claims.specs.Duties.{AreRight}
use Rattle.dc_check.specs.Pairs.{pair, flags}
use Rattle.dc_session.specs.declared.fault.AnalyseFault.{AnalyseFault}
use Rattle.dc_session.specs.Session.{Input, candidates_for, Analysis, IsAnalysis}
use Rattle.dc_session.specs.Session.{session_of, pair_of, flags_of}
use Rattle.dc_session.specs.Made.{IsMade}
use Rattle.dc_session.specs.Refusals.{early_excess, IsThrough, IsRefusal}
use Rattle.dc_session.specs.Answers.{TellsCertificate}

-- ---- analyses
-- two programs whose counts are within their limits have an analysis, and there is only one, so its
-- problems are one list
abbrev pub HasAnalysis : Type 0
HasAnalysis = (i : Input) → IsProgram i.new → IsProgram i.old → early_excess i ≡ None
    → (a : Analysis) × IsAnalysis i a

abbrev pub OneAnalysis : Type 0
OneAnalysis = (i : Input) (a b : Analysis) → IsAnalysis i a → IsAnalysis i b → a ≡ b

abbrev pub AsksOne : Type 0
AsksOne = (i : Input) (a b : Analysis) → IsAnalysis i a → IsAnalysis i b
    → session_of i a ≡ session_of i b

-- its printed atoms are those of the greatest families, and its flags tell which duties over these
-- are owed
pub record IsOfGreatest (i : Input) (a : Analysis) : Type 0 where
  pub new : IsGreatest (graph_of a.new) i.cases (candidates_for i i.new) a.new_part.family
  pub old : IsGreatest (graph_of a.old) i.cases (candidates_for i i.old) a.old_part.family
  pub flags : AreRight (pair_of i a) (flags_of i a)

abbrev pub AreOfGreatest : Type 0
AreOfGreatest = (i : Input) (a : Analysis) → IsAnalysis i a → IsOfGreatest i a

-- ---- refusals
-- of two programs, either every problem comes to its end within all limits, or there is a refusal
abbrev pub ThroughOrRefused : Type 0
ThroughOrRefused = (i : Input) → IsProgram i.new → IsProgram i.old
    → ((a : Analysis) × IsThrough i a) ⊎ ((f : AnalyseFault) × IsRefusal i f)

-- the first refusal is one
abbrev pub OneRefusal : Type 0
OneRefusal = (i : Input) (f g : AnalyseFault) → IsRefusal i f → IsRefusal i g → f ≡ g

-- ---- certificates
-- the outcomes give one certificate, which says of both versions and of what is live what the
-- analysis says
abbrev pub OneMade : Type 0
OneMade = (i : Input) (a : Analysis) (t u : Table ℚ) (c d : Certificate)
    → IsMade i a t c → IsMade i a u d → (t ≡ u) × (c ≡ d)

pub record Repeats (i : Input) (a : Analysis) (c : Certificate) : Type 0 where
  pub pair_is : pair a.new a.old i.cases c ≡ pair_of i a
  pub flags_are : flags c ≡ flags_of i a

abbrev pub MadeRepeats : Type 0
MadeRepeats = (i : Input) (a : Analysis) (t : Table ℚ) (c : Certificate)
    → IsAnalysis i a → IsMade i a t c → Repeats i a c

-- ---- answers
-- there is one certificate, with which the tableau is left at one table, and no refusal beside it
abbrev pub OneCertificate : Type 0
OneCertificate = (i : Input) (l m : Meaning) (c d : Certificate)
    → TellsCertificate i l c → TellsCertificate i m d → (l ≡ m) × (c ≡ d)

abbrev pub CertificatesExclude : Type 0
CertificatesExclude = (i : Input) (l : Meaning) (c : Certificate) (f : AnalyseFault)
    → TellsCertificate i l c → ¬ IsRefusal i f
