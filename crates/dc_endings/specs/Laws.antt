-- A check has an answer, and an analysis has one.
use Rattle.std.specs.Prelude.{◌≢◌, ◌⊎◌, ℕ, List}
use Rattle.dc_syntax.specs.declared.tree.Proc.{Proc}
use Rattle.dc_syntax.specs.Params.{HaveSameParams}
use Rattle.dc_affine.specs.declared.atom.Atom.{Atom}
use Rattle.dc_math.specs.Rational.{ℚ}
use Rattle.dc_lp.specs.Tables.{Table}
use Rattle.dc_lp.specs.Meanings.{Meaning, resting}
use Rattle.dc_program.specs.Programs.{IsProgram, IsCondition}
use Rattle.dc_cert.specs.declared.certificate.Certificate.{Certificate}
use Rattle.dc_cert.specs.declared.certificate.Claim.{Claim}
use Rattle.dc_cert.specs.Ranges.{IsCertificate}
use Rattle.dc_check.specs.declared.fault.CheckFault.{CheckFault}
use Rattle.dc_check.specs.declared.fault.CheckFault.TheVariants.{NoMemory}
use Rattle.dc_check.specs.Answers.{Accepts, IsFault}
use Rattle.dc_session.specs.declared.fault.PastAt.TheVariants.{Fold}
use Rattle.dc_session.specs.declared.fault.AnalyseFault.{AnalyseFault}
use Rattle.dc_session.specs.declared.fault.AnalyseFault.TheVariants.{Past128}
use Rattle.dc_session.specs.Session.{Input, Analysis}
use Rattle.dc_session.specs.Made.{IsMade}
use Rattle.dc_session.specs.Refusals.{IsThrough, IsRefusal}
use Rattle.dc_session.specs.Answers.{IsInput, TellsCertificate}
use Rattle.dc_acceptance.specs.Laws.{Makes}

-- ---- checks
-- a claim is accepted; or a first step does not hold, or a limit is passed
abbrev pub IsChecked : Proc → Proc → List (List Atom) → Certificate → Type 0
IsChecked new old cases c =
    ((k : Claim) × Accepts new old cases c k)
    ⊎ ((f : CheckFault) × (f ≢ NoMemory) × IsFault new old cases c f)

-- of two programs with the same parameters, a condition over these, and a certificate within its ranges
abbrev pub EachIsChecked : Type 0
EachIsChecked = (new old : Proc) (cases : List (List Atom)) (c : Certificate)
    → IsProgram new → IsProgram old → HaveSameParams new old → IsCondition new.params cases
    → IsCertificate c
    → IsChecked new old cases c

-- ---- analyses
-- where every problem of the session comes to its end, the outcomes give a certificate
abbrev pub EachIsMade : Type 0
EachIsMade = (i : Input) (a : Analysis) → IsInput i → IsThrough i a
    → (t : Table ℚ) × (c : Certificate) × IsMade i a t c

-- of the certificate that is made the analysis is told, or a sum that the checker wants doesn't fit
abbrev pub EachMadeEnds : Type 0
EachMadeEnds = (i : Input) (a : Analysis) (t : Table ℚ) (c : Certificate) → Makes i a t c
    → TellsCertificate i (resting t) c
    ⊎ ((clause : ℕ) × (index : ℕ) × IsRefusal i (Past128 (Fold clause index)))

-- so each analysis ends: with a certificate, or with a first refusal
abbrev pub EachEnds : Type 0
EachEnds = (i : Input) → IsInput i
    → ((left : Meaning) × (c : Certificate) × TellsCertificate i left c)
    ⊎ ((f : AnalyseFault) × IsRefusal i f)
