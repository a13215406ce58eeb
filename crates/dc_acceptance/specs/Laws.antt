-- What is made is accepted: of the certificate that an analysis makes, the checker refuses a sum
-- that doesn't fit, and nothing else.
use Rattle.std.specs.Prelude.{ℕ, false, Option, Some}
use Rattle.dc_syntax.specs.declared.tree.Side.{Side}
use Rattle.dc_syntax.specs.declared.tree.Count.{Count}
use Rattle.dc_math.specs.Rational.{ℚ}
use Rattle.dc_lp.specs.Tables.{Table}
use Rattle.dc_lp.specs.Meanings.{resting}
use Rattle.dc_cert.specs.declared.certificate.Certificate.{Certificate}
use Rattle.dc_cert.specs.declared.certificate.Claim.{Claim}
use Rattle.dc_cert.specs.Ranges.{IsCertificate}
use Rattle.dc_clauses.specs.Steps.{step}
use Rattle.dc_check.specs.declared.fault.CheckFault.{CheckFault}
use Rattle.dc_check.specs.declared.fault.CheckFault.TheVariants as check
use Rattle.dc_check.specs.Systems.{HasSystems}
use Rattle.dc_check.specs.Answers.{Accepts, FailsAt, IsTooLarge, IsFault}
use Rattle.dc_session.specs.declared.fault.PastAt.TheVariants.{Fold}
use Rattle.dc_session.specs.declared.fault.AnalyseFault.TheVariants.{Past128}
use Rattle.dc_session.specs.Session.{Input, Analysis}
use Rattle.dc_session.specs.Made.{IsMade}
use Rattle.dc_session.specs.Refusals.{IsThrough, IsRefusal}
use Rattle.dc_session.specs.Answers.{IsInput, TellsCertificate}

-- every problem of the analysis of the input comes to its end; this is the certificate that these
-- give, with the table at which the main one ends
pub record Makes (i : Input) (a : Analysis) (t : Table ℚ) (c : Certificate) : Type 0 where
  pub input : IsInput i
  pub through : IsThrough i a
  pub made : IsMade i a t c

-- ---- what the checker asks for
-- the certificate is within the ranges
abbrev pub MadeAreCertificates : Type 0
MadeAreCertificates = (i : Input) (a : Analysis) (t : Table ℚ) (c : Certificate)
    → Makes i a t c → IsCertificate c

-- its systems are those of the analysis
abbrev pub MadeHaveSystems : Type 0
MadeHaveSystems = (i : Input) (a : Analysis) (t : Table ℚ) (c : Certificate)
    → Makes i a t c → HasSystems i.new i.old c.version a.new a.old

-- ---- what the checker finds
-- no count passes its limit
abbrev pub MadeAreNarrow : Type 0
MadeAreNarrow = (i : Input) (a : Analysis) (t : Table ℚ) (c : Certificate) (side : Option Side)
    (what : Count) (n : ℕ) → Makes i a t c → ¬ IsTooLarge i.new i.old i.cases c side what n

-- no clause is false
abbrev pub MadeAreTrue : Type 0
MadeAreTrue = (i : Input) (a : Analysis) (t : Table ℚ) (c : Certificate) (clause index : ℕ)
    → Makes i a t c → ¬ FailsAt i.new i.old i.cases c (step clause index (Some false))

-- ---- what the checker answers
-- a claim, with which the analysis is told
abbrev pub AcceptedAreTold : Type 0
AcceptedAreTold = (i : Input) (a : Analysis) (t : Table ℚ) (c : Certificate) (k : Claim)
    → Makes i a t c → Accepts i.new i.old i.cases c k → TellsCertificate i (resting t) c

-- or a sum that doesn't fit, which is the first refusal of the analysis, or want of memory
abbrev pub IsFoldFault : Input → CheckFault → Type 0
IsFoldFault i (check.Rejected clause index) = ⊥
IsFoldFault i (check.Past128 clause index) = IsRefusal i (Past128 (Fold clause index))
IsFoldFault i (check.TooLarge side what n) = ⊥
IsFoldFault i check.NoMemory = Unit {0}

abbrev pub FaultsAreFolds : Type 0
FaultsAreFolds = (i : Input) (a : Analysis) (t : Table ℚ) (c : Certificate) (f : CheckFault)
    → Makes i a t c → IsFault i.new i.old i.cases c f → IsFoldFault i f
