-- What an analysis answers: the certificate that the outcomes of its session give, or its first
-- refusal.
use Rattle.std.specs.Prelude.{◌≡◌, ◌⊎◌}
use Rattle.dc_math.specs.Rational.{ℚ}
use Rattle.dc_syntax.specs.Params.{HaveSameParams}
use Rattle.dc_lp.specs.Tables.{Table}
use Rattle.dc_lp.specs.Meanings.{Meaning, resting}
use Rattle.dc_program.specs.Programs.{IsProgram, IsCondition}
use Rattle.dc_cert.specs.Settings.{AreSettings}
use Rattle.dc_cert.specs.declared.certificate.Certificate.{Certificate}
use Rattle.dc_cert.specs.Claims.{claim_of}
use Rattle.dc_check.specs.Answers.{Accepts}
use Rattle.dc_session.specs.declared.fault.AnalyseFault.{AnalyseFault}
use Rattle.dc_session.specs.declared.fault.AnalyseFault.TheVariants.{NoMemory}
use Rattle.dc_session.specs.Session.{Input, Analysis}
use Rattle.dc_session.specs.Made.{IsMade}
use Rattle.dc_session.specs.Refusals.{IsThrough, IsRefusal}

-- two programs with the same parameters, a condition over these, and such settings
pub record IsInput (i : Input) : Type 0 where
  pub new : IsProgram i.new
  pub old : IsProgram i.old
  pub params : HaveSameParams i.new i.old
  pub condition : IsCondition i.new.params i.cases
  pub settings : AreSettings i.settings

-- The certificate that is made, where nothing is refused. The checker accepts it, so what it claims
-- is so, over the printed atoms of the greatest families. The lent tableau is left at the table at
-- which the run of the main problem ends.
pub record TellsCertificate (i : Input) (left : Meaning) (c : Certificate) : Type 0 where
  pub analysis : Analysis
  pub through : IsThrough i analysis
  pub table : Table ℚ
  pub made : IsMade i analysis table c
  pub accepted : Accepts i.new i.old i.cases c (claim_of c.body)
  pub rest : left ≡ resting table

-- want of memory is free; each other fault is the first refusal
abbrev pub IsFault : Input → AnalyseFault → Type 0
IsFault i f = (f ≡ NoMemory) ⊎ IsRefusal i f
