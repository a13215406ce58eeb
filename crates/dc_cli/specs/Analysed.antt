-- What an analysis of texts comes to.
use Rattle.std.specs.Prelude.{◌≡◌, List, Option}
use Rattle.dc_syntax.specs.declared.tree.Proc.{Proc}
use Rattle.dc_affine.specs.declared.atom.Atom.{Atom}
use Rattle.dc_lines.specs.Bytes.{Bytes}
use Rattle.dc_lp.specs.Meanings.{Meaning}
use Rattle.dc_cert.specs.declared.certificate.Settings.{Settings}
use Rattle.dc_cert.specs.declared.certificate.Certificate.{Certificate}
use Rattle.dc_cert.specs.Ranges.{IsCertificate}
use Rattle.dc_session.specs.declared.fault.AnalyseFault.{AnalyseFault}
use Rattle.dc_session.specs.Session.{Input}
use Rattle.dc_session.specs.Refusals.{IsRefusal}
use Rattle.dc_session.specs.Answers.{TellsCertificate}
use Rattle.dc_answers.specs.declared.refusal.Refusal.{Refusal}
use Rattle.dc_answers.specs.declared.refusal.Refusal.TheVariants.{Source, TooLarge, PastPivot, PastFold, Spent, NoMemory}
use Rattle.dc_answers.specs.Sources.{Tells, is_wrong, Say}
use Rattle.dc_answers.specs.Ends.{input_of, of_analysis}

-- the certificate of what texts say
pub record IsAnalysed (x y : Bytes) (when : Option Bytes) (s : Settings) (left : Meaning)
    (c : Certificate) : Type 0 where
  pub new : Proc
  pub old : Proc
  pub cases : List (List Atom)
  pub said : Say x y when new old cases
  pub tells : TellsCertificate (input_of s new old cases) left c
  pub ranges : IsCertificate c

-- the first refusal of an analysis
pub record IsHaltedBy (i : Input) (refusal : Refusal) : Type 0 where
  pub fault : AnalyseFault
  pub first : IsRefusal i fault
  pub is : refusal ≡ of_analysis fault

abbrev pub IsHalted : Input → Refusal → Type 0
IsHalted i NoMemory = Unit {0}
IsHalted i (TooLarge side what n) = IsHaltedBy i (TooLarge side what n)
IsHalted i (PastPivot q n) = IsHaltedBy i (PastPivot q n)
IsHalted i (PastFold clause index) = IsHaltedBy i (PastFold clause index)
IsHalted i (Spent q) = IsHaltedBy i (Spent q)
IsHalted i refusal = ⊥

-- of texts: what is wrong with them, or the first refusal of what they say
pub record IsStoppedBy (x y : Bytes) (when : Option Bytes) (s : Settings)
    (refusal : Refusal) : Type 0 where
  pub new : Proc
  pub old : Proc
  pub cases : List (List Atom)
  pub said : Say x y when new old cases
  pub halted : IsHaltedBy (input_of s new old cases) refusal

abbrev pub IsUnanalysed : Bytes → Bytes → Option Bytes → Settings → Refusal → Type 0
IsUnanalysed x y when s NoMemory = Unit {0}
IsUnanalysed x y when s (Source at wrong) = Tells x y when (is_wrong at wrong)
IsUnanalysed x y when s (TooLarge side what n) = IsStoppedBy x y when s (TooLarge side what n)
IsUnanalysed x y when s (PastPivot q n) = IsStoppedBy x y when s (PastPivot q n)
IsUnanalysed x y when s (PastFold clause index) = IsStoppedBy x y when s (PastFold clause index)
IsUnanalysed x y when s (Spent q) = IsStoppedBy x y when s (Spent q)
IsUnanalysed x y when s refusal = ⊥
