-- What single steps over texts come to.
use Rattle.std.specs.Prelude.{◌≡◌, ◌≢◌, List, Option}
use Rattle.dc_syntax.specs.declared.tree.Proc.{Proc}
use Rattle.dc_syntax.specs.Params.{HaveSameParams}
use Rattle.dc_affine.specs.declared.atom.Atom.{Atom}
use Rattle.dc_program.specs.Programs.{IsProgram, IsCondition}
use Rattle.dc_lines.specs.Bytes.{Bytes}
use Rattle.dc_lines.specs.Texts.{IsBadLine}
use Rattle.dc_certtext.specs.Limits.{limit, HasText}
use Rattle.dc_parse.specs.declared.fault.Kind.TheVariants as k
use Rattle.dc_parse.specs.declared.parse.ParseFault.{ParseFault}
use Rattle.dc_answers.specs.declared.refusal.Text.{Text}
use Rattle.dc_answers.specs.declared.refusal.Text.TheVariants.{When}
use Rattle.dc_answers.specs.declared.refusal.Wrong.TheVariants.{Parse}
use Rattle.dc_answers.specs.declared.refusal.Refusal.{Refusal}
use Rattle.dc_answers.specs.declared.refusal.Refusal.TheVariants.{Source, BadCertificate, NoMemory}
use Rattle.dc_answers.specs.Sources.{IsConditionFault, Tells, is_wrong}

-- what the parsers say of two versions and of a condition
pub record AreRead (new old : Proc) (cases : List (List Atom)) : Type 0 where
  pub new_program : IsProgram new
  pub old_program : IsProgram old
  pub params : HaveSameParams new old
  pub condition : IsCondition new.params cases

-- a fault as a refusal: with its text, or want of memory
abbrev pub IsRefusalOf : Text → ParseFault → Refusal → Type 0
IsRefusalOf at fault NoMemory = Unit {0}
IsRefusalOf at fault (Source text (Parse f)) = (text ≡ at) × (f ≡ fault) × (fault.kind ≢ k.NoMemory)
IsRefusalOf at fault refusal = ⊥

-- the fault of a text, which is one
abbrev pub IsFaultOf : Text → (ParseFault → Type 0) → Refusal → Type 0
IsFaultOf at Is NoMemory = Unit {0}
IsFaultOf at Is (Source text (Parse f)) = (text ≡ at) × Is f
IsFaultOf at Is refusal = ⊥

-- the fault of a condition
abbrev pub IsCasesFault : Option Bytes → Proc → Refusal → Type 0
IsCasesFault when p refusal = IsFaultOf When (IsConditionFault when p) refusal

-- what is wrong first with the texts of two versions and of a condition
abbrev pub IsMisread : Bytes → Bytes → Option Bytes → Refusal → Type 0
IsMisread x y when NoMemory = Unit {0}
IsMisread x y when (Source at wrong) = Tells x y when (is_wrong at wrong)
IsMisread x y when refusal = ⊥

-- what is wrong with the text of a certificate
abbrev pub IsNoCertificate : Bytes → Refusal → Type 0
IsNoCertificate z NoMemory = Unit {0}
IsNoCertificate z (BadCertificate line) = IsBadLine HasText limit z line
IsNoCertificate z refusal = ⊥
