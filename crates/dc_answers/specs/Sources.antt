-- What the texts of two versions and of a condition say, or what is wrong with them first.
use Rattle.std.specs.Prelude.{◌≡◌, ◌≢◌, List, [], ◌∷◌, Option, Some, None}
use Rattle.dc_syntax.specs.declared.tree.Proc.{Proc}
use Rattle.dc_syntax.specs.Params.{params_of, HaveSameParams}
use Rattle.dc_affine.specs.declared.atom.Atom.{Atom}
use Rattle.dc_lines.specs.Bytes.{Bytes}
use Rattle.dc_parse.specs.declared.fault.Kind.TheVariants as k
use Rattle.dc_parse.specs.declared.parse.ParseFault.{ParseFault}
use Rattle.dc_parse.specs.Outcomes.{Outcome, says}
use Rattle.dc_parse.specs.Answers.{SourceOutcome, ConditionOutcome, IsRefusal}
use Rattle.dc_answers.specs.declared.refusal.Text.{Text}
use Rattle.dc_answers.specs.declared.refusal.Text.TheVariants.{New, Old, When}
use Rattle.dc_answers.specs.declared.refusal.Wrong.{Wrong}
use Rattle.dc_answers.specs.declared.refusal.Wrong.TheVariants.{Parse, ParametersDiffer}

-- a text says this procedure
abbrev pub SaysProgram : Bytes → Proc → Type 0
SaysProgram x p = SourceOutcome x (says p)

-- a condition's text says these cases over the parameters of a procedure; no condition is the one
-- case without atoms
abbrev pub SaysCases : Option Bytes → Proc → List (List Atom) → Type 0
SaysCases None p cases = cases ≡ [] ∷ []
SaysCases (Some z) p cases = ConditionOutcome (params_of p) z (says cases)

-- two texts say two procedures with the same parameters
pub record SayPair (x y : Bytes) (new old : Proc) : Type 0 where
  pub new_said : SaysProgram x new
  pub old_said : SaysProgram y old
  pub agree : HaveSameParams new old

-- the fault of a text, with its line and column
pub record IsFaultIn {A : Type 0} (Of : Outcome A → Type 0) (x : Bytes) (f : ParseFault) : Type 0 where
  pub stated : IsRefusal Of x f.line f.col f.kind
  pub other : f.kind ≢ k.NoMemory

abbrev pub IsConditionFault : Option Bytes → Proc → ParseFault → Type 0
IsConditionFault None p f = ⊥
IsConditionFault (Some z) p f = IsFaultIn (ConditionOutcome (params_of p) z) z f

-- what the texts say together, or which is wrong first
pub data Told : Type 0 where
  says_pair : Proc → Proc → List (List Atom) → Told
  is_wrong : Text → Wrong → Told

-- the new version's text, the old one's, the parameters, and then the condition
pub data Tells (x y : Bytes) (when : Option Bytes) (o : Told) : Type 0 where
  new_wrong : (f : ParseFault) → IsFaultIn (SourceOutcome x) x f → o ≡ is_wrong New (Parse f)
      → Tells x y when o
  old_wrong : (p : Proc) → SaysProgram x p → (f : ParseFault) → IsFaultIn (SourceOutcome y) y f
      → o ≡ is_wrong Old (Parse f) → Tells x y when o
  differ : (p q : Proc) → SaysProgram x p → SaysProgram y q → ¬ HaveSameParams p q
      → o ≡ is_wrong Old ParametersDiffer → Tells x y when o
  when_wrong : (p q : Proc) → SayPair x y p q → (f : ParseFault) → IsConditionFault when p f
      → o ≡ is_wrong When (Parse f) → Tells x y when o
  all_say : (p q : Proc) (cases : List (List Atom)) → SayPair x y p q → SaysCases when p cases
      → o ≡ says_pair p q cases → Tells x y when o

-- the texts say two procedures with the same parameters, under these cases
abbrev pub Say : Bytes → Bytes → Option Bytes → Proc → Proc → List (List Atom) → Type 0
Say x y when new old cases = Tells x y when (says_pair new old cases)
