-- From the fault of one text to what is wrong first with all.
use Rattle.std.proofs.Common.{◌≡◌, ◌≢◌, sym, subst, refl, Option, Some}
use Rattle.dc_syntax.specs.declared.tree.Proc.{Proc}
use Rattle.dc_syntax.specs.Params.{params_of, HaveSameParams}
use Rattle.dc_lines.specs.Bytes.{Bytes}
use Rattle.dc_parse.specs.declared.fault.Kind.TheVariants as k
use Rattle.dc_parse.specs.declared.parse.ParseFault.{ParseFault}
use Rattle.dc_parse.specs.Answers.{SourceOutcome, ConditionOutcome, IsRefusal}
use Rattle.dc_answers.specs.declared.refusal.Text.{Text}
use Rattle.dc_answers.specs.declared.refusal.Text.TheVariants.{New, Old, When}
use Rattle.dc_answers.specs.declared.refusal.Wrong.TheVariants.{Parse}
use Rattle.dc_answers.specs.declared.refusal.Refusal.{Refusal}
use Rattle.dc_answers.specs.declared.refusal.Refusal.TheVariants.{Source, NoMemory}
use Rattle.dc_answers.specs.Sources.{SaysProgram, IsFaultIn, IsConditionFault, new_wrong, old_wrong, when_wrong}
use Rattle.dc_cli.specs.Texts.{IsRefusalOf, IsFaultOf, IsCasesFault, IsMisread}

-- a fault that is not want of memory, as a refusal
pub faulty : (at : Text) (fault : ParseFault) (r : Refusal) (Is : ParseFault → Type 0) → (fault.kind ≢ k.NoMemory → Is fault) → IsRefusalOf at fault r → IsFaultOf at Is r
faulty at fault NoMemory Is g h = tt
faulty at fault (Source text (Parse f)) Is g h = (h.0, subst Is (sym h.1) (g h.2))
faulty at fault _ Is g h = absurd h

-- ---- in the order of the texts
pub new_misread : (x y : Bytes) (when : Option Bytes) (r : Refusal) → IsFaultOf New (IsFaultIn (SourceOutcome x) x) r → IsMisread x y when r
new_misread x y when NoMemory h = tt
new_misread x y when (Source New (Parse f)) h = new_wrong f h.1 refl
new_misread x y when (Source Old (Parse f)) h = absurd (let e : ◌≡◌ {A = Text} Old New = h.0 in cc)
new_misread x y when (Source When (Parse f)) h = absurd (let e : ◌≡◌ {A = Text} When New = h.0 in cc)
new_misread x y when _ h = absurd h

pub old_misread : (x y : Bytes) (when : Option Bytes) (p : Proc) (r : Refusal) → SaysProgram x p → IsFaultOf Old (IsFaultIn (SourceOutcome y) y) r → IsMisread x y when r
old_misread x y when p NoMemory s h = tt
old_misread x y when p (Source Old (Parse f)) s h = old_wrong p s f h.1 refl
old_misread x y when p (Source New (Parse f)) s h = absurd (let e : ◌≡◌ {A = Text} New Old = h.0 in cc)
old_misread x y when p (Source When (Parse f)) s h = absurd (let e : ◌≡◌ {A = Text} When Old = h.0 in cc)
old_misread x y when p _ s h = absurd h

pub cases_misread : (x y : Bytes) (when : Option Bytes) (p q : Proc) (r : Refusal) → SaysProgram x p → SaysProgram y q → HaveSameParams p q → IsCasesFault when p r → IsMisread x y when r
cases_misread x y when p q NoMemory s t a h = tt
cases_misread x y when p q (Source When (Parse f)) s t a h = when_wrong p q (record { new_said = s; old_said = t; agree = a }) f h.1 refl
cases_misread x y when p q (Source New (Parse f)) s t a h = absurd (let e : ◌≡◌ {A = Text} New When = h.0 in cc)
cases_misread x y when p q (Source Old (Parse f)) s t a h = absurd (let e : ◌≡◌ {A = Text} Old When = h.0 in cc)
cases_misread x y when p q _ s t a h = absurd h

-- the fault of a condition that is there
pub condition_misread : (when : Option Bytes) (x z : Bytes) (p : Proc) (fault : ParseFault) (r : Refusal) → when ≡ Some z → x ≡ z
    → IsRefusal (ConditionOutcome (params_of p) x) x fault.line fault.col fault.kind → IsRefusalOf When fault r → IsCasesFault when p r
condition_misread when x z p fault r e f h k =
    faulty When fault r (IsConditionFault when p)
    (λ n. subst (λ w. IsConditionFault w p fault) (sym e) (subst (λ y. IsFaultIn (ConditionOutcome (params_of p) y) y fault) f (record { stated = h; other = n })))
    k
