-- Texts say one thing together, or one is wrong first.
use Rattle.std.proofs.Common.{◌≡◌, ◌≢◌, refl, sym, ◌∙◌, ap, subst, ℕ, List, Option, Some, None}
use Rattle.dc_syntax.specs.declared.tree.Proc.{Proc}
use Rattle.dc_syntax.specs.Params.{params_of, HaveSameParams}
use Rattle.dc_affine.specs.declared.atom.Atom.{Atom}
use Rattle.dc_lines.specs.Bytes.{Bytes}
use Rattle.dc_tokens.specs.Lines.{line_at, column_at}
use Rattle.dc_grammar.specs.Language.{source, cond}
use Rattle.dc_parse.specs.declared.fault.Fault.{Fault}
use Rattle.dc_parse.specs.declared.fault.Kind.{Kind}
use Rattle.dc_parse.specs.declared.fault.Kind.TheVariants as k
use Rattle.dc_parse.specs.declared.parse.ParseFault.{ParseFault}
use Rattle.dc_parse.specs.Faults.{fault}
use Rattle.dc_parse.specs.Outcomes.{Outcome, says, refuses}
use Rattle.dc_parse.specs.Judges.{judge_source, judge_condition}
use Rattle.dc_parse.specs.Answers.{SourceOutcome, ConditionOutcome, IsRefusal}
use Rattle.dc_parse.proofs.Judged.{one_outcome}
use Rattle.dc_answers.specs.declared.refusal.Text.TheVariants.{New, Old, When}
use Rattle.dc_answers.specs.declared.refusal.Wrong.TheVariants.{Parse}
use Rattle.dc_answers.specs.Sources.{SaysProgram, SaysCases, SayPair, IsFaultIn, IsConditionFault, Told, says_pair, is_wrong, Tells, new_wrong, old_wrong, differ, when_wrong, all_say}

-- ---- one text
-- where outcomes are one
abbrev pub AreOne : {A : Type 0} → (Outcome A → Type 0) → Type 0
AreOne {A} Of = (o p : Outcome A) → Of o → Of p → o ≡ p

-- a fault but want of memory has its byte
pub record HasByte {A : Type 0} (Of : Outcome A → Type 0) (x : Bytes) (f : ParseFault) : Type 0 where
  pub byte : ℕ
  pub outcome : Of (refuses (fault f.kind byte))
  pub line : f.line ≡ line_at x byte
  pub column : f.col ≡ column_at x byte

byte_of : {A : Type 0} (Of : Outcome A → Type 0) (x : Bytes) (line col : ℕ) (kind : Kind) → IsRefusal Of x line col kind → kind ≢ k.NoMemory
    → (at : ℕ) × Of (refuses (fault kind at)) × (line ≡ line_at x at) × (col ≡ column_at x at)
byte_of Of x line col k.NoMemory h n = absurd (n refl)
byte_of Of x line col _ h n = h

has_byte : {A : Type 0} (Of : Outcome A → Type 0) (x : Bytes) (f : ParseFault) → IsFaultIn Of x f → HasByte Of x f
has_byte Of x f h =
    let b = byte_of Of x f.line f.col f.kind h.stated h.other in
    record { byte = b.0; outcome = b.1; line = b.2; column = b.3 }

fault_same : {A : Type 0} (f g : Fault) → ◌≡◌ {A = Outcome A} (refuses f) (refuses g) → f ≡ g
fault_same f g e = cc

pub one_fault : {A : Type 0} (Of : Outcome A → Type 0) (x : Bytes) (f g : ParseFault) → AreOne Of → IsFaultIn Of x f → IsFaultIn Of x g → f ≡ g
one_fault Of x f g one h k =
    let a = has_byte Of x f h in
    let b = has_byte Of x g k in
    let e = one (refuses (fault f.kind a.byte)) (refuses (fault g.kind b.byte)) a.outcome b.outcome in
    let same : fault f.kind a.byte ≡ fault g.kind b.byte = fault_same (fault f.kind a.byte) (fault g.kind b.byte) e in
    let at : a.byte ≡ b.byte = ap (λ (z : Fault). z.at) same in
    let line : f.line ≡ g.line = a.line ∙ ap (line_at x) at ∙ sym b.line in
    let column : f.col ≡ g.col = a.column ∙ ap (column_at x) at ∙ sym b.column in
    let kind : f.kind ≡ g.kind = ap (λ (z : Fault). z.kind) same in
    λ i. record { line = line i; col = column i; kind = kind i }

says_apart : {A : Type 0} (v : A) (f : Fault) → ◌≡◌ {A = Outcome A} (says v) (refuses f) → ⊥
says_apart v f e = cc

says_same : {A : Type 0} (v w : A) → ◌≡◌ {A = Outcome A} (says v) (says w) → v ≡ w
says_same v w e = cc

pub says_or_faulty : {A : Type 0} (Of : Outcome A → Type 0) (x : Bytes) (v : A) (f : ParseFault) → AreOne Of → Of (says v) → IsFaultIn Of x f → ⊥
says_or_faulty Of x v f one s h =
    let a = has_byte Of x f h in
    says_apart v (fault f.kind a.byte) (one (says v) (refuses (fault f.kind a.byte)) s a.outcome)

-- ---- sources and conditions
pub one_source : (x : Bytes) → AreOne (SourceOutcome x)
one_source x o p h k = one_outcome source (judge_source x) x o p h k

pub one_condition : (names : List Bytes) (z : Bytes) → AreOne (ConditionOutcome names z)
one_condition names z o p h k = one_outcome cond (judge_condition names z) z o p h k

pub one_program : (x : Bytes) (p q : Proc) → SaysProgram x p → SaysProgram x q → p ≡ q
one_program x p q h k = says_same p q (one_source x (says p) (says q) h k)

new_clash : (x : Bytes) (p : Proc) (f : ParseFault) → SaysProgram x p → IsFaultIn (SourceOutcome x) x f → ⊥
new_clash x p f s h = says_or_faulty (SourceOutcome x) x p f (one_source x) s h

pub one_cases : (when : Option Bytes) (p : Proc) (cases more : List (List Atom)) → SaysCases when p cases → SaysCases when p more → cases ≡ more
one_cases None p cases more h k = h ∙ sym k
one_cases (Some z) p cases more h k = says_same cases more (one_condition (params_of p) z (says cases) (says more) h k)

one_condition_fault : (when : Option Bytes) (p : Proc) (f g : ParseFault) → IsConditionFault when p f → IsConditionFault when p g → f ≡ g
one_condition_fault None p f g h k = absurd h
one_condition_fault (Some z) p f g h k = one_fault (ConditionOutcome (params_of p) z) z f g (one_condition (params_of p) z) h k

cases_clash : (when : Option Bytes) (p : Proc) (cases : List (List Atom)) (f : ParseFault) → SaysCases when p cases → IsConditionFault when p f → ⊥
cases_clash None p cases f s h = h
cases_clash (Some z) p cases f s h = says_or_faulty (ConditionOutcome (params_of p) z) z cases f (one_condition (params_of p) z) s h

-- ---- all texts
module _ (x y : Bytes) (when : Option Bytes) where
  apart : (p q r s : Proc) → SaysProgram x p → SaysProgram y q → ¬ HaveSameParams p q → SayPair x y r s → ⊥
  apart p q r s h k n m =
      n (subst (λ a. HaveSameParams a q) (one_program x r p m.new_said h) (subst (HaveSameParams r) (one_program y s q m.old_said k) m.agree))

  pub one_told : (o p : Told) → Tells x y when o → Tells x y when p → o ≡ p
  one_told o p (new_wrong f h e) (new_wrong g k d) = e ∙ ap (λ z. is_wrong New (Parse z)) (one_fault (SourceOutcome x) x f g (one_source x) h k) ∙ sym d
  one_told o p (new_wrong f h e) (old_wrong a s g k d) = absurd (new_clash x a f s h)
  one_told o p (new_wrong f h e) (differ a b s t n d) = absurd (new_clash x a f s h)
  one_told o p (new_wrong f h e) (when_wrong a b s g k d) = absurd (new_clash x a f s.new_said h)
  one_told o p (new_wrong f h e) (all_say a b cases s k d) = absurd (new_clash x a f s.new_said h)
  one_told o p (old_wrong a s f h e) (new_wrong g k d) = absurd (new_clash x a g s k)
  one_told o p (old_wrong a s f h e) (old_wrong b t g k d) = e ∙ ap (λ z. is_wrong Old (Parse z)) (one_fault (SourceOutcome y) y f g (one_source y) h k) ∙ sym d
  one_told o p (old_wrong a s f h e) (differ b c t u n d) = absurd (new_clash y c f u h)
  one_told o p (old_wrong a s f h e) (when_wrong b c t g k d) = absurd (new_clash y c f t.old_said h)
  one_told o p (old_wrong a s f h e) (all_say b c cases t k d) = absurd (new_clash y c f t.old_said h)
  one_told o p (differ a b s t n e) (new_wrong g k d) = absurd (new_clash x a g s k)
  one_told o p (differ a b s t n e) (old_wrong c u g k d) = absurd (new_clash y b g t k)
  one_told o p (differ a b s t n e) (differ c f u v m d) = e ∙ sym d
  one_told o p (differ a b s t n e) (when_wrong c f u g k d) = absurd (apart a b c f s t n u)
  one_told o p (differ a b s t n e) (all_say c f cases u k d) = absurd (apart a b c f s t n u)
  one_told o p (when_wrong a b s f h e) (new_wrong g k d) = absurd (new_clash x a g s.new_said k)
  one_told o p (when_wrong a b s f h e) (old_wrong c t g k d) = absurd (new_clash y b g s.old_said k)
  one_told o p (when_wrong a b s f h e) (differ c g t u n d) = absurd (apart c g a b t u n s)
  one_told o p (when_wrong a b s f h e) (when_wrong c g t j k d) =
      e ∙ ap (λ z. is_wrong When (Parse z)) (one_condition_fault when a f j h (subst (λ q. IsConditionFault when q j) (one_program x c a t.new_said s.new_said) k)) ∙ sym d
  one_told o p (when_wrong a b s f h e) (all_say c g cases t k d) =
      absurd (cases_clash when a cases f (subst (λ q. SaysCases when q cases) (one_program x c a t.new_said s.new_said) k) h)
  one_told o p (all_say a b cases s h e) (new_wrong g k d) = absurd (new_clash x a g s.new_said k)
  one_told o p (all_say a b cases s h e) (old_wrong c t g k d) = absurd (new_clash y b g s.old_said k)
  one_told o p (all_say a b cases s h e) (differ c g t u n d) = absurd (apart c g a b t u n s)
  one_told o p (all_say a b cases s h e) (when_wrong c g t j k d) =
      absurd (cases_clash when a cases j h (subst (λ q. IsConditionFault when q j) (one_program x c a t.new_said s.new_said) k))
  one_told o p (all_say a b cases s h e) (all_say c g more t k d) =
      e ∙ (let m : a ≡ c = one_program x a c s.new_said t.new_said in
      let n : b ≡ g = one_program y b g s.old_said t.old_said in
      let q : cases ≡ more = one_cases when a cases more h (subst (λ z. SaysCases when z more) (sym m) k) in
      λ i. says_pair (m i) (n i) (q i)) ∙ sym d
