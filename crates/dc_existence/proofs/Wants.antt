-- What is wrong with a text is never want of memory.
use Rattle.std.proofs.Common.{◌≡◌, ◌≢◌, refl, sym, subst, ℕ, Bool, true, false, cond, List, [], ◌∷◌, ◌++◌, length, Some, None}
use Rattle.std.specs.Prelude.{leb}
use Rattle.std.specs.declared.option.Option.{Option}
use Rattle.std.specs.Option.{option_or, option_map}
use Rattle.dc_tokens.specs.declared.token.TokenKind.TheVariants as t
use Rattle.dc_tokens.specs.declared.token.Token.{Token}
use Rattle.dc_tokens.specs.declared.token.LexFault.{LexFault}
use Rattle.dc_tokens.specs.declared.token.LexFault.TheVariants as l
use Rattle.dc_tokens.specs.Pieces.{Wrong, not_ascii, not_ascii_in_comment, bad_character, too_wide}
use Rattle.dc_tokens.specs.Texts.{Fails, here, after}
use Rattle.dc_tokens.specs.Lines.{line_at, column_at}
use Rattle.dc_grammar.specs.Kinds.{is}
use Rattle.dc_grammar.specs.Grammar.{Tree}
use Rattle.dc_grammar.specs.Language.{Name, source, cond as condition}
use Rattle.dc_grammar.specs.Verdicts.{Verdict, whole, unexpected, unclosed, too_deep}
use Rattle.dc_syntax.specs.Names.{has_name, place_of}
use Rattle.dc_affine.specs.declared.form.FormFault.{FormFault}
use Rattle.dc_affine.specs.declared.form.FormFault.TheVariants as form
use Rattle.dc_affine.specs.Atoms.{dnf_fault, conjunctions_of}
use Rattle.dc_descent.specs.declared.fault.Kind.{Kind as DescentKind}
use Rattle.dc_descent.specs.declared.fault.Kind.TheVariants as d
use Rattle.dc_descent.specs.declared.fault.Fault.{Fault as DescentFault}
use Rattle.dc_descent.specs.Faults as descent
use Rattle.dc_descent.specs.Scopes.{spelled, place_in}
use Rattle.dc_descent.specs.Sources as sources
use Rattle.dc_descent.specs.Sources.{Parts, parts_of, names_of, body_of, declared}
use Rattle.dc_descent.specs.Statements.{first_at, starts_of}
use Rattle.dc_descent.specs.Trees.{leaves, cond_of}
use Rattle.dc_lines.specs.Bytes.{Bytes}
use Rattle.dc_parse.specs.declared.fault.Kind.{Kind}
use Rattle.dc_parse.specs.declared.fault.Kind.TheVariants as k
use Rattle.dc_parse.specs.declared.fault.Fault.{Fault}
use Rattle.dc_parse.specs.declared.parse.ParseFault.{ParseFault}
use Rattle.dc_parse.specs.Faults.{fault, kind_of, raised, verdict_fault, names_fault, used_fault}
use Rattle.dc_parse.specs.Forms.{form_kind, tail_of, first_form}
use Rattle.dc_parse.specs.Judges.{proc_of, forms_fault, judge_source, judge_condition, form_at}
use Rattle.dc_parse.specs.Outcomes.{Outcome, says, refuses, lexed, IsOutcome, too_long, bytes, grammar, tree, first_of}
use Rattle.dc_parse.specs.Answers.{SourceOutcome, ConditionOutcome, IsRefusal}
use Rattle.dc_answers.specs.Sources.{IsFaultIn}
use Rattle.dc_existence.proofs.Forms.{IsOther, AreOther, dnf_other, all_other}

-- ---- of the names and the grammar
abbrev IsKnown : Option DescentFault → Type 0
IsKnown None = Unit {0}
IsKnown (Some f) = f.kind ≢ d.NoMemory

both_known : (a b : Option DescentFault) → IsKnown a → IsKnown b → IsKnown (option_or a b)
both_known None b h m = m
both_known (Some f) b h m = h

if_known : (b : Bool) (x y : Option DescentFault) → IsKnown x → IsKnown y → IsKnown (cond b x y)
if_known true x y h m = h
if_known false x y h m = m

declared_known : (text : Bytes) (before : List Bytes) (ts : List Token) → IsKnown (descent.declared_fault text before ts)
declared_known text before [] = tt
declared_known text before (x ∷ ts) =
    if_known (leb 10 (length before)) _ _ (λ e. cc)
    (if_known (has_name before (spelled text x)) _ _ (λ e. cc) (declared_known text (before ++ spelled text x ∷ []) ts))

missing_known : (o : Option ℕ) (at : ℕ) → IsKnown (descent.missing o at)
missing_known None at = λ e. cc
missing_known (Some p) at = tt

used_known : (text : Bytes) (names : List Bytes) (ts : List Token) → IsKnown (descent.used_fault text names ts)
used_known text names [] = tt
used_known text names (x ∷ ts) =
    both_known (descent.unknown text names x) (descent.used_fault text names ts)
    (if_known (is t.Name x.kind) _ None (missing_known (place_of names (spelled text x)) x.at) tt) (used_known text names ts)

verdict_known : (ts : List Token) (end : ℕ) (v : Verdict Token) → IsKnown (descent.verdict_fault ts end v)
verdict_known ts end (whole a) = tt
verdict_known ts end (unexpected n) = λ e. cc
verdict_known ts end unclosed = λ e. cc
verdict_known ts end (too_deep n) = λ e. cc

names_known : (text : Bytes) (p : Parts) → IsKnown (sources.names_fault text p)
names_known text p =
    both_known (descent.declared_fault text [] (declared p)) (descent.used_fault text (names_of text p) (leaves p.body))
    (declared_known text [] (declared p)) (used_known text (names_of text p) (leaves p.body))

-- ---- among those of all phases
abbrev IsSaid : Option Fault → Type 0
IsSaid None = Unit {0}
IsSaid (Some f) = f.kind ≢ k.NoMemory

kind_said : (j : DescentKind) → j ≢ d.NoMemory → kind_of j ≢ k.NoMemory
kind_said d.NoMemory h = absurd (h refl)
kind_said d.Unexpected h = λ e. cc
kind_said d.Unclosed h = λ e. cc
kind_said d.TooDeep h = λ e. cc
kind_said d.TooManyNames h = λ e. cc
kind_said d.NameTwice h = λ e. cc
kind_said d.UnknownName h = λ e. cc

raised_said : (o : Option DescentFault) → IsKnown o → IsSaid (option_map raised o)
raised_said None h = tt
raised_said (Some f) h = kind_said f.kind h

form_said : (f : FormFault) → f ≢ form.NoMemory → form_kind f ≢ k.NoMemory
form_said form.NoMemory h = absurd (h refl)
form_said form.DegreeTooHigh h = λ e. cc
form_said form.CoefficientRange h = λ e. cc
form_said form.NotAffine h = λ e. cc
form_said form.ConditionTooWide h = λ e. cc

first_said : (ps : List ℕ) (fs : List (Option FormFault)) → AreOther fs → IsSaid (first_form ps fs)
first_said ps [] h = tt
first_said ps (None ∷ fs) h = first_said (tail_of ps) fs h.1
first_said ps (Some f ∷ fs) h = form_said f h.0

at_said : (at : ℕ) (o : Option FormFault) → IsOther o → IsSaid (form_at at o)
at_said at None h = tt
at_said at (Some f) h = form_said f h

wrong_said : {at : ℕ} {bs : Bytes} {f : LexFault} → Wrong at bs f → f ≢ l.NoMemory
wrong_said (not_ascii h) = λ e. cc
wrong_said (not_ascii_in_comment h) = λ e. cc
wrong_said (bad_character h i j m) = λ e. cc
wrong_said (too_wide h i) = λ e. cc

fails_said : {at : ℕ} {bs : Bytes} {f : LexFault} → Fails at bs f → f ≢ l.NoMemory
fails_said (here w) = wrong_said w
fails_said (after p r) = fails_said r

lexed_said : (f : LexFault) → f ≢ l.NoMemory → (lexed f).kind ≢ k.NoMemory
lexed_said l.NoMemory h = absurd (h refl)
lexed_said (l.NotAscii p) h = λ e. cc
lexed_said (l.BadCharacter p) h = λ e. cc
lexed_said (l.LiteralTooWide p) h = λ e. cc

-- ---- outcomes
-- what refuses so, refuses with another fault than want of memory
abbrev IsJudged : {A : Type 0} → Outcome A → Type 0
IsJudged (says v) = Unit {0}
IsJudged (refuses f) = f.kind ≢ k.NoMemory

first_judged : {A : Type 0} (o : Option Fault) (u : Outcome A) → IsSaid o → IsJudged u → IsJudged (first_of o u)
first_judged None u h m = m
first_judged (Some f) u h m = h

some_said : (o : Option Fault) (f : Fault) → o ≡ Some f → IsSaid o → f.kind ≢ k.NoMemory
some_said o f e h = subst IsSaid e h

outcome_judged : {A : Type 0} (x : Name) (judge : Tree Token → Outcome A) (text : Bytes) → ((a : Tree Token) → IsJudged (judge a))
    → (o : Outcome A) → IsOutcome x judge text o → IsJudged o
outcome_judged x judge text each o (too_long n e) = subst IsJudged (sym e) (λ q. cc)
outcome_judged x judge text each o (bytes n f h e) = subst IsJudged (sym e) (lexed_said f (fails_said h))
outcome_judged x judge text each o (grammar n ts i v g f h e) =
    subst IsJudged (sym e) (some_said (verdict_fault ts (length text) v) f h (raised_said _ (verdict_known ts (length text) v)))
outcome_judged x judge text each o (tree n ts i a g e) = subst IsJudged (sym e) (each a)

pub source_judged : (x : Bytes) (f : Fault) → SourceOutcome x (refuses f) → f.kind ≢ k.NoMemory
source_judged x f h = outcome_judged source (judge_source x) x each (refuses f) h
  where
    each : (a : Tree Token) → IsJudged (judge_source x a)
    each a =
        let p = parts_of a in
        first_judged (names_fault x p) (first_of (forms_fault x p) (says (proc_of x p))) (raised_said _ (names_known x p))
        (first_judged (forms_fault x p) (says (proc_of x p)) (first_said (starts_of p.body) _ (all_other (length (names_of x p)) (body_of x p))) tt)

pub condition_judged : (names : List Bytes) (x : Bytes) (f : Fault) → ConditionOutcome names x (refuses f) → f.kind ≢ k.NoMemory
condition_judged names x f h = outcome_judged condition (judge_condition names x) x each (refuses f) h
  where
    each : (a : Tree Token) → IsJudged (judge_condition names x a)
    each a =
        let c = cond_of (place_in x names) a in
        let o = form_at (first_at a) (dnf_fault (length names) c false) in
        let cases = says (conjunctions_of (length names) c false) in
        first_judged (used_fault x names (leaves a)) (first_of o cases) (raised_said _ (used_known x names (leaves a)))
        (first_judged o cases (at_said (first_at a) _ (dnf_other (length names) c false)) tt)

-- ---- faults with their places
stated : {A : Type 0} (Of : Outcome A → Type 0) (x : Bytes) (kind : Kind) (at : ℕ) → Of (refuses (fault kind at)) → kind ≢ k.NoMemory
    → IsRefusal Of x (line_at x at) (column_at x at) kind
stated Of x k.NoMemory at h n = absurd (n refl)
stated Of x _ at h n = (at, h, refl, refl)

-- a refusal with another fault has its line and column
pub fault_in : {A : Type 0} (Of : Outcome A → Type 0) (x : Bytes) (f : Fault) → Of (refuses f) → f.kind ≢ k.NoMemory
    → (g : ParseFault) × IsFaultIn Of x g
fault_in Of x f h n =
    (record { line = line_at x f.at; col = column_at x f.at; kind = f.kind }, record { stated = stated Of x f.kind f.at h n; other = n })
