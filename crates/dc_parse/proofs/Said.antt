-- What a text says meets what later calls require, and its cases tell its condition.
use Rattle.std.proofs.Common.{◌≡◌, ℕ, List, length, refl, sym, ap, ◌∙◌, subst, arith, length-append, false, Some, None}
use Rattle.std.proofs.lemmas.List.{length-map}
use Rattle.std.specs.declared.option.Option.{Option}
use Rattle.std.specs.Option.{option_or}
use Rattle.dc_tokens.specs.declared.token.Token.{Token}
use Rattle.dc_tokens.specs.Texts.{Tokens}
use Rattle.dc_tokens.proofs.Readings.{one_reading}
use Rattle.dc_grammar.specs.Grammar.{Tree}
use Rattle.dc_grammar.specs.Language.{language, source, cond}
use Rattle.dc_grammar.specs.Depth.{IsDeep}
use Rattle.dc_grammar.specs.Verdicts.{Verdict, whole, Finds}
use Rattle.dc_syntax.specs.declared.tree.Proc.{Proc}
use Rattle.dc_syntax.specs.declared.tree.Cond.{Cond}
use Rattle.dc_syntax.specs.Value.{State, truth}
use Rattle.dc_affine.specs.declared.atom.Atom.{Atom}
use Rattle.dc_affine.specs.declared.form.FormFault.{FormFault}
use Rattle.dc_affine.specs.Atoms.{AllCases, IsFullAtom, comparison_fault, width_fault, dnf_fault, conjunctions_of, some_hold}
use Rattle.dc_affine.proofs.CaseLaws.{cases_tell, cases_full}
use Rattle.dc_program.specs.Programs.{IsProgram, IsCondition}
use Rattle.dc_parse.specs.declared.fault.Fault.{Fault}
use Rattle.dc_descent.specs.Faults as descent
use Rattle.dc_parse.specs.Faults.{names_fault, used_fault}
use Rattle.dc_descent.specs.Scopes.{spelled, place_in}
use Rattle.dc_descent.specs.Sources.{parts_of, declared, names_of, body_of}
use Rattle.dc_descent.specs.Statements.{first_at, starts_of}
use Rattle.dc_descent.specs.Trees.{leaves, cond_of}
use Rattle.dc_descent.proofs.Lists.{derived_leaves}
use Rattle.dc_parse.specs.Outcomes.{Outcome, says, refuses, first_of, too_long, bytes, grammar, tree}
use Rattle.dc_parse.specs.Judges.{proc_of, forms_fault, form_at, judge_source, judge_condition}
use Rattle.dc_parse.specs.Answers.{SourceOutcome, ConditionOutcome}
use Rattle.dc_parse.specs.Laws.{HasCondition, HoldWhereTrue}
use Rattle.dc_parse.proofs.Assembled.{raised_none, found_names, found_goods, ToldKnown, told_below, few_operators}
use Rattle.dc_parse.proofs.Cases.{condition_meets}
use Rattle.dc_parse.proofs.Judged.{same_verdict}
use Rattle.dc_parse.proofs.Passing.{forms_pass}

first_none : {A : Type 0} (o : Option Fault) (x : Outcome A) (z : A) → first_of o x ≡ says z → (o ≡ None) × (x ≡ says z)
first_none None x z h = (refl, h)
first_none (Some f) x z h = absurd cc

says_same : {A : Type 0} (x y : A) → says x ≡ says y → x ≡ y
says_same x y h = cc

-- ---- sources

-- the derivation of a procedure that a text says
pub record InSource (text : List ℕ) (p : Proc) : Type 0 where
  pub tokens : List Token
  pub tree : Tree Token
  pub read : Tokens 0 text tokens
  pub found : Finds language IsDeep source tokens (whole tree)
  pub names : names_fault text (parts_of tree) ≡ None
  pub forms : forms_fault text (parts_of tree) ≡ None
  pub is : proc_of text (parts_of tree) ≡ p

pub in_source : (text : List ℕ) (p : Proc) → SourceOutcome text (says p) → InSource text p
in_source text p (too_long l e) = absurd cc
in_source text p (bytes l f w e) = absurd cc
in_source text p (grammar l ts r v d f g e) = absurd cc
in_source text p (tree l ts r a d e) =
    let n = first_none (names_fault text (parts_of a)) _ p (sym e) in
    let f = first_none (forms_fault text (parts_of a)) _ p n.1 in
    record { tokens = ts; tree = a; read = r; found = d; names = n.0; forms = f.0; is = says_same _ _ f.1 }

pub source_is_program : (text : List ℕ) (p : Proc) → SourceOutcome text (says p) → IsProgram p
source_is_program text p o = subst IsProgram i.is program
  where
    i : InSource text p
    i = in_source text p o

    program : IsProgram (proc_of text (parts_of i.tree))
    program =
        let d = found_names text i.tokens i.tree i.names in
        let g = found_goods text i.tokens i.tree i.read i.found i.names in
        record {
          different = d.different;
          few = d.few;
          params = omega (arith, length-map (declared (parts_of i.tree)) (spelled text), length-append (parts_of i.tree).params (parts_of i.tree).locals);
          limited = g.limited;
          forms = forms_pass (length (names_of text (parts_of i.tree))) (body_of text (parts_of i.tree)) (starts_of (parts_of i.tree).body) g.below i.forms;
        }

-- ---- conditions

-- the derivation of a condition whose cases a text says
pub record InCondition (names : List (List ℕ)) (text : List ℕ) (cases : List (List Atom)) : Type 0 where
  pub tokens : List Token
  pub tree : Tree Token
  pub known : ToldKnown names text tokens tree (cond_of (place_in text names) tree)
  pub faultless : dnf_fault (length names) (cond_of (place_in text names) tree) false ≡ None
  pub is : cases ≡ conjunctions_of (length names) (cond_of (place_in text names) tree) false

no_form : (at : ℕ) (o : Option FormFault) → form_at at o ≡ None → o ≡ None
no_form at None h = refl
no_form at (Some f) h = absurd cc

pub in_condition : (names : List (List ℕ)) (text : List ℕ) (cases : List (List Atom)) → ConditionOutcome names text (says cases) → InCondition names text cases
in_condition names text cases (too_long l e) = absurd cc
in_condition names text cases (bytes l f w e) = absurd cc
in_condition names text cases (grammar l ts r v d f g e) = absurd cc
in_condition names text cases (tree l ts r a d e) =
    let n = first_none (used_fault text names (leaves a)) _ cases (sym e) in
    let f = first_none (form_at (first_at a) (dnf_fault (length names) (cond_of (place_in text names) a) false)) _ cases n.1 in
    record {
      tokens = ts;
      tree = a;
      known = record { told = record { short = l; spelled = r; found = d; said = refl }; good = ap (descent.used_fault text names) (sym (derived_leaves d.0)) ∙ raised_none (descent.used_fault text names (leaves a)) n.0 };
      faultless = no_form (first_at a) _ f.0;
      is = sym (says_same _ _ f.1);
    }

none_first : (d u : Option FormFault) → option_or d u ≡ None → d ≡ None
none_first None u h = refl
none_first (Some f) u h = absurd cc

module _ (names : List (List ℕ)) (text : List ℕ) (cases : List (List Atom)) (i : InCondition names text cases) where
  abbrev condition : Cond
  condition = cond_of (place_in text names) i.tree

  comparisons : comparison_fault (length names) condition ≡ None
  comparisons = none_first (comparison_fault (length names) condition) (width_fault condition false) i.faultless

  pub case_condition : IsCondition (length names) cases
  case_condition =
      condition_meets (length names) condition cases (few_operators names text i.tokens i.tree condition i.known) i.faultless i.is
      (subst (AllCases (IsFullAtom (length names))) (sym i.is) (cases_full (length names) condition false (told_below names text i.tokens i.tree condition i.known (length names) refl) comparisons))

  pub case_truth : (x : State) → some_hold cases x ≡ truth condition x
  case_truth x =
      ap (λ l. some_hold l x) i.is ∙ cases_tell (length names) condition false x (told_below names text i.tokens i.tree condition i.known (length names) refl) comparisons

pub condition_is : (names : List (List ℕ)) (text : List ℕ) (cases : List (List Atom)) → ConditionOutcome names text (says cases) → IsCondition (length names) cases
condition_is names text cases o = case_condition names text cases (in_condition names text cases o)

-- a text has one condition over names
same_tree : (names : List (List ℕ)) (text : List ℕ) (c d : Cond) → HasCondition names text c → HasCondition names text d → c ≡ d
same_tree names text c d h k =
    let v : ◌≡◌ {A = Verdict Token} (whole h.tree) (whole k.tree) = same_verdict text cond h.tokens k.tokens h.read k.read (whole h.tree) (whole k.tree) h.found k.found in
    h.is ∙ (ap (cond_of (place_in text names)) (whole_same h.tree k.tree v) ∙ sym k.is)
  where
    whole_same : (a b : Tree Token) → ◌≡◌ {A = Verdict Token} (whole a) (whole b) → a ≡ b
    whole_same a b e = cc

pub hold_where_true : (names : List (List ℕ)) (text : List ℕ) (cases : List (List Atom)) → ConditionOutcome names text (says cases) → HoldWhereTrue names text cases
hold_where_true names text cases o = record {
  some = (cond_of (place_in text names) i.tree, own);
  agree = λ c h x. case_truth names text cases i x ∙ ap (λ z. truth z x) (same_tree names text _ c own h);
}
  where
    i : InCondition names text cases
    i = in_condition names text cases o

    own : HasCondition names text (cond_of (place_in text names) i.tree)
    own = record { tokens = i.tokens; tree = i.tree; read = i.known.told.spelled; found = i.known.told.found; is = refl }
