-- The outcome of a derivation: its names are judged first, then its forms.
use Rattle.std.specs.Prelude.{◌≡◌, ℕ, List, length, false, Some, None}
use Rattle.std.specs.declared.option.Option.{Option}
use Rattle.dc_tokens.specs.declared.token.Token.{Token}
use Rattle.dc_grammar.specs.Grammar.{Tree}
use Rattle.dc_syntax.specs.declared.tree.Proc.{Proc}
use Rattle.dc_affine.specs.declared.atom.Atom.{Atom}
use Rattle.dc_affine.specs.declared.form.FormFault.{FormFault}
use Rattle.dc_affine.specs.Atoms.{dnf_fault, conjunctions_of}
use Rattle.dc_parse.specs.declared.fault.Fault.{Fault}
use Rattle.dc_parse.specs.Faults.{fault, names_fault, used_fault}
use Rattle.dc_descent.specs.Scopes.{spelled, place_in}
use Rattle.dc_descent.specs.Sources.{Parts, parts_of, names_of, body_of}
use Rattle.dc_descent.specs.Statements.{first_at, starts_of}
use Rattle.dc_descent.specs.Trees.{leaves, cond_of}
use Rattle.dc_parse.specs.Outcomes.{Outcome, says, first_of}
use Rattle.dc_parse.specs.Forms.{all_faults, first_form, form_kind}

-- ---- a source

-- the procedure that a source says
abbrev pub proc_of : List ℕ → Parts → Proc
proc_of text p = record {
  name = spelled text p.name;
  names = names_of text p;
  params = length p.params;
  body = body_of text p;
}

-- the first fault of its forms and conditions, over its names
abbrev pub forms_fault : List ℕ → Parts → Option Fault
forms_fault text p =
    first_form (starts_of p.body) (all_faults (length (names_of text p)) (body_of text p))

abbrev pub judge_parts : List ℕ → Parts → Outcome Proc
judge_parts text p =
    first_of (names_fault text p) (first_of (forms_fault text p) (says (proc_of text p)))

abbrev pub judge_source : List ℕ → Tree Token → Outcome Proc
judge_source text a = judge_parts text (parts_of a)

-- ---- a condition over names

-- a fault at an offset
abbrev pub form_at : ℕ → Option FormFault → Option Fault
form_at at (Some f) = Some (fault (form_kind f) at)
form_at at None = None

abbrev pub judge_condition : List (List ℕ) → List ℕ → Tree Token → Outcome (List (List Atom))
judge_condition names text a =
    first_of (used_fault text names (leaves a))
    (first_of (form_at (first_at a) (dnf_fault (length names) (cond_of (place_in text names) a) false))
    (says (conjunctions_of (length names) (cond_of (place_in text names) a) false)))
