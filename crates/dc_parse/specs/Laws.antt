-- The laws of what texts say, each as the contract of a function of `laws` states it.
use Rattle.std.specs.Prelude.{◌≡◌, ℕ, ◌≤◌, List, length, None}
use Rattle.dc_tokens.specs.declared.token.Token.{Token}
use Rattle.dc_tokens.specs.Texts.{Tokens}
use Rattle.dc_grammar.specs.Depth.{IsDeep}
use Rattle.dc_grammar.specs.Grammar.{Tree, Derives, ref}
use Rattle.dc_grammar.specs.Language.{language, source, cond}
use Rattle.dc_grammar.specs.Verdicts.{Shallow, whole, Finds}
use Rattle.dc_syntax.specs.declared.tree.Proc.{Proc}
use Rattle.dc_syntax.specs.declared.tree.Cond.{Cond}
use Rattle.dc_syntax.specs.Value.{State, truth}
use Rattle.dc_affine.specs.declared.atom.Atom.{Atom}
use Rattle.dc_affine.specs.Atoms.{some_hold}
use Rattle.dc_program.specs.Programs.{IsProgram, IsCondition}
use Rattle.dc_descent.specs.Scopes.{place_in}
use Rattle.dc_descent.specs.Sources.{parts_of, body_of}
use Rattle.dc_descent.specs.Statements.{starts_of}
use Rattle.dc_descent.specs.Trees.{cond_of}
use Rattle.dc_parse.specs.Faults.{names_fault}
use Rattle.dc_parse.specs.Outcomes.{says, HasOneOutcome}
use Rattle.dc_parse.specs.Forms.{all_faults}
use Rattle.dc_parse.specs.Judges.{proc_of, forms_fault, judge_source, judge_condition}
use Rattle.dc_parse.specs.Answers.{SourceOutcome, ConditionOutcome}

-- each text has one outcome as a source, and one as a condition over any names
pub record OneOutcomeEach (text : List ℕ) : Type 0 where
  pub sources : HasOneOutcome source (judge_source text) text
  pub conditions : (names : List (List ℕ)) → HasOneOutcome cond (judge_condition names text) text

-- a short text whose tokens derive a source and nest not too deep, and whose names and forms have
-- no fault, says the procedure of that derivation
abbrev pub SaysByTree : List ℕ → Type 0
SaysByTree text =
    (ts : List Token) (a : Tree Token) → length text ≤ 65536 → Tokens 0 text ts
    → Derives language (ref source) ts a → Shallow IsDeep ts (length ts)
    → names_fault text (parts_of a) ≡ None → forms_fault text (parts_of a) ≡ None
    → SourceOutcome text (says (proc_of text (parts_of a)))

-- what a text says as a source is a program
abbrev pub SaysPrograms : List ℕ → Type 0
SaysPrograms text = (p : Proc) → SourceOutcome text (says p) → IsProgram p

-- what a text says as a condition over names is a condition over as many places
abbrev pub SaysConditions : List ℕ → Type 0
SaysConditions text =
    (names : List (List ℕ)) (cases : List (List Atom)) → ConditionOutcome names text (says cases)
    → IsCondition (length names) cases

-- the tree of a text over names: its tokens, which nest not too deep, derive this condition
pub record HasCondition (names : List (List ℕ)) (text : List ℕ) (c : Cond) : Type 0 where
  pub tokens : List Token
  pub tree : Tree Token
  pub read : Tokens 0 text tokens
  pub found : Finds language IsDeep cond tokens (whole tree)
  pub is : c ≡ cond_of (place_in text names) tree

-- the cases that a text says hold exactly where its condition is true
pub record HoldWhereTrue (names : List (List ℕ)) (text : List ℕ)
    (cases : List (List Atom)) : Type 0 where
  pub some : (c : Cond) × HasCondition names text c
  pub agree : (c : Cond) → HasCondition names text c → (x : State) → some_hold cases x ≡ truth c x

abbrev pub SaysItsCases : List ℕ → Type 0
SaysItsCases text =
    (names : List (List ℕ)) (cases : List (List Atom)) → ConditionOutcome names text (says cases)
    → HoldWhereTrue names text cases

-- of a source, each statement has the offset at which it begins: there are as many of the one as of
-- the other
abbrev pub HaveOffsets : List ℕ → Type 0
HaveOffsets text =
    (ts : List Token) (a : Tree Token) (n : ℕ) → Derives language (ref source) ts a
    → length (starts_of (parts_of a).body) ≡ length (all_faults n (body_of text (parts_of a)))
