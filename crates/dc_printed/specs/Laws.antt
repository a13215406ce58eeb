-- The laws of printed texts, each as the contract of a function of `laws` states it.
use Rattle.std.specs.Prelude.{◌≡◌, ℕ, ◌≤◌, true, List, length, take}
use Rattle.dc_tokens.specs.declared.token.Token.{Token}
use Rattle.dc_tokens.specs.Texts.{Tokens}
use Rattle.dc_grammar.specs.Grammar.{Tree, Derives, ref}
use Rattle.dc_grammar.specs.Language.{language, source}
use Rattle.dc_grammar.specs.Depth.{IsDeep, open_brackets}
use Rattle.dc_grammar.specs.Verdicts.{Shallow}
use Rattle.dc_program.specs.Limits.{all_limited}
use Rattle.dc_syntax.specs.declared.tree.Proc.{Proc}
use Rattle.dc_syntax.specs.Text.{text_of}
use Rattle.dc_descent.specs.Scopes.{spelled}
use Rattle.dc_descent.specs.Sources.{parts_of, names_of, body_of}
use Rattle.dc_parse.specs.Outcomes.{says}
use Rattle.dc_parse.specs.Answers.{SourceOutcome}
use Rattle.dc_printed.specs.Brackets.{brackets_in, opened}
use Rattle.dc_printed.specs.Fits.{IsWritable}

-- the derivation of a text says a procedure: its name, its parameters and its names as they are
-- spelled, and its statements, whose names stand for their places
pub record IsTreeOf (text : List ℕ) (a : Tree Token) (p : Proc) : Type 0 where
  pub name : spelled text (parts_of a).name ≡ p.name
  pub params : length (parts_of a).params ≡ p.params
  pub names : names_of text (parts_of a) ≡ p.names
  pub body : body_of text (parts_of a) ≡ p.body

-- a text has the tree of a procedure by the grammar
pub record HasTree (text : List ℕ) (p : Proc) : Type 0 where
  pub tokens : List Token
  pub tree : Tree Token
  pub read : Tokens 0 text tokens
  pub derived : Derives language (ref source) tokens tree
  pub says : IsTreeOf text tree p

-- the printed text has the tree of the procedure
abbrev pub PrintedHasTree : Type 0
PrintedHasTree = (p : Proc) → IsWritable p → HasTree (text_of p) p

-- no text with the tree of the procedure has fewer brackets `(` and `[` than the printed one
abbrev pub FewestBrackets : Type 0
FewestBrackets =
    (p : Proc) → IsWritable p
    → (text : List ℕ) (other : HasTree text p) (printed : HasTree (text_of p) p)
    → opened (brackets_in printed.tokens) ≤ opened (brackets_in other.tokens)

-- what the parser reads from a text it reads from the printed text again, where that is short
-- enough to be read
abbrev pub PrintedReadsBack : Type 0
PrintedReadsBack =
    (text : List ℕ) (p : Proc) → SourceOutcome text (says p) → length (text_of p) ≤ 65536
    → SourceOutcome (text_of p) (says p)

-- what the parser reads from a text has a text
abbrev pub HaveTexts : Type 0
HaveTexts = (text : List ℕ) (p : Proc) → SourceOutcome text (says p) → IsWritable p

-- each expression and each whole condition of a source has at most 64 operators (and its literals
-- are those that a text may have), and nowhere are more than 64 brackets open
pub record HasFew (text : List ℕ) (ts : List Token) (a : Tree Token) : Type 0 where
  pub operators : all_limited (body_of text (parts_of a)) ≡ true
  pub brackets : (k : ℕ) → k ≤ length ts → open_brackets (take k ts) ≤ 64

-- the tokens of a source nest not too deep exactly where it has few operators and brackets
abbrev pub DeepWhereMany : Type 0
DeepWhereMany =
    (text : List ℕ) (ts : List Token) (a : Tree Token) → Tokens 0 text ts
    → Derives language (ref source) ts a
    → (Shallow IsDeep ts (length ts) → HasFew text ts a)
    × (HasFew text ts a → Shallow IsDeep ts (length ts))
