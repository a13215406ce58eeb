-- What the parsers answer.
use Rattle.std.specs.Prelude.{◌≡◌, ℕ, List}
use Rattle.dc_tokens.specs.Lines.{line_at, column_at}
use Rattle.dc_grammar.specs.Language.{source, cond}
use Rattle.dc_syntax.specs.declared.tree.Proc.{Proc}
use Rattle.dc_affine.specs.declared.atom.Atom.{Atom}
use Rattle.dc_parse.specs.declared.fault.Kind.{Kind}
use Rattle.dc_parse.specs.declared.fault.Kind.TheVariants as k
use Rattle.dc_parse.specs.Faults.{fault}
use Rattle.dc_parse.specs.Outcomes.{Outcome, refuses, IsOutcome}
use Rattle.dc_parse.specs.Judges.{judge_source, judge_condition}

-- the outcome of a text that is to be a source
abbrev pub SourceOutcome : List ℕ → Outcome Proc → Type 0
SourceOutcome text = IsOutcome source (judge_source text) text

-- the outcome of a text that is to be a condition over names
abbrev pub ConditionOutcome : List (List ℕ) → List ℕ → Outcome (List (List Atom)) → Type 0
ConditionOutcome names text = IsOutcome cond (judge_condition names text) text

-- a refusal with its line and column: want of memory stands at 0:0, each other at its byte's offset
abbrev pub IsRefusal : {A : Type 0} → (Outcome A → Type 0) → List ℕ → ℕ → ℕ → Kind → Type 0
IsRefusal Of text line col k.NoMemory = (line ≡ 0) × (col ≡ 0)
IsRefusal Of text line col kind =
    (at : ℕ) × Of (refuses (fault kind at)) × (line ≡ line_at text at) × (col ≡ column_at text at)
