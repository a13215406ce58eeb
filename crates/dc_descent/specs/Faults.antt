-- What is wrong first in a text, by the kind of the fault and the offset of its byte: the names, and
-- the verdict of the grammar.
use Rattle.std.specs.Prelude.{ℕ, leb, if◌then◌else◌, List, [], ◌∷◌, ◌++◌, length, drop, Some, None}
use Rattle.std.specs.declared.option.Option.{Option}
use Rattle.std.specs.Option.{option_or}
use Rattle.dc_tokens.specs.declared.token.TokenKind.TheVariants as k
use Rattle.dc_tokens.specs.declared.token.Token.{Token}
use Rattle.dc_grammar.specs.Kinds.{is}
use Rattle.dc_grammar.specs.Verdicts.{Verdict, whole, unexpected, unclosed, too_deep}
use Rattle.dc_syntax.specs.Names.{has_name, place_of}
use Rattle.dc_descent.specs.declared.fault.Kind.{Kind}
use Rattle.dc_descent.specs.declared.fault.Kind.TheVariants as f
use Rattle.dc_descent.specs.declared.fault.Fault.{Fault}
use Rattle.dc_descent.specs.Scopes.{spelled}
use Rattle.dc_descent.specs.Statements.{head_at}

abbrev pub fault : Kind → ℕ → Fault
fault j n = record { kind = j; at = n }

-- ---- names

-- of the names that these tokens declare, after the names before: the 11th, also where it repeats,
-- or one that was declared before
abbrev pub declared_fault : List ℕ → List (List ℕ) → List Token → Option Fault
declared_fault text before [] = None
declared_fault text before (t ∷ ts) =
    if leb 10 (length before) then Some (fault f.TooManyNames t.at)
    else (if has_name before (spelled text t) then Some (fault f.NameTwice t.at)
    else declared_fault text (before ++ spelled text t ∷ []) ts)

-- a name without a place is not declared
abbrev pub missing : Option ℕ → ℕ → Option Fault
missing None at = Some (fault f.UnknownName at)
missing (Some place) at = None

abbrev pub unknown : List ℕ → List (List ℕ) → Token → Option Fault
unknown text names t =
    if is k.Name t.kind then missing (place_of names (spelled text t)) t.at else None

-- of the names among these tokens: the first that isn't declared
abbrev pub used_fault : List ℕ → List (List ℕ) → List Token → Option Fault
used_fault text names [] = None
used_fault text names (t ∷ ts) = option_or (unknown text names t) (used_fault text names ts)

-- ---- the grammar

-- the offset of the token at this index
abbrev pub offset_at : List Token → ℕ → ℕ
offset_at ts n = head_at (drop n ts)

-- the fault of a verdict, where the text ends at this offset; none where the tokens are a text
abbrev pub verdict_fault : List Token → ℕ → Verdict Token → Option Fault
verdict_fault ts end (whole a) = None
verdict_fault ts end (unexpected n) = Some (fault f.Unexpected (offset_at ts n))
verdict_fault ts end unclosed = Some (fault f.Unclosed end)
verdict_fault ts end (too_deep n) = Some (fault f.TooDeep (offset_at ts n))
