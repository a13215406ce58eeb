-- What is wrong first in a text, over all phases, by the kind of the fault and the offset of its
-- byte. The faults of the tokens and of the names are those that the descent tells.
use Rattle.std.specs.Prelude.{ℕ, List}
use Rattle.std.specs.declared.option.Option.{Option}
use Rattle.std.specs.Option.{option_map}
use Rattle.dc_tokens.specs.declared.token.Token.{Token}
use Rattle.dc_grammar.specs.Verdicts.{Verdict}
use Rattle.dc_descent.specs.declared.fault.Kind.{Kind as DescentKind}
use Rattle.dc_descent.specs.declared.fault.Kind.TheVariants as d
use Rattle.dc_descent.specs.declared.fault.Fault.{Fault as DescentFault}
use Rattle.dc_descent.specs.Faults as descent
use Rattle.dc_descent.specs.Sources as sources
use Rattle.dc_descent.specs.Sources.{Parts}
use Rattle.dc_parse.specs.declared.fault.Kind.{Kind}
use Rattle.dc_parse.specs.declared.fault.Kind.TheVariants as k
use Rattle.dc_parse.specs.declared.fault.Fault.{Fault}

abbrev pub fault : Kind → ℕ → Fault
fault j n = record { kind = j; at = n }

-- want of memory, which has no offset
abbrev pub want : Fault
want = fault k.NoMemory 0

-- the same fault among those of all phases
abbrev pub kind_of : DescentKind → Kind
kind_of d.Unexpected = k.Unexpected
kind_of d.Unclosed = k.Unclosed
kind_of d.TooDeep = k.TooDeep
kind_of d.TooManyNames = k.TooManyNames
kind_of d.NameTwice = k.NameTwice
kind_of d.UnknownName = k.UnknownName
kind_of d.NoMemory = k.NoMemory

abbrev pub raised : DescentFault → Fault
raised f = fault (kind_of f.kind) f.at

-- the fault of a verdict of the grammar, of the names of a source, and of the names that are used
abbrev pub verdict_fault : List Token → ℕ → Verdict Token → Option Fault
verdict_fault ts end v = option_map raised (descent.verdict_fault ts end v)

abbrev pub names_fault : List ℕ → Parts → Option Fault
names_fault text p = option_map raised (sources.names_fault text p)

abbrev pub used_fault : List ℕ → List (List ℕ) → List Token → Option Fault
used_fault text names ts = option_map raised (descent.used_fault text names ts)
