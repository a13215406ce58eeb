-- What a text says, or what is wrong with it first: the one specification of the parsers.
use Rattle.std.specs.Prelude.{◌≡◌, ℕ, ◌<◌, ◌≤◌, List, length, Some, None}
use Rattle.std.specs.declared.option.Option.{Option}
use Rattle.dc_tokens.specs.declared.token.Token.{Token}
use Rattle.dc_tokens.specs.declared.token.LexFault.{LexFault}
use Rattle.dc_tokens.specs.declared.token.LexFault.TheVariants as l
use Rattle.dc_tokens.specs.Texts.{Tokens, Fails}
use Rattle.dc_grammar.specs.Grammar.{Tree}
use Rattle.dc_grammar.specs.Language.{Name, language}
use Rattle.dc_grammar.specs.Depth.{IsDeep}
use Rattle.dc_grammar.specs.Verdicts.{Verdict, whole, Finds}
use Rattle.dc_parse.specs.declared.fault.Fault.{Fault}
use Rattle.dc_parse.specs.declared.fault.Kind.TheVariants as k
use Rattle.dc_parse.specs.Faults.{fault, verdict_fault}

pub data Outcome (A : Type 0) : Type 0 where
  -- the text says this
  says : A → Outcome A
  -- this is wrong first
  refuses : Fault → Outcome A

-- the fault of a text that has no tokens
abbrev pub lexed : LexFault → Fault
lexed (l.NotAscii p) = fault k.NotAscii p
lexed (l.BadCharacter p) = fault k.BadCharacter p
lexed (l.LiteralTooWide p) = fault k.LiteralTooWide p
lexed l.NoMemory = fault k.NoMemory 0

-- the outcome of a text that is to be a text of the name x, where `judge` tells the outcome of its
-- derivation: too long a text, then what is wrong with its bytes, then with its tokens by the
-- grammar, and then what the derivation says
pub data IsOutcome {A : Type 0} (x : Name) (judge : Tree Token → Outcome A) (text : List ℕ)
    (o : Outcome A) : Type 0 where
  too_long : 65536 < length text → o ≡ refuses (fault k.TooLong 0) → IsOutcome x judge text o
  bytes : length text ≤ 65536 → (e : LexFault) → Fails 0 text e → o ≡ refuses (lexed e)
      → IsOutcome x judge text o
  grammar : length text ≤ 65536 → (ts : List Token) → Tokens 0 text ts → (v : Verdict Token)
      → Finds language IsDeep x ts v
      → (f : Fault) → verdict_fault ts (length text) v ≡ Some f → o ≡ refuses f
      → IsOutcome x judge text o
  tree : length text ≤ 65536 → (ts : List Token) → Tokens 0 text ts → (a : Tree Token)
      → Finds language IsDeep x ts (whole a) → o ≡ judge a → IsOutcome x judge text o

-- a fault comes first, where there is one
abbrev pub first_of : {A : Type 0} → Option Fault → Outcome A → Outcome A
first_of (Some f) o = refuses f
first_of None o = o

-- a text has one outcome
pub record HasOneOutcome {A : Type 0} (x : Name) (judge : Tree Token → Outcome A)
    (text : List ℕ) : Type 0 where
  pub some : (o : Outcome A) × IsOutcome x judge text o
  pub one : (o p : Outcome A) → IsOutcome x judge text o → IsOutcome x judge text p → o ≡ p
