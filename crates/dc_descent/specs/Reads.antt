-- What the parts of the parser answer, by the reader of the language.
use Rattle.std.specs.Prelude.{List, Result, Ok, Err}
use Rattle.dc_tokens.specs.declared.token.TokenKind.{TokenKind}
use Rattle.dc_tokens.specs.declared.token.Token.{Token}
use Rattle.dc_grammar.specs.Grammar.{Rule, Tree, leaf}
use Rattle.dc_grammar.specs.Language.{Name}
use Rattle.dc_grammar.specs.Reading.{Parses, ok, fail}
use Rattle.dc_grammar.specs.Readers.{language_reader}
use Rattle.dc_descent.specs.declared.cursor.Stop.{Stop}
use Rattle.dc_descent.specs.declared.cursor.Stop.TheVariants.{Syntax, NoMemory}

-- why a part stopped at the tokens old, where new are those that it left
pub data Stops : Rule TokenKind Name → List Token → Stop → List Token → Type 0 where
  syntax : {r : Rule TokenKind Name} {old new : List Token}
      → Parses language_reader r old (fail new) → Stops r old Syntax new
  memory : {r : Rule TokenKind Name} {old new : List Token} → Stops r old NoMemory new

-- what a part answered at the tokens old, where new are those that it left
abbrev pub Reads : {X : Type 0} → Rule TokenKind Name → (Tree Token → X → Type 0) → List Token
    → Result X Stop → List Token → Type 0
Reads r Is old (Ok x) new = (a : Tree Token) × Parses language_reader r old (ok a new) × Is a x
Reads r Is old (Err e) new = Stops r old e new

-- what a part of one token answered
abbrev pub Takes : Rule TokenKind Name → List Token → Result Token Stop → List Token → Type 0
Takes r old (Ok t) new = Parses language_reader r old (ok (leaf t) new)
Takes r old (Err e) new = Stops r old e new
