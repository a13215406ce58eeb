-- What a parse that succeeds holds of an argument.
use Rattle.std.specs.Prelude.{◌≡◌, true, List, [], ◌∷◌, Some}
use Rattle.clap.specs.Walk.{Rule, Text}
use Rattle.clap.specs.Matches.{first_value, one_text}
use Rattle.clap.specs.Values.{Accepts, read_as, reading_of}
use Rattle.clap.specs.declared.builder.value_parser.ValueParser.{ValueParser}
use Rattle.clap.specs.declared.parser.matches.Found.{Found}
use Rattle.dc_words.specs.Rules.{is_sure}

-- the argument has a text, which passed its parser and is read as that parser says
pub record IsHeld (found : Found) (rule : Rule) : Type 0 where
  pub text : Text
  pub first : first_value found rule.id ≡ Some text
  pub one : (parser : ValueParser) → rule.parser ≡ Some parser
      → one_text found rule.id ≡ Some (read_as (reading_of parser) text)
  pub passes : (parser : ValueParser) → rule.parser ≡ Some parser
      → Accepts rule.ignore_case parser text

-- each argument that is sure of a value has one
abbrev pub IsFilled : Found → List Rule → Type 0
IsFilled found [] = Unit {0}
IsFilled found (rule ∷ rest) = (is_sure rule ≡ true → IsHeld found rule) × IsFilled found rest
