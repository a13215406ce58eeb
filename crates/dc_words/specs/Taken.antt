-- What a command makes of its words, in the words of `clap`, and how the values are read.
use Rattle.std.specs.Prelude.{◌≡◌, ◌<◌, ℕ, Bool, true, List, Some}
use Rattle.std.specs.Str.Parse.{IsNumeral, digits_value, without_leading_plus}
use Rattle.clap.specs.Walk.{Row, Text, rows_of, is_empty}
use Rattle.clap.specs.Simple.{App, matches_of}
use Rattle.clap.specs.Matches.{found_of, one_text}
use Rattle.clap.specs.Faults.{fault_of}
use Rattle.clap.specs.declared.parser.matches.ArgMatches.{ArgMatches}
use Rattle.clap.specs.declared.parser.matches.Found.{Found}
use Rattle.dc_words.specs.Held.{IsFilled}

-- `clap` has no fault to find with the words
unfoldable pub takes_line : App → List Text → Bool
takes_line app words = is_empty (fault_of app words)

-- the matches that `clap` states for the words
unfoldable pub line_rows : App → List Text → List Row
line_rows app words = matches_of app words

-- the matches are those that `clap` states for the words, which it takes
pub record IsTaken (app : App) (words : List Text) (m : ArgMatches) : Type 0 where
  pub taken : takes_line app words ≡ true
  pub rows : rows_of (found_of m) ≡ line_rows app words
  pub filled : IsFilled (found_of m) app.top.rules

-- ---- values

-- the number that a text of digits stands for, after a `+` that may stand before it
abbrev pub number_of : Text → ℕ
number_of text = digits_value 10 (without_leading_plus text)

-- the argument has a text that stands for a number below a bound
pub record IsNumber (found : Found) (id : Text) (bound : ℕ) : Type 0 where
  pub text : Text
  pub one : one_text found id ≡ Some text
  pub digits : IsNumeral 10 (without_leading_plus text)
  pub small : number_of text < bound
