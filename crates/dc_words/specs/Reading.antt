-- Which words have a reading, and what they ask for.
use Rattle.std.specs.Prelude.{◌≡◌, ◌↔◌, ◌≤◌, ℕ, Bool, true, false, List, [], ◌∷◌, Option, Some, None, option_map, slice_get, codes, if◌then◌else◌}
use Rattle.std.specs.String.{string_bytes}
use Rattle.std.specs.Str.{bytes_eq}
use Rattle.std.specs.Option.{option_map_or}
use Rattle.clap.specs.Walk.{Row, Text, first_of, one_of}
use Rattle.clap.specs.Simple.{App}
use Rattle.dc_cert.specs.declared.certificate.Settings.{Settings}
use Rattle.dc_cert.specs.Settings.{AreSettings}
use Rattle.dc_words.specs.Rules.{analyse, check, sample}
use Rattle.dc_words.specs.Taken.{takes_line, line_rows, number_of}
use Rattle.dc_words.specs.declared.Words.{Words}
use Rattle.dc_words.specs.declared.Words.TheVariants.{Analyse, Check, Sample}

-- ---- readings

-- what words ask for, in bytes and numbers: a command with its arguments
pub data Reading : Type 0 where
  for_analyse : (new old : Text) (when : Option Text) (settings : Settings) → Reading
  for_check : (new old cert : Text) (when : Option Text) → Reading
  for_sample : (seed count : ℕ) → Reading

-- of a value of the program
abbrev pub reading_of : Words → Reading
reading_of (Analyse new_name old_name when settings) =
    for_analyse (string_bytes new_name) (string_bytes old_name) (option_map string_bytes when)
    settings
reading_of (Check new_name old_name cert_name when) =
    for_check (string_bytes new_name) (string_bytes old_name) (string_bytes cert_name)
    (option_map string_bytes when)
reading_of (Sample seed count) = for_sample seed count

-- ---- commands: a further one is a line more in each of these

pub data Command : Type 0 where
  to_analyse : Command
  to_check : Command
  to_sample : Command

-- the first word
abbrev pub name_of : Command → Text
name_of to_analyse = codes "analyse"
name_of to_check = codes "check"
name_of to_sample = codes "sample"

-- what `clap` reads after it
abbrev pub clap_of : Command → App
clap_of to_analyse = analyse
clap_of to_check = check
clap_of to_sample = sample

-- the command that the first word names
abbrev pub command_of : List Text → Option Command
command_of [] = None
command_of (word ∷ rest) =
    if bytes_eq word (name_of to_analyse) then Some to_analyse
    else if bytes_eq word (name_of to_check) then Some to_check
    else if bytes_eq word (name_of to_sample) then Some to_sample
    else None

-- ---- which words have a reading

-- the first word names a command, and the command takes the rest
abbrev pub takes_words : List Text → Bool
takes_words words =
    option_map_or (λ command. takes_line (clap_of command) words) (command_of words) false

-- ---- values

-- the argument's value is this number
abbrev pub IsNumberOf : Text → List Row → ℕ → Type 0
IsNumberOf id rows n = option_map number_of (one_of id rows) ≡ Some n

-- and it lies in its range
abbrev pub IsNumberIn : ℕ → ℕ → Text → List Row → ℕ → Type 0
IsNumberIn low high id rows n = IsNumberOf id rows n × (low ≤ n) × (n ≤ high)

abbrev pub row_name : Bool → Text
row_name pairs = if pairs then codes "pairs" else codes "intervals"

-- how a bound is sought
pub record IsSettings (rows : List Row) (s : Settings) : Type 0 where
  pub degree_is : IsNumberOf (codes "degree") rows s.degree
  pub products_is : IsNumberOf (codes "products") rows s.products
  pub pairs_is : first_of (codes "rows") rows ≡ Some (row_name s.pairs)
  pub pivots_is : IsNumberOf (codes "pivots") rows s.pivots
  pub limits : AreSettings s

-- ---- what the matches of a command ask for

abbrev pub IsAnalyse : List Row → Reading → Type 0
IsAnalyse rows (for_analyse new old when s) =
    (first_of (codes "NEW") rows ≡ Some new)
    × (first_of (codes "OLD") rows ≡ Some old)
    × (first_of (codes "when") rows ≡ when)
    × IsSettings rows s
IsAnalyse rows _ = ⊥

abbrev pub IsCheck : List Row → Reading → Type 0
IsCheck rows (for_check new old cert when) =
    (first_of (codes "NEW") rows ≡ Some new)
    × (first_of (codes "OLD") rows ≡ Some old)
    × (first_of (codes "CERT") rows ≡ Some cert)
    × (first_of (codes "when") rows ≡ when)
IsCheck rows _ = ⊥

abbrev pub IsSample : List Row → Reading → Type 0
IsSample rows (for_sample seed count) =
    IsNumberIn 0 2147483647 (codes "SEED") rows seed × IsNumberIn 1 8 (codes "COUNT") rows count
IsSample rows _ = ⊥

abbrev pub IsAsked : Command → List Row → Reading → Type 0
IsAsked to_analyse rows read = IsAnalyse rows read
IsAsked to_check rows read = IsCheck rows read
IsAsked to_sample rows read = IsSample rows read

-- ---- the reading

-- the first word names the command, which takes the words, and they ask for what its matches say
pub record IsLine (command : Command) (words : List Text) (read : Reading) : Type 0 where
  pub named : slice_get words 0 ≡ Some (name_of command)
  pub taken : takes_line (clap_of command) words ≡ true
  pub asked : IsAsked command (line_rows (clap_of command) words) read

-- what the words ask for
abbrev pub IsReading : List Text → Reading → Type 0
IsReading words read = (command : Command) × IsLine command words read

-- the words have one reading at most
abbrev pub HaveOneReading : List Text → Type 0
HaveOneReading words = (a b : Reading) → IsReading words a → IsReading words b → a ≡ b

-- the words have a reading exactly where a command takes them
abbrev pub HaveSomeReading : List Text → Type 0
HaveSomeReading words = takes_words words ≡ true ↔ (read : Reading) × IsReading words read
