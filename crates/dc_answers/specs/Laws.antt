-- Words and texts have one answer, and an output means what the headline says.
use Rattle.std.specs.Prelude.{◌≡◌, List, Option, None}
use Rattle.dc_lines.specs.Bytes.{Bytes}
use Rattle.dc_cert.specs.declared.certificate.Settings.{Settings}
use Rattle.dc_cert.specs.declared.certificate.Certificate.{Certificate}
use Rattle.dc_cert.specs.Claims.{claim_of}
use Rattle.dc_words.specs.Reading.{Reading, IsReading}
use Rattle.dc_certtext.specs.Limits.{HasText}
use Rattle.dc_answers.specs.Statuses as status
use Rattle.dc_answers.specs.Outside.{File}
use Rattle.dc_answers.specs.Ends.{Output, output, End, Printed, Names, Answers, AnalyseEnds, CheckEnds}
use Rattle.dc_answers.specs.Claims.{accepted_text}
use Rattle.dc_answers.specs.Headline.{Means}

-- words name one list of files, and with the texts of these they have one answer: so status, bytes
-- and line, and where the lent tableau is left, are a function of the words and the texts
abbrev pub OneList : Type 0
OneList =
    (words : List Bytes) (files more : List File) → Names words files → Names words more
    → files ≡ more

abbrev pub OneAnswer : Type 0
OneAnswer =
    (words texts : List Bytes) (a b : End) → Answers words texts a → Answers words texts b → a ≡ b

-- what is printed means what the headline says
pub record HasMeaning (words texts : List Bytes) (o : Output) : Type 0 where
  pub read : Reading
  pub asked : IsReading words read
  pub means : Means read texts o.status o.bytes

abbrev pub OutputsMean : Type 0
OutputsMean =
    (words texts : List Bytes) (o : Output) → Answers words texts (Printed o)
    → HasMeaning words texts o

-- what `analyse` prints, `check` accepts on the same texts
pub record IsAccepted (x y z : Bytes) (when : Option Bytes) : Type 0 where
  pub certificate : Certificate
  pub text : HasText certificate z
  pub ends : CheckEnds x y z when
      (Printed (output status.accepted (accepted_text (claim_of certificate.body)) None))

abbrev pub PrintedIsAccepted : Type 0
PrintedIsAccepted = (x y : Bytes) (when : Option Bytes) (s : Settings) (o : Output)
    → AnalyseEnds x y when s (Printed o) → IsAccepted x y o.bytes when
