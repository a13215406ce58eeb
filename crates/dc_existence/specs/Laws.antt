-- Words and texts have an answer, and a generated pair is never wrong.
use Rattle.std.specs.Prelude.{◌≡◌, ℕ, ◌≤◌, List, length}
use Rattle.dc_lines.specs.Bytes.{Bytes}
use Rattle.dc_answers.specs.declared.refusal.Text.{Text}
use Rattle.dc_answers.specs.declared.refusal.Wrong.{Wrong}
use Rattle.dc_answers.specs.declared.refusal.Refusal.TheVariants.{Source, NoMemory}
use Rattle.dc_answers.specs.Outside.{File}
use Rattle.dc_answers.specs.Ends.{End, Refused, Names, Answers, SampleEnds}

-- words name some list of files: what they ask for names it, and words that are no command name none
abbrev pub HasNames : Type 0
HasNames = (words : List Bytes) → (files : List File) × Names words files

-- for words, the files that they name, and as many texts there is an answer, whatever the texts are
abbrev pub HasAnswer : Type 0
HasAnswer = (words : List Bytes) (files : List File) (texts : List Bytes)
    → Names words files → length texts ≡ length files → (end : End) × Answers words texts end

-- it is never want of memory
abbrev pub WantIsNoAnswer : Type 0
WantIsNoAnswer = (words texts : List Bytes) → ¬ Answers words texts (Refused NoMemory)

-- of a generated pair of at most eight loops no text is wrong
abbrev pub SamplesAreSound : Type 0
SamplesAreSound = (seed count : ℕ) (at : Text) (w : Wrong)
    → count ≤ 8 → ¬ SampleEnds seed count (Refused (Source at w))
