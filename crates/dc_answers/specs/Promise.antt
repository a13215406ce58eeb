-- What a call of the program is promised to do, over any store and any sinks.
use Rattle.std.specs.Prelude.{◌≡◌, ◌⊎◌, ℕ, ◌≤◌, List, [], ◌∷◌, Option, Some, None}
use Rattle.std.specs.String.{string_bytes}
use Rattle.dc_host.specs.Outside.{Rose}
use Rattle.dc_lines.specs.Bytes.{Bytes}
use Rattle.dc_lp.specs.Meanings.{Meaning}
use Rattle.dc_words.specs.Reading.{Reading, IsReading}
use Rattle.dc_answers.specs.declared.refusal.Refusal.{Refusal}
use Rattle.dc_answers.specs.declared.refusal.Refusal.TheVariants.{Unread, Unwritten, NoMemory}
use Rattle.dc_answers.specs.Statuses as status
use Rattle.dc_answers.specs.Lines.{status_of, line_of}
use Rattle.dc_answers.specs.Ends.{Output, End, Printed, Refused, Names, Answers}
use Rattle.dc_answers.specs.Outside.{File, Outside, Visit, Gains, GainsPart, IsSaid, AreTexts, AreTold, IsMissing, IsFirstUnread}
use Rattle.dc_answers.specs.Headline.{Means}

-- ---- the texts that the store handed out for the files that the words name
pub record AreHandedOut (o : Outside) (texts : List Bytes) : Type 0 where
  pub files : List File
  pub named : Names o.words files
  pub given : o.store.HandedOut files texts
  pub theirs : AreTexts o.store.files files texts

-- ---- 1. the headline
-- with status 0, 1 or 2 bytes were added to the output that mean, of the texts that were handed
-- out, what the headline says
pub record SaysHeadline (o : Outside) (n : ℕ) : Type 0 where
  pub read : Reading
  pub asked : IsReading o.words read
  pub texts : List Bytes
  pub handed : AreHandedOut o texts
  pub bytes : Bytes
  pub added : Gains o.out bytes
  pub means : Means read texts n bytes

abbrev pub IsAnswered : ℕ → Type 0
IsAnswered n = n ≤ status.vacuous

-- ---- 2. causes
-- a command that analyses leaves the lent tableau where the run of the main problem ends
abbrev pub IsLeft : Option Meaning → Meaning → Type 0
IsLeft None left = Unit {0}
IsLeft (Some m) left = left ≡ m

-- what was printed: the output that the words and the texts have, whole
pub record Prints (o : Outside) (left : Meaning) (n : ℕ) : Type 0 where
  pub texts : List Bytes
  pub handed : AreHandedOut o texts
  pub output : Output
  pub due : Answers o.words texts (Printed output)
  pub status_is : n ≡ output.status
  pub added : Gains o.out output.bytes
  pub rest : IsLeft output.rest left

-- why a text was not handed out
pub record IsUnread (o : Outside) (name : Bytes) : Type 0 where
  pub files : List File
  pub named : Names o.words files
  pub stopped : o.store.StoppedAt files name
  pub first : IsFirstUnread o.store.files (Rose o.store.faults o.store.later) files name

-- a proper prefix of the output that is due was added
pub record IsCut (o : Outside) : Type 0 where
  pub texts : List Bytes
  pub handed : AreHandedOut o texts
  pub output : Output
  pub due : Answers o.words texts (Printed output)
  pub part : GainsPart o.out output.bytes

-- the refusal that the words and the texts have
pub record IsDue (o : Outside) (refusal : Refusal) : Type 0 where
  pub texts : List Bytes
  pub handed : AreHandedOut o texts
  pub due : Answers o.words texts (Refused refusal)

-- want of memory is free
abbrev pub HasCause : Outside → Refusal → Type 0
HasCause o (Unread name) = IsUnread o (string_bytes name)
HasCause o Unwritten = IsCut o
HasCause o NoMemory = Unit {0}
HasCause o refusal = IsDue o refusal

-- what was refused and why: a refusal that has its cause, with its own status, and its line was said
pub record Refuses (o : Outside) (n : ℕ) : Type 0 where
  pub refusal : Refusal
  pub status_is : n ≡ status_of refusal
  pub cause : HasCause o refusal
  pub line : IsSaid o.err (line_of refusal)

-- ---- 3. completeness
-- no fault of the store was counted, or no file is wanted
abbrev pub IsCalm : Visit → List File → Type 0
IsCalm store [] = Unit {0}
IsCalm store (f ∷ fs) = ¬ Rose store.faults store.later

-- a refusal ends with its status, an output with its own and with its bytes, where no fault of the
-- output was counted
abbrev pub IsEnd : Outside → ℕ → End → Type 0
IsEnd o n (Refused refusal) = n ≡ status_of refusal
IsEnd o n (Printed output) =
    ¬ Rose o.out.faults o.out.later → (n ≡ output.status) × Gains o.out output.bytes

-- where the files are told and no fault is counted, the call comes to the answer of the words and
-- texts, or memory ran out
abbrev pub Completes : Outside → ℕ → Type 0
Completes o n = (files : List File) (texts : List Bytes) (end : End) → Names o.words files
    → AreTold o.store.files files texts → IsCalm o.store files → Answers o.words texts end
    → IsEnd o n end ⊎ (n ≡ status.no_memory)

-- where a file that the words name isn't there, that is the end
abbrev pub FindsMissing : Outside → ℕ → Type 0
FindsMissing o n = (files : List File) → Names o.words files → IsMissing o.store.files files
    → (n ≡ status.read_fault) ⊎ (n ≡ status.no_memory)

-- ---- 4. premises
-- All of this is said of the texts that the store handed out and of the bytes that the sinks took,
-- as far as they tell them. Over real files and streams, which tell neither, it is read so: of the
-- bytes that the system gave and took.
