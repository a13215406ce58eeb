-- What the steps of a command come to.
use Rattle.std.specs.Prelude.{◌≡◌, ℕ, ◌≤◌, List, [], false, Option}
use Rattle.std.specs.String.{string_bytes}
use Rattle.dc_lines.specs.Bytes.{Bytes}
use Rattle.dc_lp.specs.Meanings.{Meaning}
use Rattle.dc_cert.specs.Settings.{AreSettings}
use Rattle.dc_words.specs.Reading.{Reading, for_analyse, for_check, for_sample, takes_words, IsReading}
use Rattle.dc_answers.specs.declared.refusal.Refusal.{Refusal}
use Rattle.dc_answers.specs.declared.refusal.Refusal.TheVariants.{Usage, Unread, Unwritten, NoMemory}
use Rattle.dc_answers.specs.Ends.{output, End, Printed, Refused, files_of, ReadingEnds}
use Rattle.dc_answers.specs.Outside.{File, Visit}
use Rattle.dc_answers.specs.Promise.{IsLeft}
use Rattle.dc_cli.specs.Fetched.{IsFetched, IsStopped}

-- ---- texts
-- why a step over texts refuses, where `Of` says which ends these have
abbrev pub IsRefusedBy : (End → Type 0) → Refusal → Type 0
IsRefusedBy Of NoMemory = Unit {0}
IsRefusedBy Of (Unread name) = ⊥
IsRefusedBy Of Unwritten = ⊥
IsRefusedBy Of Usage = ⊥
IsRefusedBy Of refusal = Of (Refused refusal)

-- ---- commands
-- the output that the texts of files have, where these were handed out
pub record IsOutput (v : Visit) (files : List File) (Of : List Bytes → End → Type 0)
    (left : Meaning) (n : ℕ) (bytes : Bytes)
    : Type 0 where
  pub texts : List Bytes
  pub fetched : IsFetched v files texts
  pub rest : Option Meaning
  pub due : Of texts (Printed (output n bytes rest))
  pub is_left : IsLeft rest left

-- why there is none
abbrev pub IsRefused : Visit → List File → (List Bytes → End → Type 0) → Refusal → Type 0
IsRefused v files Of NoMemory = Unit {0}
IsRefused v files Of (Unread name) = IsStopped v files (string_bytes name)
IsRefused v files Of Unwritten = ⊥
IsRefused v files Of Usage = ⊥
IsRefused v files Of refusal =
    (texts : List Bytes) × IsFetched v files texts × Of texts (Refused refusal)

-- ---- what words ask for
-- numbers that the command takes
abbrev pub IsInRange : Reading → Type 0
IsInRange (for_analyse new old when s) = AreSettings s
IsInRange (for_check new old cert when) = Unit {0}
IsInRange (for_sample seed n) = (seed ≤ 2147483647) × (1 ≤ n) × (n ≤ 8)

abbrev pub IsOutputOf : Visit → Reading → Meaning → ℕ → Bytes → Type 0
IsOutputOf v read left n bytes = IsOutput v (files_of read) (ReadingEnds read) left n bytes

abbrev pub IsRefusedOf : Visit → Reading → Refusal → Type 0
IsRefusedOf v read refusal = IsRefused v (files_of read) (ReadingEnds read) refusal

-- of words: those that are no command ask for no file
abbrev pub IsOutputFor : Visit → List Bytes → Meaning → ℕ → Bytes → Type 0
IsOutputFor v words left n bytes =
    (read : Reading) × IsReading words read × IsOutputOf v read left n bytes

abbrev pub IsRefusedFor : Visit → List Bytes → Refusal → Type 0
IsRefusedFor v words Usage = (takes_words words ≡ false) × v.HandedOut [] []
IsRefusedFor v words NoMemory = Unit {0}
IsRefusedFor v words refusal = (read : Reading) × IsReading words read × IsRefusedOf v read refusal
