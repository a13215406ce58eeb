-- What fetching files comes to.
use Rattle.std.specs.Prelude.{◌≡◌, List}
use Rattle.std.specs.String.{string_bytes}
use Rattle.dc_host.specs.Outside.{Rose}
use Rattle.dc_lines.specs.Bytes.{Bytes}
use Rattle.dc_answers.specs.declared.refusal.Refusal.{Refusal}
use Rattle.dc_answers.specs.declared.refusal.Refusal.TheVariants.{Unread, NoMemory}
use Rattle.dc_answers.specs.Outside.{File, Visit, AreTexts, IsFirstUnread}

-- texts were handed out for files, and are theirs
pub record IsFetched (v : Visit) (files : List File) (texts : List Bytes) : Type 0 where
  pub given : v.HandedOut files texts
  pub theirs : AreTexts v.files files texts

pub record IsStopped (v : Visit) (files : List File) (name : Bytes) : Type 0 where
  pub stopped : v.StoppedAt files name
  pub first : IsFirstUnread v.files (Rose v.faults v.later) files name

-- why a step that fetches files refuses
abbrev pub IsUnfetched : Visit → List File → Refusal → Type 0
IsUnfetched v files NoMemory = Unit {0}
IsUnfetched v files (Unread name) = IsStopped v files (string_bytes name)
IsUnfetched v files refusal = ⊥

-- the refusal of a file: it has its name, or memory ran out for that
abbrev pub IsUnreadOf : Bytes → Refusal → Type 0
IsUnreadOf name NoMemory = Unit {0}
IsUnreadOf name (Unread at) = string_bytes at ≡ name
IsUnreadOf name refusal = ⊥
