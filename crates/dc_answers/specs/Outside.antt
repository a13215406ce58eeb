-- What a call sees of its store and its sinks, before and after.
use Rattle.std.specs.Prelude.{◌≡◌, ◌⊎◌, ℕ, ◌<◌, List, [], ◌∷◌, length, take, Option, Some, Ok, Err}
use Rattle.std.specs.declared.alloc.Global.{Global}
use Rattle.std.specs.declared.vec.Vec.{Vec}
use Rattle.dc_host.specs.Outside.{Files, Answer, Rose, IsTextOf, IsAbsent, appended}
use Rattle.dc_host.specs.declared.store.StoreFault.TheVariants.{Missing, Failed}
use Rattle.dc_lines.specs.Bytes.{Bytes}

-- a file that is wanted, and how many bytes its text has at most; one more is asked for, so that a
-- longer one shows
pub record File : Type 0 where
  pub name : Bytes
  pub limit : ℕ

abbrev pub file : Bytes → ℕ → File
file name n = record { name = name; limit = n }

abbrev pub source_limit : ℕ
source_limit = 65536

-- ---- the calls of a store, in order
-- which calls a kind of store answers how: the store before, the name, the limit, the answer, the
-- store after
abbrev pub Calls : Type 0 → Type 1
Calls S = S → Bytes → ℕ → Answer → S → Type 0

-- a call handed out this text
abbrev pub Gives : {S : Type 0} → Calls S → S → S → File → Bytes → Type 0
Gives call before after f text =
    (v : Vec ℕ Global) × (v.items ≡ text) × call before f.name f.limit (Ok v) after

-- a call handed out none, and not for want of memory
abbrev pub Denies : {S : Type 0} → Calls S → S → S → File → Type 0
Denies call before after f =
    call before f.name f.limit (Err Missing) after ⊎ call before f.name f.limit (Err Failed) after

-- each file was asked for in its turn, nothing else was, and these texts were handed out
abbrev pub HandsOut : {S : Type 0} → Calls S → S → S → List File → List Bytes → Type 0
HandsOut call before after [] [] = before ≡ after
HandsOut {S} call before after (f ∷ fs) (x ∷ xs) =
    (middle : S) × Gives call before middle f x × HandsOut call middle after fs xs
HandsOut call before after fs xs = ⊥

-- the files before one of this name were handed out in their turn, it was not, and nothing was
-- asked for after it
abbrev pub Stops : {S : Type 0} → Calls S → S → S → List File → Bytes → Type 0
Stops call before after [] name = ⊥
Stops {S} call before after (f ∷ fs) name =
    ((name ≡ f.name) × Denies call before after f)
    ⊎ ((middle : S) × (x : Bytes) × Gives call before middle f x × Stops call middle after fs name)

-- ---- what was seen of a store
-- its files, where they are told, its faults before and after, and its calls
pub record Visit : Type 1 where
  pub files : Option Files
  pub faults : ℕ
  pub later : ℕ
  pub HandedOut : List File → List Bytes → Type 0
  pub StoppedAt : List File → Bytes → Type 0

abbrev pub visit_of : {S : Type 0} → (S → Option Files) → (S → ℕ) → Calls S → S → S → Visit
visit_of files count call before after = record {
  files = files before;
  faults = count before;
  later = count after;
  HandedOut = HandsOut call before after;
  StoppedAt = Stops call before after;
}

-- ---- what was seen of a sink: its bytes, where they are told, and its faults, before and after
pub record Stream : Type 0 where
  pub before : Option Bytes
  pub after : Option Bytes
  pub faults : ℕ
  pub later : ℕ

abbrev pub stream_of : {O : Type 0} → (O → Option Bytes) → (O → ℕ) → O → O → Stream
stream_of written count old new =
    record { before = written old; after = written new; faults = count old; later = count new }

-- bytes were added
abbrev pub Gains : Stream → Bytes → Type 0
Gains s xs = s.after ≡ appended s.before xs

-- a proper prefix of bytes was added, and the faults rose
abbrev pub GainsPart : Stream → Bytes → Type 0
GainsPart s xs = Rose s.faults s.later × (k : ℕ) × (k < length xs) × Gains s (take k xs)

-- a line was said, as far as the sink took it
abbrev pub IsSaid : Stream → Bytes → Type 0
IsSaid s line = Gains s line ⊎ GainsPart s line

-- ---- the whole
pub record Outside : Type 1 where
  pub words : List Bytes
  pub store : Visit
  pub out : Stream
  pub err : Stream

abbrev pub outside : List Bytes → Visit → Stream → Stream → Outside
outside words store out err = record { words = words; store = store; out = out; err = err }

-- ---- the texts of files
-- the texts are those of the files, where these are told
abbrev pub AreTexts : Option Files → List File → List Bytes → Type 0
AreTexts told [] [] = Unit {0}
AreTexts told (f ∷ fs) (x ∷ xs) = IsTextOf told f.name f.limit x × AreTexts told fs xs
AreTexts told fs xs = ⊥

-- the files are told, or there are none, and have these texts
abbrev pub AreTold : Option Files → List File → List Bytes → Type 0
AreTold told [] [] = Unit {0}
AreTold (Some files) (f ∷ fs) (x ∷ xs) =
    IsTextOf (Some files) f.name f.limit x × AreTold (Some files) fs xs
AreTold told fs xs = ⊥

-- one of the files isn't there
abbrev pub IsMissing : Option Files → List File → Type 0
IsMissing told [] = ⊥
IsMissing told (f ∷ fs) = IsAbsent told f.name ⊎ IsMissing told fs

-- the first file of which no text was handed out has this name: a fault was counted, or it isn't there
abbrev pub IsFirstUnread : Option Files → Type 0 → List File → Bytes → Type 0
IsFirstUnread told IsCounted [] name = ⊥
IsFirstUnread told IsCounted (f ∷ fs) name =
    ((name ≡ f.name) × (IsCounted ⊎ IsAbsent told f.name))
    ⊎ ((x : Bytes) × IsTextOf told f.name f.limit x × IsFirstUnread told IsCounted fs name)
