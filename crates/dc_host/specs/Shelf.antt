-- What a store in memory holds, and what a call answers there.
use Rattle.std.specs.Prelude.{◌≡◌, ℕ, ◌+◌, List, [], take, Bool, true, false, None, Some, if◌then◌else◌, IsErrOf, MatchResult}
use Rattle.std.specs.Str.{bytes_eq}
use Rattle.std.specs.Option.{option_map}
use Rattle.std.specs.BTreeMap.{get_by_text}
use Rattle.std.specs.declared.alloc.Global.{Global}
use Rattle.std.specs.declared.vec.Vec.{Vec}
use Rattle.std.specs.declared.option.Option.{Option}
use Rattle.std.specs.declared.result.Result.{Result}
use Rattle.dc_host.specs.declared.store.StoreFault.{StoreFault}
use Rattle.dc_host.specs.declared.store.StoreFault.TheVariants.{Missing, Failed, NoMemory}
use Rattle.dc_host.specs.declared.mem_store.MemStore.{MemStore}
use Rattle.dc_host.specs.Outside.{Files, counted, is_listed}

-- the files, the numbers of the calls that fail, and how many calls and faults there were
pub record Shelf : Type 0 where
  pub files : Files
  pub failing : List ℕ
  pub calls : ℕ
  pub faults : ℕ

-- what a store holds
abbrev pub shelf_of : MemStore → Shelf
shelf_of s = record {
  files = λ name. option_map (λ v. v.items) (get_by_text s.files name);
  failing = s.failing.items;
  calls = s.calls;
  faults = s.faults;
}

-- no file, no call that fails, and nothing counted
pub record IsEmptyShelf (shelf : Shelf) : Type 0 where
  pub files : (name : List ℕ) → shelf.files name ≡ None
  pub failing : shelf.failing ≡ []
  pub calls : shelf.calls ≡ 0
  pub faults : shelf.faults ≡ 0

-- one file has these bytes now, and all else is as before
pub record Sets (old new : Shelf) (name bytes : List ℕ) : Type 0 where
  pub files : (q : List ℕ) → new.files q ≡ (if bytes_eq q name then Some bytes else old.files q)
  pub failing : new.failing ≡ old.failing
  pub calls : new.calls ≡ old.calls
  pub faults : new.faults ≡ old.faults

-- all is as before
pub record IsSame (old new : Shelf) : Type 0 where
  pub files : (q : List ℕ) → new.files q ≡ old.files q
  pub failing : new.failing ≡ old.failing
  pub calls : new.calls ≡ old.calls
  pub faults : new.faults ≡ old.faults

-- what a call answers, by whether it is listed and by the file of the name
abbrev pub IsAnswer : Bool → Option (List ℕ) → ℕ → Result (Vec ℕ Global) StoreFault → Type 0
IsAnswer true file limit answer = IsErrOf answer Failed
IsAnswer false None limit answer = IsErrOf answer Missing
IsAnswer false (Some whole) limit answer =
    MatchResult answer (λ v. v.items ≡ take (limit + 1) whole) (λ e. e ≡ NoMemory)

-- what the next call answers for a name
abbrev pub IsFetched : Shelf → List ℕ → ℕ → Result (Vec ℕ Global) StoreFault → Type 0
IsFetched shelf name limit answer =
    IsAnswer (is_listed (counted shelf.calls) shelf.failing) (shelf.files name) limit answer
