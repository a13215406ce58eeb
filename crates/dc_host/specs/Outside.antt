-- What a call does to the outside.
use Rattle.std.specs.Prelude.{◌≡◌, ℕ, ◌+◌, ◌-◌, ◌^◌, ◌≤◌, ◌==◌, min, List, ◌++◌, take, Bool, None, Some, Ok, Err}
use Rattle.std.specs.List.{list_any}
use Rattle.std.specs.Option.{option_map}
use Rattle.std.specs.declared.alloc.Global.{Global}
use Rattle.std.specs.declared.vec.Vec.{Vec}
use Rattle.std.specs.declared.option.Option.{Option}
use Rattle.std.specs.declared.result.Result.{Result}
use Rattle.dc_host.specs.declared.store.StoreFault.{StoreFault}
use Rattle.dc_host.specs.declared.store.StoreFault.TheVariants.{Missing, Failed, NoMemory}

-- a count of 64 bits that went up by one, or stays at its last value
abbrev pub counted : ℕ → ℕ
counted n = min (n + 1) (2 ^ 64 - 1)

-- a count rose in a call, or stands at its last value
abbrev pub Rose : ℕ → ℕ → Type 0
Rose before now = counted before ≤ now

-- what a call of `fetch` answers
abbrev pub Answer : Type 0
Answer = Result (Vec ℕ Global) StoreFault

-- the count after a call of `fetch` that counts each answer `Failed`, and no other
abbrev pub faults_after : {T : Type 0} → Result T StoreFault → ℕ → ℕ
faults_after (Ok _) n = n
faults_after (Err Missing) n = n
faults_after (Err Failed) n = counted n
faults_after (Err NoMemory) n = n

-- the count after a call that counts each error, and nothing else
abbrev pub count_after : {T E : Type 0} → Result T E → ℕ → ℕ
count_after (Ok _) n = n
count_after (Err _) n = counted n

-- the number of a call stands on a list
abbrev pub is_listed : ℕ → List ℕ → Bool
is_listed call listed = list_any (λ n. n == call) listed

-- which bytes each name has
abbrev pub Files : Type 0
Files = List ℕ → Option (List ℕ)

-- the known bytes, and then more
abbrev pub appended : Option (List ℕ) → List ℕ → Option (List ℕ)
appended known more = option_map (λ xs. xs ++ more) known

-- the bytes are those of the file, cut after the limit and one more
abbrev pub IsTextOf : Option Files → List ℕ → ℕ → List ℕ → Type 0
IsTextOf None name limit bytes = Unit {0}
IsTextOf (Some files) name limit bytes =
    option_map (λ whole. take (limit + 1) whole) (files name) ≡ Some bytes

-- the files are told, and have none of this name
abbrev pub IsAbsent : Option Files → List ℕ → Type 0
IsAbsent None name = ⊥
IsAbsent (Some files) name = files name ≡ None
