-- What `problem_of` answers.
use Rattle.std.specs.Prelude.{◌≡◌, ◌⊎◌, ℕ, ◌<◌, ◌≤◌, List, ltb, if◌then◌else◌, length, Option, Some, None}
use Rattle.dc_syntax.specs.declared.tree.Count.TheVariants as count
use Rattle.dc_claims.specs.declared.duty.Duty.{Duty}
use Rattle.dc_claims.specs.Duties.{Pair, Flags}
use Rattle.dc_claims.specs.Problems.{columns_of, equations_of}
use Rattle.dc_table.specs.declared.table.Table.{Table}
use Rattle.dc_table.specs.Tables.{equations_in, IsTable, IsWeighed}
use Rattle.dc_match.specs.declared.fault.MatchFault.{MatchFault}
use Rattle.dc_match.specs.declared.fault.MatchFault.TheVariants.{NoMemory, TooLarge}

-- the first limit that the main problem passes
abbrev pub size_fault : Pair → ℕ → ℕ → Flags → Option MatchFault
size_fault p d k f =
    if ltb 8192 (length (columns_of p d k f))
    then Some (TooLarge count.Columns (length (columns_of p d k f)))
    else (if ltb 2048 (length (equations_of p d k f))
    then Some (TooLarge count.Equations (length (equations_of p d k f))) else None)

-- want of memory is free; the other names that limit, with the true count
abbrev pub IsFault : Pair → ℕ → ℕ → Flags → MatchFault → Type 0
IsFault p d k f fault = (fault ≡ NoMemory) ⊎ (size_fault p d k f ≡ Some fault)

-- ---- the table of some duties
module _ (p : Pair) (d k : ℕ) (os : List Duty) where
  pub record IsFilled (t : Table) : Type 0 where
    pub table : IsTable p d k os t
    pub weighed : IsWeighed (length os) t
    pub within : length (equations_in p d k os) ≤ 2048

  pub record IsTooMany (fault : MatchFault) : Type 0 where
    pub many : 2048 < length (equations_in p d k os)
    pub told : fault ≡ TooLarge count.Equations (length (equations_in p d k os))

  abbrev pub IsFillFault : MatchFault → Type 0
  IsFillFault fault = (fault ≡ NoMemory) ⊎ IsTooMany fault
