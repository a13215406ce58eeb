-- How a replay ends within a number of turns.
use Rattle.std.specs.Prelude.{◌≡◌, ℕ, suc, ◌+◌, ◌<◌, ◌≤◌, [], length, ℤ, Bool, Some, Result, Ok, Err}
use Rattle.dc_trace.specs.declared.run.TraceFault.{TraceFault}
use Rattle.dc_trace.specs.declared.run.TraceFault.TheVariants as T
use Rattle.dc_trace.specs.Replay.{Config, Why, stop, no_choice, bad_choice, past, blocked, turn, Leads}

module _ (fits : ℤ → Bool) (turns : ℕ) (x : Config) where
  -- within the turns nothing is left to do
  pub record Finishes (y : Config) : Type 0 where
    pub count : ℕ
    pub within : count ≤ turns
    pub leads : Leads fits count x y
    pub done : y.todo ≡ []

  -- no choice is left either: this is the cost
  abbrev pub Pays : ℤ → Type 0
  Pays c = (y : Config) × Finishes y × (y.choices ≡ []) × (y.cost ≡ c)

  -- a choice is left, and so many were taken
  abbrev pub LeavesOver : ℕ → Type 0
  LeavesOver used =
      (y : Config) × Finishes y × (¬ (y.choices ≡ []))
      × (used + length y.choices ≡ length x.choices)

  -- turn k is within the turns, and ends the replay
  pub record Stops (why : Why) (k : ℕ) : Type 0 where
    pub count : ℕ
    pub within : count < turns
    pub at : Config
    pub leads : Leads fits count x at
    pub stops : turn fits at ≡ Some (stop why)
    pub number : k ≡ suc count

  -- a statement is left after all turns
  pub record GoesOn (k : ℕ) : Type 0 where
    pub at : Config
    pub leads : Leads fits turns x at
    pub left : ¬ (at.todo ≡ [])
    pub number : k ≡ suc turns

  -- want of memory is no end
  abbrev pub HasFault : TraceFault → Type 0
  HasFault (T.NoChoice k) = Stops no_choice k
  HasFault (T.BadChoice k) = Stops bad_choice k
  HasFault (T.Past128 k) = Stops past k
  HasFault (T.Blocked k) = Stops blocked k
  HasFault (T.Unfinished k) = GoesOn k
  HasFault (T.LeftOver used) = LeavesOver used
  HasFault T.NoMemory = ⊥

  abbrev pub Ends : Result ℤ TraceFault → Type 0
  Ends (Ok c) = Pays c
  Ends (Err f) = HasFault f

  -- want of memory is free
  abbrev pub IsTraceFault : TraceFault → Type 0
  IsTraceFault T.NoMemory = Unit {0}
  IsTraceFault f = HasFault f
