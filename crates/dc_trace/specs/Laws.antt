-- The laws of replay, each as the contract of a function of `laws` states it.
use Rattle.std.specs.Prelude.{◌≡◌, ℕ, List, length, ℤ, Bool, Result}
use Rattle.dc_syntax.specs.declared.tree.Proc.{Proc}
use Rattle.dc_syntax.specs.Value.{State}
use Rattle.dc_syntax.specs.Costs.{Costs}
use Rattle.dc_trace.specs.declared.run.TraceFault.{TraceFault}
use Rattle.dc_trace.specs.Replay.{Config, start, any_number}
use Rattle.dc_trace.specs.Ends.{Pays, Ends}

-- a replay has exactly one end, whichever numbers may occur
abbrev pub EndsOnce : Type 0
EndsOnce = (fits : ℤ → Bool) (turns : ℕ) (x : Config)
    → (r : Result ℤ TraceFault) × Ends fits turns x r
    × ((q : Result ℤ TraceFault) → Ends fits turns x q → q ≡ r)

-- what a replay pays is a cost on its input
abbrev pub PaidIsCost : Type 0
PaidIsCost = (fits : ℤ → Bool) (turns : ℕ) (p : Proc) (v : State) (zs : List ℤ) (c : ℤ)
    → length v ≡ p.params → Pays fits turns (start p v zs) c → Costs p v c

-- and each cost on an input is paid: by some choices, in some number of turns, where any whole
-- number may occur
abbrev pub CostIsPaid : Type 0
CostIsPaid =
    (p : Proc) (v : State) (c : ℤ) → Costs p v c → (zs : List ℤ) × (turns : ℕ)
    × Pays any_number turns (start p v zs) c
