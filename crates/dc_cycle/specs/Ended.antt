-- What `solve_ended` answers: the end of the run, or its first pivot that doesn't fit.
use Rattle.std.specs.Prelude.{◌≡◌, ℕ, Result, Ok, Err}
use Rattle.dc_math.specs.Rational.{ℚ}
use Rattle.dc_lp.specs.Linear.{Linear}
use Rattle.dc_lp.specs.Tables.{Table}
use Rattle.dc_lp.specs.Meanings.{Meaning}
use Rattle.dc_pivots.specs.declared.Ending.{Ending}
use Rattle.dc_simplex.specs.declared.Outcome.{Outcome}
use Rattle.dc_simplex.specs.Limits.{EndsWith, IsPast}
use Rattle.dc_simplex.specs.Outcomes.{TellsDone, pivots_of}
use Rattle.dc_cycle.specs.declared.EndFault.{EndFault}
use Rattle.dc_cycle.specs.declared.EndFault.TheVariants.{Past128, NoMemory}

-- each result but want of memory is how the run goes
abbrev pub SolvesToEnd : Linear ℚ → ℕ → Meaning → Result Outcome EndFault → Type 0
SolvesToEnd p budget left (Ok o) = TellsDone p budget left o
SolvesToEnd p budget left (Err (Past128 k)) = IsPast p k
SolvesToEnd p budget left (Err NoMemory) = Unit {0}

-- the outcome after n pivots, or want of memory
abbrev pub IsEndAfter : ℕ → Result Outcome EndFault → Type 0
IsEndAfter n (Ok o) = pivots_of o ≡ n
IsEndAfter n (Err (Past128 k)) = ⊥
IsEndAfter n (Err NoMemory) = Unit {0}

-- that pivot k doesn't fit, or want of memory
abbrev pub IsPastAt : ℕ → Result Outcome EndFault → Type 0
IsPastAt k (Ok o) = ⊥
IsPastAt k (Err (Past128 i)) = i ≡ k
IsPastAt k (Err NoMemory) = Unit {0}

-- wherever the run ends with pivots that fit, that is told; and wherever one is past
abbrev pub TellsEnds : Linear ℚ → Result Outcome EndFault → Type 0
TellsEnds p r = (n : ℕ) (e : Ending) (t : Table ℚ) → EndsWith p n e t → IsEndAfter n r

abbrev pub TellsPast : Linear ℚ → Result Outcome EndFault → Type 0
TellsPast p r = (k : ℕ) → IsPast p k → IsPastAt k r
