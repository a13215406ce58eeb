-- Numbered tests, and the first of them that does not hold.
use Rattle.std.specs.Prelude.{◌≡◌, ℕ, suc, ◌+◌, ◌≤◌, Bool, true, false, cond, List, [], ◌∷◌, length, Option, Some, None}
pub use Rattle.dc_clauses.specs.declared.step.Step.{Step}
use Rattle.dc_clauses.specs.declared.step.Walk.{Walk}
use Rattle.dc_clauses.specs.declared.step.Walk.TheVariants.{Passed, Stopped}

-- a test is true or false, or None where a sum that it wants doesn't fit 128 bits
abbrev pub Test : Type 0
Test = Option Bool

abbrev pub is_true : Test → Bool
is_true (Some true) = true
is_true (Some false) = false
is_true None = false

-- parts in order: the first that is not true decides
abbrev pub all_of : List Test → Test
all_of [] = Some true
all_of (t ∷ ts) = cond (is_true t) (all_of ts) t

-- a test of a clause, with its index there
abbrev pub step : ℕ → ℕ → Test → Step
step c i t = record { clause = c; index = i; test = t }

-- the tests of a clause, counted on from k
abbrev pub counted : ℕ → ℕ → List Test → List Step
counted c k [] = []
counted c k (t ∷ ts) = step c k t ∷ counted c (suc k) ts

-- all are true
abbrev pub AllHold : List Step → Type 0
AllHold [] = Unit {0}
AllHold (s ∷ ss) = (s.test ≡ Some true) × AllHold ss

-- the first that is not true
abbrev pub first_failure : List Step → Option Step
first_failure [] = None
first_failure (s ∷ ss) = cond (is_true s.test) (first_failure ss) (Some s)

-- a walk over tests, counted on from k
abbrev pub IsWalk : ℕ → ℕ → List Test → Walk → Type 0
IsWalk c k ts (Passed next) = (first_failure (counted c k ts) ≡ None) × (next ≡ k + length ts)
IsWalk c k ts (Stopped s) = first_failure (counted c k ts) ≡ Some s

-- one that passed has at most n tests behind it
abbrev pub IsShort : ℕ → Walk → Type 0
IsShort n (Passed next) = next ≤ n
IsShort n (Stopped s) = Unit {0}
