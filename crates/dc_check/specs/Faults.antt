-- Steps that do not hold, and limits that are passed, as faults.
use Rattle.std.specs.Prelude.{ℕ, ◌+◌, ◌*◌, length, Some, None}
use Rattle.dc_syntax.specs.declared.tree.Side.{Side}
use Rattle.dc_poly.specs.Monomials.{monomials_of}
use Rattle.dc_system.specs.declared.edges.System.{System}
use Rattle.dc_system.specs.declared.edges.SystemFault.{SystemFault}
use Rattle.dc_system.specs.declared.edges.SystemFault.TheVariants as system
use Rattle.dc_match.specs.declared.fault.MatchFault.{MatchFault}
use Rattle.dc_match.specs.declared.fault.MatchFault.TheVariants as main
use Rattle.dc_check.specs.declared.fault.CheckFault.{CheckFault}
use Rattle.dc_check.specs.declared.fault.CheckFault.TheVariants.{Rejected, Past128, TooLarge, NoMemory}
use Rattle.dc_clauses.specs.Steps.{Test}
use Rattle.dc_clauses.specs.declared.step.Step.{Step}

-- false, or with a sum that doesn't fit
abbrev pub fault_of : ℕ → ℕ → Test → CheckFault
fault_of clause index (Some b) = Rejected clause index
fault_of clause index None = Past128 clause index

abbrev pub fault_at : Step → CheckFault
fault_at s = fault_of s.clause s.index s.test

-- the main problem's limit
abbrev pub width_of : MatchFault → CheckFault
width_of (main.TooLarge what count) = TooLarge None what count
width_of main.NoMemory = NoMemory

-- the limit of a side's system
abbrev pub size_of : Side → SystemFault → CheckFault
size_of side (system.TooLarge what count) = TooLarge (Some side) what count
size_of side system.NoMemory = NoMemory

-- the threshold, and for each location of either side one for each monomial
abbrev pub count_of : System → System → ℕ → ℕ
count_of s t d = 1 + s.locs * length (monomials_of s.vars d) + t.locs * length (monomials_of t.vars d)
