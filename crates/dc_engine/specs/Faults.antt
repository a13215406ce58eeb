-- Refusals of the steps, as refusals of an analysis.
use Rattle.std.specs.Prelude.{◌≡◌, Option, Some, None}
use Rattle.dc_syntax.specs.declared.tree.Side.{Side}
use Rattle.dc_system.specs.declared.edges.SystemFault.{SystemFault}
use Rattle.dc_system.specs.declared.edges.SystemFault.TheVariants as system
use Rattle.dc_rows.specs.declared.kinds.RowFault.{RowFault}
use Rattle.dc_rows.specs.declared.kinds.RowFault.TheVariants as row
use Rattle.dc_match.specs.declared.fault.MatchFault.{MatchFault}
use Rattle.dc_match.specs.declared.fault.MatchFault.TheVariants as match
use Rattle.dc_greatest.specs.declared.family.InvFault.{InvFault}
use Rattle.dc_greatest.specs.declared.family.InvFault.TheVariants as problem
use Rattle.dc_check.specs.declared.fault.CheckFault.{CheckFault}
use Rattle.dc_check.specs.declared.fault.CheckFault.TheVariants as check
use Rattle.dc_session.specs.declared.fault.PastAt.TheVariants.{Pivot, Fold}
use Rattle.dc_session.specs.declared.fault.AnalyseFault.{AnalyseFault}
use Rattle.dc_session.specs.declared.fault.AnalyseFault.TheVariants.{TooLarge, Past128, Budget, NoMemory}
use Rattle.dc_session.specs.Refusals.{Excess, excess}

-- ---- a count that passes its limit
abbrev pub system_fault_of : Side → SystemFault → AnalyseFault
system_fault_of side (system.TooLarge what n) = TooLarge (Some side) what n
system_fault_of side system.NoMemory = NoMemory

abbrev pub row_fault_of : Side → RowFault → AnalyseFault
row_fault_of side (row.TooLarge what n) = TooLarge (Some side) what n
row_fault_of side row.NoMemory = NoMemory

abbrev pub match_fault_of : MatchFault → AnalyseFault
match_fault_of (match.TooLarge what n) = TooLarge None what n
match_fault_of match.NoMemory = NoMemory

-- the fault is this count, or want of memory
abbrev pub IsExcess : Option Excess → AnalyseFault → Type 0
IsExcess e (TooLarge side what n) = e ≡ Some (excess side what n)
IsExcess e (Past128 p) = ⊥
IsExcess e (Budget q) = ⊥
IsExcess e NoMemory = Unit {0}

-- ---- a problem that does not come to its end
abbrev pub refused_at : InvFault → AnalyseFault
refused_at (problem.Past128 q k) = Past128 (Pivot q k)
refused_at (problem.Budget q) = Budget q
refused_at problem.NoMemory = NoMemory

-- ---- a sum that the checker wants
abbrev pub IsFold : CheckFault → Type 0
IsFold (check.Rejected clause index) = ⊥
IsFold (check.Past128 clause index) = Unit {0}
IsFold (check.TooLarge side what n) = ⊥
IsFold check.NoMemory = Unit {0}

abbrev pub IsFoldOf : CheckFault → AnalyseFault → Type 0
IsFoldOf (check.Rejected clause index) f = ⊥
IsFoldOf (check.Past128 clause index) f = f ≡ Past128 (Fold clause index)
IsFoldOf (check.TooLarge side what n) f = ⊥
IsFoldOf check.NoMemory f = f ≡ NoMemory
