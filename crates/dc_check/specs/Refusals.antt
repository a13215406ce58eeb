-- Why one part of the check refuses.
use Rattle.std.specs.Prelude.{◌≡◌, false, List, Some, None}
use Rattle.dc_syntax.specs.declared.tree.Proc.{Proc}
use Rattle.dc_syntax.specs.declared.tree.Side.{Side}
use Rattle.dc_affine.specs.declared.atom.Atom.{Atom}
use Rattle.dc_system.specs.declared.edges.System.{System}
use Rattle.dc_system.specs.declared.edges.SystemFault.TheVariants as system
use Rattle.dc_system.specs.Systems.{size_fault}
use Rattle.dc_cert.specs.declared.certificate.Certificate.{Certificate}
use Rattle.dc_match.specs.declared.fault.MatchFault.TheVariants as main
use Rattle.dc_clauses.specs.Steps.{AllHold, step}
use Rattle.dc_clauses.specs.Sides.{family_steps}
use Rattle.dc_check.specs.declared.fault.CheckFault.{CheckFault}
use Rattle.dc_check.specs.declared.fault.CheckFault.TheVariants.{Rejected, Past128, TooLarge, NoMemory}
use Rattle.dc_check.specs.Answers.{main_fault, IsFirst}

-- a system passes a limit
abbrev pub IsSizeFault : Side → Proc → CheckFault → Type 0
IsSizeFault side p (Rejected clause index) = ⊥
IsSizeFault side p (Past128 clause index) = ⊥
IsSizeFault side p (TooLarge at what count) =
    (at ≡ Some side) × (size_fault p ≡ Some (system.TooLarge what count))
IsSizeFault side p NoMemory = Unit {0}

-- the main problem does
abbrev pub IsWidthFault : System → System → List (List Atom) → Certificate → CheckFault → Type 0
IsWidthFault s t cases c (Rejected clause index) = ⊥
IsWidthFault s t cases c (Past128 clause index) = ⊥
IsWidthFault s t cases c (TooLarge at what count) =
    (at ≡ None) × (main_fault s t cases c ≡ Some (main.TooLarge what count))
IsWidthFault s t cases c NoMemory = Unit {0}

-- over two systems, the first step does not hold, or the main problem passes a limit
abbrev pub IsStepFault : System → System → List (List Atom) → Certificate → CheckFault → Type 0
IsStepFault s t cases c (Rejected clause index) = IsFirst s t cases c (step clause index (Some false))
IsStepFault s t cases c (Past128 clause index) = IsFirst s t cases c (step clause index None)
IsStepFault s t cases c (TooLarge at what count) =
    (at ≡ None) × AllHold (family_steps s t cases c)
    × (main_fault s t cases c ≡ Some (main.TooLarge what count))
IsStepFault s t cases c NoMemory = Unit {0}
