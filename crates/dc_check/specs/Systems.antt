-- The systems that a certificate speaks of.
use Rattle.std.specs.Prelude.{◌≡◌, ◌⊎◌, ℕ, None}
use Rattle.dc_syntax.specs.declared.tree.Proc.{Proc}
use Rattle.dc_system.specs.declared.edges.System.{System}
use Rattle.dc_system.specs.Systems.{system_of, size_fault}
use Rattle.dc_system.specs.Folded.{IsFolded}

-- version 1 speaks of the system of the procedure, version 2 of that system folded
abbrev pub IsSystemOf : ℕ → Proc → System → Type 0
IsSystemOf version p s =
    ((version ≡ 1) × (s ≡ system_of p)) ⊎ ((version ≡ 2) × IsFolded (system_of p) s)

-- the systems of two procedures, both within the limits
pub record HasSystems (new old : Proc) (version : ℕ) (s t : System) : Type 0 where
  pub new_size : size_fault new ≡ None
  pub old_size : size_fault old ≡ None
  pub new_system : IsSystemOf version new s
  pub old_system : IsSystemOf version old t
