-- What is the system of an accepted procedure has its laws.
use Rattle.std.specs.Prelude.{◌≡◌, ◌↔◌, length, ℤ, None}
use Rattle.std.proofs.Common.{sym, ◌∙◌, ap, subst}
use Rattle.dc_syntax.specs.declared.tree.Proc.{Proc}
use Rattle.dc_syntax.specs.Value.{State}
use Rattle.dc_syntax.specs.Run.{Run}
use Rattle.dc_system.specs.declared.edges.System.{System}
use Rattle.dc_system.specs.Systems.{system_of, size_fault}
use Rattle.dc_program.specs.Programs.{IsProgram}
use Rattle.dc_system.specs.Shapes.{IsWellFormed}
use Rattle.dc_system.specs.Laws.{Through}
use Rattle.dc_system.proofs.Runs.{paths_runs}
use Rattle.dc_system.proofs.Shape.{shaped}

pub built_shaped : (s : System) (p : Proc) → s ≡ system_of p → IsProgram p → size_fault p ≡ None → IsWellFormed s
built_shaped s p e a f = subst IsWellFormed (sym e) (shaped p a f)

pub built_paths : (s : System) (p : Proc) (x : State) (c : ℤ) (t : State) → s ≡ system_of p → IsProgram p → length x ≡ s.vars → Through s x c t ↔ Run p.body x c t
built_paths s p x c t e a l =
    subst (λ (y : System). Through y x c t ↔ Run p.body x c t) (sym e) (paths_runs p a x c t (l ∙ ap (λ (y : System). y.vars) e))

pub ruleset building = (built_shaped, built_paths)
