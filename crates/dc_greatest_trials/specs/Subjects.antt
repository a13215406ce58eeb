-- What the calls on families are lent, and what they hand on to each other.
use Rattle.std.specs.Prelude.{◌≡◌, Bool, List, length}
use Rattle.std.specs.List.{AllByRecursion}
use Rattle.dc_affine.specs.declared.atom.Atom.{Atom}
use Rattle.dc_affine.specs.Atoms.{IsFullAtom}
use Rattle.dc_system.specs.declared.edges.System.{System}
use Rattle.dc_system.specs.Shapes.{IsWellFormed}
use Rattle.dc_program.specs.Programs.{IsCondition}
use Rattle.dc_points.specs.Flags.{AreFlags}
use Rattle.dc_rows.specs.declared.kinds.Candidates.{Candidates}
use Rattle.dc_rows.specs.Candidate.{AreCandidates}
use Rattle.dc_families.specs.Graphs.{graph_of}
use Rattle.dc_families.specs.Families.{family_of}
use Rattle.dc_families.specs.Rounds.{IsInductive}

-- a system, the cases of a condition with their flags, and candidates
pub record AreLent (s : System) (cases : List (List Atom)) (live : List Bool)
    (c : Candidates) : Type 0 where
  pub system : IsWellFormed s
  pub condition : IsCondition s.params cases
  pub flags : AreFlags live cases
  pub kind : AreCandidates s.vars c

-- printed atoms of a system
pub record CanBeShown (s : System) (cases : List (List Atom))
    (printed : List (List Atom)) : Type 0 where
  pub one_each : length printed ≡ s.locs
  pub atoms : AllByRecursion (AllByRecursion (IsFullAtom s.vars)) printed
  pub inductive : IsInductive (graph_of s) cases (family_of printed)
