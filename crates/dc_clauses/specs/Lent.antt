-- What the code of the clauses is lent.
use Rattle.std.specs.Prelude.{◌≡◌, ℕ, ◌≤◌, Bool, true, ◌&&◌, leb, List, length}
use Rattle.std.specs.List.{AllByRecursion, list_all}
use Rattle.dc_affine.specs.declared.atom.Atom.{Atom}
use Rattle.dc_affine.specs.Atoms.{IsAtom}
use Rattle.dc_system.specs.declared.edges.Edge.{Edge}
use Rattle.dc_system.specs.declared.edges.System.{System}
use Rattle.dc_system.specs.Shapes as shapes
use Rattle.dc_cert.specs.Vectors.{in_range}
use Rattle.dc_cert.specs.declared.sparse.Sparse.{Sparse}
use Rattle.dc_cert.specs.declared.certificate.EdgeCert.{EdgeCert}
use Rattle.dc_cert.specs.declared.certificate.SideCert.{SideCert}
use Rattle.dc_cert.specs.Ranges.{AreAtoms, AreKeeps, IsEdge, IsShown}
use Rattle.dc_clauses.specs.Lines.{line_in_range}
use Rattle.dc_clauses.specs.Sides.{paired, atoms_at, edge_atoms, exit_atoms, is_full, edge_fits}

-- at most 256 atoms over n places
pub record IsCase (n : ℕ) (case : List Atom) : Type 0 where
  pub few : length case ≤ 256
  pub within : AllByRecursion (IsAtom n) case

-- a system, and its part of a certificate within the ranges
pub record IsPart (s : System) (x : SideCert) : Type 0 where
  pub system : shapes.IsWellFormed s
  pub families : AllByRecursion AreAtoms x.families
  pub entry_keeps : AllByRecursion AreKeeps x.entry_keeps
  pub edges : AllByRecursion IsEdge x.edges
  pub exit_line : IsShown x.exit_line

-- whose shape, but for the entry's keeps, is that of the system
pub record IsShaped (s : System) (x : SideCert) : Type 0 where
  pub part : IsPart s x
  pub one_list_each : length x.families ≡ s.locs
  pub full : list_all (is_full s) x.families ≡ true
  pub one_each : length x.edges ≡ length s.edges
  pub edges_fit : list_all (λ fits. fits) (paired (edge_fits s x) s.edges x.edges) ≡ true
  pub exit_fits : line_in_range (length (exit_atoms s x)) s.vars x.exit_line ≡ true

-- the keeps of a case: in range, and at most one for each atom of the entry
abbrev pub keeps_fit : SideCert → List Atom → List Sparse → Bool
keeps_fit x case keeps =
    leb (length keeps) (length (atoms_at x 0)) && list_all (in_range (length case)) keeps

-- those of each case that is there
abbrev pub entry_fits_cases : SideCert → List (List Atom) → Bool
entry_fits_cases x cases = list_all (λ fits. fits) (paired (keeps_fit x) cases x.entry_keeps)

-- an edge of it
pub record IsEdgePart (s : System) (x : SideCert) (e : Edge) (c : EdgeCert) : Type 0 where
  pub few_vars : s.vars ≤ 10
  pub edge : shapes.IsEdge s.vars e
  pub cert : IsEdge c
  pub few_atoms : length (edge_atoms x e) ≤ 2000
  pub target : AreAtoms (atoms_at x e.to)
  pub full : is_full s (atoms_at x e.to) ≡ true
  pub fits : edge_fits s x e c ≡ true
