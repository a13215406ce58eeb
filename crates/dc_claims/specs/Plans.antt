-- The sizes that programs, atoms and cases have where the main problem is made of them.
use Rattle.std.specs.Prelude.{◌≡◌, ℕ, ◌≤◌, List, length}
use Rattle.std.specs.List.{AllByRecursion}
use Rattle.dc_affine.specs.declared.atom.Atom.{Atom}
use Rattle.dc_affine.specs.Atoms.{IsAtom}
use Rattle.dc_system.specs.declared.edges.System.{System}
use Rattle.dc_system.specs.Shapes.{IsWellFormed}
use Rattle.dc_claims.specs.Duties.{Pair, Flags}

-- at most 1,024 atoms over n variables
pub record AreAtoms (n : ℕ) (atoms : List Atom) : Type 0 where
  pub few : length atoms ≤ 1024
  pub within : AllByRecursion (IsAtom n) atoms

-- a well formed system, and such atoms for each of its locations
pub record IsPlan (s : System) (atoms : List (List Atom)) : Type 0 where
  pub system : IsWellFormed s
  pub one_each : length atoms ≡ s.locs
  pub each : AllByRecursion (AreAtoms s.vars) atoms

-- a case has at most 256 atoms over the parameters
pub record IsCase (n : ℕ) (case : List Atom) : Type 0 where
  pub few : length case ≤ 256
  pub within : AllByRecursion (IsAtom n) case

-- 1 to 64 cases
pub record AreCases (n : ℕ) (cases : List (List Atom)) : Type 0 where
  pub some : 1 ≤ length cases
  pub few : length cases ≤ 64
  pub each : AllByRecursion (IsCase n) cases

-- two such programs with as many parameters, and the cases over these
pub record IsPair (p : Pair) : Type 0 where
  pub new : IsPlan p.new p.new_atoms
  pub old : IsPlan p.old p.old_atoms
  pub params : p.new.params ≡ p.old.params
  pub cases : AreCases p.new.params p.cases

-- one flag for each edge and each case
pub record HasFlags (p : Pair) (f : Flags) : Type 0 where
  pub new : length f.new_edges ≡ length p.new.edges
  pub old : length f.old_edges ≡ length p.old.edges
  pub cases : length f.cases ≡ length p.cases

-- potentials of degree at most 3, and products of 1 to 3 atoms
pub record IsFit (p : Pair) (d k : ℕ) (f : Flags) : Type 0 where
  pub pair : IsPair p
  pub flags : HasFlags p f
  pub degree : d ≤ 3
  pub some_products : 1 ≤ k
  pub few_products : k ≤ 3
