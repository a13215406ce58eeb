-- A round, inductive families, and the greatest one.
use Rattle.std.specs.Prelude.{◌≡◌, ◌↔◌, ℕ, ◌≤◌, ◌<◌, true, false, List, length}
use Rattle.dc_math.specs.Members.{Among}
use Rattle.dc_affine.specs.declared.atom.Atom.{Atom}
use Rattle.dc_system.specs.declared.edges.Edge.{Edge}
use Rattle.dc_system.specs.After.{is_affine_after, atom_after}
use Rattle.dc_points.specs.Points.{Point, MeetsAt, MeetsAll, Entails, IsDead}
use Rattle.dc_rows.specs.declared.kinds.Candidates.{Candidates}
use Rattle.dc_families.specs.Graphs.{Graph}
use Rattle.dc_families.specs.Families.{Family, never, everything, atoms_at}
use Rattle.dc_families.specs.Moves.{at_start}

-- the point meets each atom that the family has at a location
pub record MeetsFamily (J : Family) (l : ℕ) (p : Point) : Type 0 where
  pub each : (a : Atom) → J l a ≡ true → MeetsAt p a

-- each case of the condition entails the atom with the locals 0
abbrev pub CasesGive : Graph → List (List Atom) → Atom → Type 0
CasesGive s cases a = (case : List Atom) → Among case cases → Entails case (at_start s.params a)

-- wherever the atoms of its source and its guard hold, the atom after the edge is affine and holds;
-- so where it isn't affine, they hold nowhere
abbrev pub EdgeGives : Graph → Family → Edge → Atom → Type 0
EdgeGives s J e a = (p : Point) → MeetsFamily J e.from p → MeetsAll p e.guard
    → (is_affine_after e a.coefs ≡ true) × MeetsAt p (atom_after s.vars e a)

-- each way into the location gives the atom
pub record IsGiven (s : Graph) (cases : List (List Atom)) (J : Family) (l : ℕ) (a : Atom) : Type 0 where
  pub entry : l ≡ 0 → CasesGive s cases a
  pub edges : (e : Edge) → Among e s.edges → e.to ≡ l → EdgeGives s J e a

-- K has what J has and each way gives
abbrev pub IsRound : Graph → List (List Atom) → Family → Family → Type 0
IsRound s cases J K = (l : ℕ) (a : Atom) → (K l a ≡ true) ↔ ((J l a ≡ true) × IsGiven s cases J l a)

-- each way gives what J has
abbrev pub IsInductive : Graph → List (List Atom) → Family → Type 0
IsInductive s cases J = (l : ℕ) (a : Atom) → J l a ≡ true → IsGiven s cases J l a

-- K has no more than J
abbrev pub IsWithin : Family → Family → Type 0
IsWithin K J = (l : ℕ) (a : Atom) → K l a ≡ true → J l a ≡ true

-- no atom of the family mentions more than n places, so none mentions a chosen value
abbrev pub IsOver : ℕ → Family → Type 0
IsOver n J = (l : ℕ) (a : Atom) → J l a ≡ true → length a.coefs ≤ n

abbrev pub HasCandidates : Graph → Candidates → Family → Type 0
HasCandidates s c J = IsWithin J (everything s c)

pub record IsGreatest (s : Graph) (cases : List (List Atom)) (c : Candidates)
    (J : Family) : Type 0 where
  pub candidates : HasCandidates s c J
  pub inductive : IsInductive s cases J
  pub contains : (K : Family) → HasCandidates s c K → IsInductive s cases K → IsWithin K J

-- the list of a location is not dead but where the family has false
abbrev pub IsHonest : Graph → Candidates → Family → Type 0
IsHonest s c J = (l : ℕ) → l < s.locs → J l (never s.vars) ≡ false → ¬ IsDead (atoms_at s.vars c J l)
