-- The laws of folding: what is certified before a fold is certified after it.
use Rattle.std.specs.Prelude.{◌≡◌, ℕ, List}
use Rattle.dc_math.specs.Rational.{ℚ, ◌≤ℚ◌}
use Rattle.dc_syntax.specs.declared.tree.Side.{Side}
use Rattle.dc_affine.specs.declared.atom.Atom.{Atom}
use Rattle.dc_system.specs.declared.edges.Edge.{Edge}
use Rattle.dc_system.specs.declared.edges.System.{System}
use Rattle.dc_system.specs.Shapes.{IsWellFormed}
use Rattle.dc_points.specs.Points.{Point, MeetsAll}
use Rattle.dc_rows.specs.declared.kinds.Candidates.{Candidates}
use Rattle.dc_rows.specs.Candidate.{AreCandidates}
use Rattle.dc_families.specs.Graphs.{graph_of}
use Rattle.dc_families.specs.Families.{Family, family_of}
use Rattle.dc_families.specs.Rounds.{IsOver, IsInductive}
use Rattle.dc_claims.specs.Duties.{Pair, system_of, atoms_at}
use Rattle.dc_claims.specs.Claims.{IsCertified, IsLeast, HasNoCertificate, IsVacuous}
use Rattle.dc_folding.specs.Folds.{IsFoldable, without_location, without_atoms, lists_of, pair_without}
use Rattle.dc_folding.specs.Folds.{with_atoms, IsPrintedPair, IsFoldOf}

-- ---- one fold
-- a family that is inductive stays so without the atoms of a location that is folded
abbrev pub InductionIsKept : Type 0
InductionIsKept = (s : System) (cases : List (List Atom)) (J : Family) (l : ℕ) (c : Edge)
    → IsWellFormed s → IsOver s.vars J → IsFoldable s l c → IsInductive (graph_of s) cases J
    → IsInductive (graph_of (without_location l c s)) cases (without_atoms l J)

-- of the pair, this side has an inductive family that mentions no chosen value
pub record IsSound (p : Pair) (side : Side) : Type 0 where
  pub formed : IsWellFormed (system_of p side)
  pub over : IsOver (system_of p side).vars (family_of (lists_of p side))
  pub inductive : IsInductive (graph_of (system_of p side)) p.cases (family_of (lists_of p side))

-- whatever is certified over such a family is certified over what is left of it, with the location
-- folded; the other side and the condition stay
abbrev pub OneFold : Type 0
OneFold = (p : Pair) (d k : ℕ) (side : Side) (l : ℕ) (c : Edge) (t : ℚ)
    → IsSound p side → IsFoldable (system_of p side) l c
    → IsCertified p d k t → IsCertified (pair_without side l c p) d k t

-- ---- stronger atoms
-- at each location of both sides the other atoms entail those of the pair
abbrev pub AreStronger : List (List Atom) → List (List Atom) → Pair → Type 0
AreStronger new old p = (side : Side) (l : ℕ) (x : Point)
    → MeetsAll x (atoms_at (with_atoms new old p) side l) → MeetsAll x (atoms_at p side l)

-- whatever is certified over the atoms of the pair is certified over the others
abbrev pub StrongerAtoms : Type 0
StrongerAtoms = (p : Pair) (new old : List (List Atom)) (d k : ℕ) (t : ℚ)
    → AreStronger new old p → IsCertified p d k t → IsCertified (with_atoms new old p) d k t

-- ---- all folds of both programs
-- two well formed systems, and candidates over their variables
pub record AreFormed (p : Pair) (c e : Candidates) : Type 0 where
  pub new : IsWellFormed p.new
  pub old : IsWellFormed p.old
  pub new_candidates : AreCandidates p.new.vars c
  pub old_candidates : AreCandidates p.old.vars e

-- each pair of them with their printed atoms has a folded one, and only one
abbrev pub SomeFold : Type 0
SomeFold = (p : Pair) (c e : Candidates) → AreFormed p c e → IsPrintedPair p c e
    → (q : Pair) × IsFoldOf q p c e

abbrev pub OneFoldOf : Type 0
OneFoldOf = (q r p : Pair) (c e : Candidates) → IsFoldOf q p c e → IsFoldOf r p c e → q ≡ r

-- whatever is certified over the printed atoms of two systems is certified over those of the folded
-- ones
abbrev pub FoldingLosesNothing : Type 0
FoldingLosesNothing = (q p : Pair) (d k : ℕ) (c e : Candidates) (t : ℚ)
    → AreFormed p c e → IsFoldOf q p c e → IsCertified p d k t → IsCertified q d k t

-- so the least threshold never rises, no certificate is lost, and what is vacuous stays so
pub record NeverRises (q p : Pair) (d k : ℕ) : Type 0 where
  pub least : (t u : ℚ) → IsLeast p d k t → IsLeast q d k u → u ≤ℚ t
  pub none : HasNoCertificate q d k → HasNoCertificate p d k
  pub every : IsVacuous p d k → IsVacuous q d k

abbrev pub LeastNeverRises : Type 0
LeastNeverRises = (q p : Pair) (d k : ℕ) (c e : Candidates)
    → AreFormed p c e → IsFoldOf q p c e → NeverRises q p d k
