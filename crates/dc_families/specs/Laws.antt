-- The laws of families.
use Rattle.std.specs.Prelude.{◌≡◌, ◌⊎◌, ◌↔◌, ℕ, ◌-◌, ◌<◌, true, List, length, [], slice_index_or, ℤ, ◌≤ℤ◌, Some}
use Rattle.dc_math.specs.Members.{Among}
use Rattle.dc_syntax.specs.Value.{State}
use Rattle.dc_syntax.specs.Costs.{start_with}
use Rattle.dc_affine.specs.declared.atom.Atom.{Atom}
use Rattle.dc_affine.specs.Atoms.{Allowed, holds_at}
use Rattle.dc_system.specs.declared.edges.Edge.{Edge}
use Rattle.dc_system.specs.declared.edges.System.{System}
use Rattle.dc_system.specs.Folded.{fold_at, folded}
use Rattle.dc_system.specs.Shapes.{IsWellFormed}
use Rattle.dc_system.specs.Paths.{Path}
use Rattle.dc_points.specs.Points.{Point, MeetsAll, Entails, IsDead}
use Rattle.dc_rows.specs.declared.kinds.Candidates.{Candidates}
use Rattle.dc_rows.specs.Rows.{Row}
use Rattle.dc_rows.specs.Candidate.{AreCandidates}
use Rattle.dc_families.specs.Graphs.{Graph, graph_of, with_edges, IsGraph}
use Rattle.dc_families.specs.Families.{Family, never, bounded, family_of, everything, atoms_at}
use Rattle.dc_families.specs.Rounds.{MeetsFamily, IsOver, IsRound, IsInductive, IsWithin, HasCandidates, IsGreatest, IsHonest}
use Rattle.dc_families.specs.Printed.{Question, ArePrinted}

-- each list entails an atom or does not
abbrev pub EntailmentIsDecided : Type 0
EntailmentIsDecided = (hyps : List Atom) (a : Atom) → Entails hyps a ⊎ (¬ Entails hyps a)

-- ---- graphs
abbrev pub SystemsAreGraphs : Type 0
SystemsAreGraphs = (s : System) → IsWellFormed s → IsGraph (graph_of s)

-- a system with one location folded is a graph over the same locations
abbrev pub FoldsAreGraphs : Type 0
FoldsAreGraphs =
    (s : System) (l : ℕ) (c : Edge) → IsWellFormed s
    → fold_at s.vars (s.locs - 1) s.edges l ≡ Some c
    → IsGraph (with_edges (folded l c s.edges) (graph_of s))

-- ---- paths
-- the start on an input
abbrev pub start_at : Graph → State → State
start_at s v = start_with s.vars s.params v

-- what a path reaches from an allowed input meets an inductive family
abbrev pub ReachedMeet : Type 0
ReachedMeet =
    (s : Graph) (cases : List (List Atom)) (J : Family) (v : State) (l : ℕ) (x : State) (cost : ℤ)
    (a : Atom)
    → IsGraph s → IsOver s.vars J → IsInductive s cases J → length v ≡ s.params → Allowed cases v
    → Path s.edges 0 (start_at s v) cost l x → J l a ≡ true → holds_at a x ≡ true

-- no candidate mentions a chosen value
abbrev pub CandidatesAreOver : Type 0
CandidatesAreOver =
    (s : Graph) (c : Candidates) (J : Family) → AreCandidates s.vars c → HasCandidates s c J
    → IsOver s.vars J

-- ---- rounds
-- from more a round leaves more
abbrev pub RoundsAreMonotone : Type 0
RoundsAreMonotone = (s : Graph) (cases : List (List Atom)) (J K L M : Family)
    → IsWithin J K → IsRound s cases J L → IsRound s cases K M → IsWithin L M

-- a round leaves one family, and it leaves one from each family of candidates
abbrev pub OneRound : Type 0
OneRound =
    (s : Graph) (cases : List (List Atom)) (J K L : Family) → IsRound s cases J K
    → IsRound s cases J L → K ≡ L

abbrev pub HasRound : Type 0
HasRound =
    (s : Graph) (cases : List (List Atom)) (c : Candidates) (J : Family) → HasCandidates s c J
    → (K : Family) × IsRound s cases J K

-- there is a greatest family, and only one
abbrev pub HasGreatest : Type 0
HasGreatest =
    (s : Graph) (cases : List (List Atom)) (c : Candidates) → (J : Family) × IsGreatest s cases c J

abbrev pub OneGreatest : Type 0
OneGreatest =
    (s : Graph) (cases : List (List Atom)) (c : Candidates) (J K : Family) → IsGreatest s cases c J
    → IsGreatest s cases c K → J ≡ K

-- ---- the shape of families
-- of a row, what a family has goes up to the greatest bound
abbrev pub IsUpward : Candidates → Family → Type 0
IsUpward c J = (l : ℕ) (r : Row) (b d : ℤ) → Among r c.rows → Among b c.bounds → Among d c.bounds
    → b ≤ℤ d → J l (bounded r b) ≡ true → J l (bounded r d) ≡ true

abbrev pub EverythingIsUpward : Type 0
EverythingIsUpward = (s : Graph) (c : Candidates) → IsUpward c (everything s c)

abbrev pub RoundsAreUpward : Type 0
RoundsAreUpward =
    (s : Graph) (cases : List (List Atom)) (c : Candidates) (J K : Family) → IsUpward c J
    → IsRound s cases J K → IsUpward c K

-- the list of a location says what the family says there
abbrev pub ListsAreFamilies : Type 0
ListsAreFamilies = (s : Graph) (c : Candidates) (J : Family) (l : ℕ) (p : Point)
    → AreCandidates s.vars c → HasCandidates s c J → MeetsAll p (atoms_at s.vars c J l)
    ↔ MeetsFamily J l p

-- the greatest family has false at each location whose list is dead
abbrev pub DeadHaveFalse : Type 0
DeadHaveFalse = (s : Graph) (cases : List (List Atom)) (c : Candidates) (J : Family) (l : ℕ)
    → AreCandidates s.vars c → IsGreatest s cases c J → l < s.locs → IsDead (atoms_at s.vars c J l)
    → J l (never s.vars) ≡ true

abbrev pub GreatestIsHonest : Type 0
GreatestIsHonest = (s : Graph) (cases : List (List Atom)) (c : Candidates) (J : Family)
    → AreCandidates s.vars c → IsGreatest s cases c J → IsHonest s c J

-- ---- printed atoms
-- there are printed atoms, and only these, asked for by the same questions
abbrev pub HasPrinted : Type 0
HasPrinted =
    (s : Graph) (c : Candidates) (J : Family) → (printed : List (List Atom))
    × (asked : List (List Question)) × ArePrinted s c J printed asked

abbrev pub OnePrinted : Type 0
OnePrinted =
    (s : Graph) (c : Candidates) (J : Family) (p q : List (List Atom))
    (ps qs : List (List Question))
    → ArePrinted s c J p ps → ArePrinted s c J q qs → (p ≡ q) × (ps ≡ qs)

-- the printed atoms of a location say what its list says
abbrev pub PrintedSayLists : Type 0
PrintedSayLists =
    (s : Graph) (c : Candidates) (J : Family) (printed : List (List Atom))
    (asked : List (List Question)) (l : ℕ) (p : Point)
    → ArePrinted s c J printed asked → l < s.locs → MeetsAll p (slice_index_or printed l [])
    ↔ MeetsAll p (atoms_at s.vars c J l)

-- the printed atoms of the greatest family are an inductive family
abbrev pub PrintedAreInductive : Type 0
PrintedAreInductive =
    (s : Graph) (cases : List (List Atom)) (c : Candidates) (J : Family)
    (printed : List (List Atom)) (asked : List (List Question))
    → IsGraph s → AreCandidates s.vars c → IsGreatest s cases c J → ArePrinted s c J printed asked
    → IsInductive s cases (family_of printed)
