-- The laws of the rounds and of the code's form of a family.
use Rattle.std.specs.Prelude.{◌≡◌, ℕ, ◌<◌, Bool, true, List, slice_index_or}
use Rattle.dc_math.specs.Members.{Among}
use Rattle.dc_syntax.specs.declared.tree.Side.{Side}
use Rattle.dc_affine.specs.declared.atom.Atom.{Atom}
use Rattle.dc_system.specs.declared.edges.Edge.{Edge}
use Rattle.dc_entail.specs.Asked.{Asked, AllDone}
use Rattle.dc_rows.specs.declared.kinds.Candidates.{Candidates}
use Rattle.dc_rows.specs.Candidate.{AreCandidates}
use Rattle.dc_families.specs.Graphs.{Graph}
use Rattle.dc_families.specs.Families.{Family, everything, atoms_at}
use Rattle.dc_families.specs.Rounds.{EdgeGives, IsRound, IsGreatest, HasCandidates}
use Rattle.dc_families.specs.Laws.{IsUpward}
use Rattle.dc_greatest.specs.declared.family.LocFamily.{LocFamily}
use Rattle.dc_greatest.specs.Kept.{stands_for, list_in, IsShaped}
use Rattle.dc_greatest.specs.Parts.{entry_rows, edge_asked, Rounds}

-- ---- the rounds
-- they come to one family in one way
abbrev pub OneSession : Type 0
OneSession =
    (side : Side) (s : Graph) (cases : List (List Atom)) (live : List Bool) (c : Candidates)
    (J K L : Family) (ps qs : List Asked)
    → Rounds side s cases live c J ps K → Rounds side s cases live c J qs L → (ps ≡ qs) × (K ≡ L)

-- from everything they end, and only in the greatest family
abbrev pub RoundsReachGreatest : Type 0
RoundsReachGreatest =
    (side : Side) (s : Graph) (cases : List (List Atom)) (live : List Bool) (c : Candidates)
    (asked : List Asked) (J : Family)
    → Rounds side s cases live c (everything s c) asked J → IsGreatest s cases c J

abbrev pub RoundsEnd : Type 0
RoundsEnd = (side : Side) (s : Graph) (cases : List (List Atom)) (live : List Bool) (c : Candidates)
    → (asked : List Asked) × (J : Family) × Rounds side s cases live c (everything s c) asked J

-- ---- the code's form
-- a family of candidates whose rows go up is kept by the least bound of each row, and nothing is lost
abbrev pub FamiliesHaveShapes : Type 0
FamiliesHaveShapes =
    (s : Graph) (c : Candidates) (J : Family) → AreCandidates s.vars c → HasCandidates s c J
    → IsUpward c J
    → (fs : List LocFamily) × IsShaped s.locs c fs × (stands_for s.vars c fs ≡ J)

-- what the code keeps is a family of candidates whose rows go up, and it keeps each in one form
abbrev pub ShapesAreFamilies : Type 0
ShapesAreFamilies =
    (s : Graph) (c : Candidates) (fs : List LocFamily) → AreCandidates s.vars c
    → IsShaped s.locs c fs
    → HasCandidates s c (stands_for s.vars c fs) × IsUpward c (stands_for s.vars c fs)

abbrev pub OneShape : Type 0
OneShape =
    (s : Graph) (c : Candidates) (fs gs : List LocFamily) → AreCandidates s.vars c
    → IsShaped s.locs c fs → IsShaped s.locs c gs
    → stands_for s.vars c fs ≡ stands_for s.vars c gs → fs ≡ gs

-- its list of a location is that of the least bounds
abbrev pub ListsAreLeast : Type 0
ListsAreLeast =
    (s : Graph) (c : Candidates) (fs : List LocFamily) (l : ℕ) (d : LocFamily)
    → AreCandidates s.vars c → IsShaped s.locs c fs → l < s.locs
    → atoms_at s.vars c (stands_for s.vars c fs) l ≡ list_in s.vars c (slice_index_or fs l d)

-- ---- what need not be asked again
-- where a round has not changed the source of an edge, the edge gives what is left at its target
abbrev pub UnchangedGive : Type 0
UnchangedGive = (s : Graph) (cases : List (List Atom)) (J K : Family) (e : Edge) (a : Atom)
    → IsRound s cases J K → ((b : Atom) → J e.from b ≡ true → K e.from b ≡ true) → Among e s.edges
    → K e.to a ≡ true → EdgeGives s K e a

-- and each of its problems has been asked, so where those came to their end these do
abbrev pub UnchangedAsk : Type 0
UnchangedAsk =
    (side : Side) (s : Graph) (cases : List (List Atom)) (c : Candidates) (J K : Family)
    (budget k : ℕ) (e : Edge) (live : Bool)
    → IsRound s cases J K → ((b : Atom) → J e.from b ≡ true → K e.from b ≡ true)
    → AllDone budget (edge_asked side s c J k e live) → AllDone budget (edge_asked side s c K k e live)

-- each problem of the entry has been asked in the round before
abbrev pub EntriesAskOnce : Type 0
EntriesAskOnce =
    (side : Side) (s : Graph) (cases : List (List Atom)) (c : Candidates) (J K : Family)
    (budget k : ℕ) (case : List Atom)
    → IsRound s cases J K → AllDone budget (entry_rows side s c J k case)
    → AllDone budget (entry_rows side s c K k case)
