-- What the parts of a round do, and which edges need not be looked at again.
use Rattle.std.specs.Prelude.{◌≡◌, ℕ, ◌<◌, Bool, true, false, if◌then◌else◌, is_some, ◌&&◌, List, [], ◌∷◌, map, take, length, slice_index_or}
use Rattle.dc_math.specs.Members.{Among}
use Rattle.dc_syntax.specs.declared.tree.Side.{Side}
use Rattle.dc_affine.specs.declared.atom.Atom.{Atom}
use Rattle.dc_system.specs.declared.edges.Edge.{Edge}
use Rattle.dc_system.specs.After.{is_affine_after}
use Rattle.dc_points.specs.Points.{Entails}
use Rattle.dc_points.specs.Shown.{IsFlag, AreFlags}
use Rattle.dc_entail.specs.Asked.{Asked, AllDone}
use Rattle.dc_rows.specs.declared.kinds.Candidates.{Candidates}
use Rattle.dc_rows.specs.Candidate.{row_at}
use Rattle.dc_families.specs.Graphs.{Graph, with_edges}
use Rattle.dc_families.specs.Families.{Family, least_in}
use Rattle.dc_families.specs.Moves.{at_start}
use Rattle.dc_families.specs.Rounds.{EdgeGives, IsRound}
use Rattle.dc_worklist.specs.Listed.{is_listed}
use Rattle.dc_greatest.specs.declared.family.LocFamily.{LocFamily}
use Rattle.dc_greatest.specs.Kept.{stands_for, IsShaped}
use Rattle.dc_greatest.specs.Bounds.{IsTaken}
use Rattle.dc_greatest.specs.Parts.{for_live, for_edges, edge_atoms, entry_row, entry_rows, edge_row, edge_asked, round_asked, AreLive}
use Rattle.dc_greatest.specs.Answers.{IsThrough}

-- the graph with its first k edges alone
abbrev pub first_edges : ℕ → Graph → Graph
first_edges k s = with_edges (take k s.edges) s

module _ (side : Side) (s : Graph) (cases : List (List Atom)) (live : List Bool) (c : Candidates)
    (J : Family) where
  -- ---- the problems of a round, and of its two parts
  abbrev pub EntryAsks : List Asked → Type 0
  EntryAsks asked = asked ≡ for_live (entry_rows side s c J) 0 cases live

  abbrev pub EdgesAsk : List Asked → Type 0
  EdgesAsk asked =
      (flags : List Bool) × AreLive s c J flags
      × (asked ≡ for_edges (edge_asked side s c J) 0 s.edges flags)

  abbrev pub RoundAsks : List Asked → Type 0
  RoundAsks asked =
      (flags : List Bool) × AreLive s c J flags × (asked ≡ round_asked side s c J cases live flags)

  -- ---- what need not be looked at: it gives what the family has, and its problems have come to
  -- their end
  pub record IsSettledEdge (budget k : ℕ) (e : Edge) : Type 0 where
    pub gives : (a : Atom) → J e.to a ≡ true → EdgeGives s J e a
    pub done : (b : Bool) → IsFlag b (edge_atoms s c J e) → AllDone budget (edge_asked side s c J k e b)

  -- each edge but those with these numbers
  abbrev pub AreSettled : ℕ → List ℕ → Type 0
  AreSettled budget numbers =
      (k : ℕ) (e : Edge) → k < length s.edges → slice_index_or s.edges k e ≡ e
      → is_listed k numbers ≡ false → IsSettledEdge budget k e

  pub record IsSettledEntry (budget : ℕ) : Type 0 where
    pub gives : (case : List Atom) (a : Atom) → Among case cases → J 0 a ≡ true
        → Entails case (at_start s.params a)
    pub done : AllDone budget (for_live (entry_rows side s c J) 0 cases live)

  -- ---- what a round leaves
  pub record IsRoundTo (budget : ℕ) (fs : List LocFamily) : Type 0 where
    pub shape : IsShaped s.locs c fs
    pub round : IsRound s cases J (stands_for s.vars c fs)
    pub through : IsThrough budget RoundAsks

  -- after the cases of the condition
  pub record AreEntriesTaken (budget : ℕ) (fs : List LocFamily) : Type 0 where
    pub shape : IsShaped s.locs c fs
    pub round : IsRound (first_edges 0 s) cases J (stands_for s.vars c fs)
    pub done : AllDone budget (for_live (entry_rows side s c J) 0 cases live)

  -- after the first k of them
  pub record AreCasesTaken (budget k : ℕ) (fs : List LocFamily) : Type 0 where
    pub shape : IsShaped s.locs c fs
    pub round : IsRound (first_edges 0 s) (take k cases) J (stands_for s.vars c fs)
    pub done : AllDone budget (for_live (entry_rows side s c J) 0 (take k cases) (take k live))

  pub record AreEdgesTaken (budget : ℕ) (fs : List LocFamily) : Type 0 where
    pub shape : IsShaped s.locs c fs
    pub round : IsRound s cases J (stands_for s.vars c fs)
    pub through : IsThrough budget EdgesAsk

  -- ---- one edge
  abbrev pub EdgeAsks : ℕ → Edge → List Asked → Type 0
  EdgeAsks k e asked =
      (b : Bool) × IsFlag b (edge_atoms s c J e) × (asked ≡ edge_asked side s c J k e b)

  -- its target keeps what it had and the edge gives
  pub record IsEdgeTaken (budget k : ℕ) (e : Edge) (old new : LocFamily) : Type 0 where
    pub taken : IsTaken (EdgeGives s J e) s.vars c old new
    pub through : IsThrough budget (EdgeAsks k e)

  -- the problem of a row along a live edge, and by a case, where there is one
  abbrev pub edge_row_asked : ℕ → Edge → ℕ → List Asked
  edge_row_asked k e r =
      if is_some (least_in c J e.to r)
      && is_affine_after e (row_at c r) then edge_row side s c J k e r ∷ [] else []

  abbrev pub entry_row_asked : ℕ → List Atom → ℕ → List Asked
  entry_row_asked k case r =
      if is_some (least_in c J 0 r) then entry_row side s c J k case r ∷ [] else []

  -- the first k edges are taken
  pub record AreFirstTaken (budget k : ℕ) (fs : List LocFamily) : Type 0 where
    pub shape : IsShaped s.locs c fs
    pub round : IsRound (first_edges k s) cases J (stands_for s.vars c fs)
    pub flags : List Bool
    pub right : AreFlags flags (map (edge_atoms s c J) (take k s.edges))
    pub done : AllDone budget (for_edges (edge_asked side s c J) 0 (take k s.edges) flags)

-- the numbers of the edges whose source has changed
abbrev pub HasChanged : Graph → List LocFamily → List LocFamily → List ℕ → Type 0
HasChanged s old new numbers =
    (k : ℕ) (e : Edge) (d : LocFamily) → k < length s.edges → slice_index_or s.edges k e ≡ e
    → is_listed k numbers ≡ false
    → slice_index_or new e.from d ≡ slice_index_or old e.from d
