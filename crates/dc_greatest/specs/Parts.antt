-- The problems of the rounds, in order.
use Rattle.std.specs.Prelude.{ℕ, suc, Bool, if◌then◌else◌, List, [], ◌∷◌, ◌++◌, map, filter, take}
use Rattle.dc_syntax.specs.declared.tree.Side.{Side}
use Rattle.dc_affine.specs.declared.atom.Atom.{Atom}
use Rattle.dc_system.specs.declared.edges.Edge.{Edge}
use Rattle.dc_system.specs.After.{is_affine_after}
use Rattle.dc_entail.specs.declared.answer.Site.TheVariants as site
use Rattle.dc_points.specs.Stated.{empty_problem, sup_problem}
use Rattle.dc_entail.specs.Asked.{Asked, ask}
use Rattle.dc_points.specs.Shown.{AreFlags}
use Rattle.dc_rows.specs.declared.kinds.Candidates.{Candidates}
use Rattle.dc_rows.specs.Candidate.{row_at}
use Rattle.dc_families.specs.Graphs.{Graph}
use Rattle.dc_families.specs.Families.{Family, never, everything, kept_rows, atoms_at}
use Rattle.dc_families.specs.Moves.{edge_places, form_after}
use Rattle.dc_families.specs.Rounds.{IsRound, IsWithin}

-- ---- numbered lists
-- f for each live case with its number, from k on
abbrev pub for_live : {A : Type 0} → (ℕ → List Atom → List A) → ℕ → List (List Atom) → List Bool
    → List A
for_live f k [] live = []
for_live f k (case ∷ cases) [] = []
for_live f k (case ∷ cases) (b ∷ live) = (if b then f k case else []) ++ for_live f (suc k) cases live

-- f for each edge with its number, from k on, and whether it is live
abbrev pub for_edges : {A : Type 0} → (ℕ → Edge → Bool → List A) → ℕ → List Edge → List Bool → List A
for_edges f k [] live = []
for_edges f k (e ∷ es) [] = []
for_edges f k (e ∷ es) (b ∷ live) = f k e b ++ for_edges f (suc k) es live

module _ (s : Graph) (c : Candidates) (J : Family) where
  -- the atoms of an edge: those of its source, then its guard
  abbrev pub edge_atoms : Edge → List Atom
  edge_atoms e = atoms_at s.vars c J e.from ++ e.guard

  -- the flags tell which edges are live
  abbrev pub AreLive : List Bool → Type 0
  AreLive flags = AreFlags flags (map edge_atoms s.edges)

  -- the rows that are kept at an edge's target and affine after it
  abbrev pub affine_rows : Edge → List ℕ
  affine_rows e = filter (λ r. is_affine_after e (row_at c r)) (kept_rows c J e.to)

module _ (side : Side) (s : Graph) (c : Candidates) (J : Family) where
  -- ---- at the entry: by a case, each row that is kept at location 0, with the locals 0
  abbrev pub entry_row : ℕ → List Atom → ℕ → Asked
  entry_row k case r = ask (site.EntryRow side k r) (sup_problem case (take s.params (row_at c r)))

  abbrev pub entry_rows : ℕ → List Atom → List Asked
  entry_rows k case = map (entry_row k case) (kept_rows c J 0)

  -- ---- along an edge: whether it is dead, and where it is live those rows
  abbrev pub edge_row : ℕ → Edge → ℕ → Asked
  edge_row k e r =
      ask (site.EdgeRow side k r)
      (sup_problem (edge_atoms s c J e) (form_after s.vars e (row_at c r)))

  abbrev pub edge_empty : ℕ → Edge → Asked
  edge_empty k e = ask (site.Edge side k) (empty_problem (edge_atoms s c J e) (edge_places s.vars e))

  -- an edge whose source has false is not asked for
  abbrev pub edge_asked : ℕ → Edge → Bool → List Asked
  edge_asked k e live =
      if J e.from (never s.vars) then [] else edge_empty k e
      ∷ (if live then map (edge_row k e) (affine_rows s c J e) else [])

  -- ---- a round, where flags tell the live cases and the live edges
  abbrev pub round_asked : List (List Atom) → List Bool → List Bool → List Asked
  round_asked cases live edges_live =
      for_live entry_rows 0 cases live ++ for_edges edge_asked 0 s.edges edges_live

module _ (side : Side) (s : Graph) (cases : List (List Atom)) (live : List Bool) (c : Candidates) where
  -- From a family the rounds ask these problems, up to one that changes nothing, and leave this family.
  pub data Rounds : Family → List Asked → Family → Type 0 where
    last : {J : Family} (flags : List Bool) → AreLive s c J flags → IsRound s cases J J
        → Rounds J (round_asked side s c J cases live flags) J
    next : {J K L : Family} {asked : List Asked} (flags : List Bool) → AreLive s c J flags
        → IsRound s cases J K → ¬ IsWithin J K
        → Rounds K asked L → Rounds J (round_asked side s c J cases live flags ++ asked) L

  -- from every candidate everywhere
  abbrev pub RoundsAsk : List Asked → Type 0
  RoundsAsk asked = (J : Family) × Rounds (everything s c) asked J
