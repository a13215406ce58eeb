-- What a search is lent, and its parts in these words.
use Rattle.std.specs.Prelude.{◌≡◌, ◌⊎◌, ℕ, ℤ, true, false, if◌then◌else◌, List, [], map, slice_index_or}
use Rattle.dc_affine.specs.declared.atom.Atom.{Atom}
use Rattle.dc_system.specs.declared.edges.Edge.{Edge}
use Rattle.dc_system.specs.Shapes.{IsWellFormed}
use Rattle.dc_program.specs.Programs.{IsCondition}
use Rattle.dc_system.specs.After.{is_affine_after}
use Rattle.dc_simplex.specs.declared.SolveFault.{SolveFault}
use Rattle.dc_simplex.specs.declared.SolveFault.TheVariants.{NoMemory}
use Rattle.dc_points.specs.Shown.{AreFlags}
use Rattle.dc_points.specs.Stated.{rational, sup_problem}
use Rattle.dc_lp.specs.Linear.{Linear}
use Rattle.dc_entail.specs.Answers.{IsSolveFault}
use Rattle.dc_entail.specs.Asked.{Asked}
use Rattle.dc_rows.specs.Candidate.{row_at, AreCandidates}
use Rattle.dc_families.specs.Graphs.{Graph, graph_of}
use Rattle.dc_families.specs.Families.{Family, atoms_at}
use Rattle.dc_families.specs.Moves.{edge_places, form_after}
use Rattle.dc_greatest.specs.declared.family.LocFamily.{LocFamily}
use Rattle.dc_greatest.specs.declared.lent.Lent.{Lent}
use Rattle.dc_greatest.specs.Kept.{stands_for, IsShaped}
use Rattle.dc_moves.specs.Cuts.{with_guard}
use Rattle.dc_greatest.specs.Bounds.{HasEnd}
use Rattle.dc_greatest.specs.Parts.{edge_atoms, affine_rows, edge_row, entry_rows}
use Rattle.dc_greatest.specs.Searches as parts

pub record IsLent (t : Lent) : Type 0 where
  pub system : IsWellFormed t.system.now
  pub condition : IsCondition t.system.now.params t.cases.now
  pub flags : AreFlags t.live.now t.cases.now
  pub kind : AreCandidates t.system.now.vars t.candidates.now

abbrev pub graph : Lent → Graph
graph t = graph_of t.system.now

-- the family that is kept so
abbrev pub family : Lent → List LocFamily → Family
family t fs = stands_for t.system.now.vars t.candidates.now fs

abbrev pub AreShaped : Lent → List LocFamily → Type 0
AreShaped t fs = IsShaped t.system.now.locs t.candidates.now fs

abbrev pub EntryAsks : Lent → Family → List Asked → Type 0
EntryAsks t J asked = parts.EntryAsks t.side (graph t) t.cases.now t.live.now t.candidates.now J asked

abbrev pub EdgesAsk : Lent → Family → List Asked → Type 0
EdgesAsk t J asked = parts.EdgesAsk t.side (graph t) t.cases.now t.live.now t.candidates.now J asked

abbrev pub EdgeAsks : Lent → Family → ℕ → Edge → List Asked → Type 0
EdgeAsks t J k e asked =
    parts.EdgeAsks t.side (graph t) t.cases.now t.live.now t.candidates.now J k e asked

abbrev pub RoundAsks : Lent → Family → List Asked → Type 0
RoundAsks t J asked = parts.RoundAsks t.side (graph t) t.cases.now t.live.now t.candidates.now J asked

abbrev pub AreSettled : Lent → Family → List ℕ → Type 0
AreSettled t J numbers =
    parts.AreSettled t.side (graph t) t.cases.now t.live.now t.candidates.now J t.budget numbers

abbrev pub IsSettledEntry : Lent → Family → Type 0
IsSettledEntry t J =
    parts.IsSettledEntry t.side (graph t) t.cases.now t.live.now t.candidates.now J t.budget

abbrev pub IsRoundTo : Lent → Family → List LocFamily → Type 0
IsRoundTo t J fs =
    parts.IsRoundTo t.side (graph t) t.cases.now t.live.now t.candidates.now J t.budget fs

abbrev pub AreEntriesTaken : Lent → Family → List LocFamily → Type 0
AreEntriesTaken t J fs =
    parts.AreEntriesTaken t.side (graph t) t.cases.now t.live.now t.candidates.now J t.budget fs

abbrev pub AreCasesTaken : Lent → Family → ℕ → List LocFamily → Type 0
AreCasesTaken t J k fs =
    parts.AreCasesTaken t.side (graph t) t.cases.now t.live.now t.candidates.now J t.budget k fs

abbrev pub AreEdgesTaken : Lent → Family → List LocFamily → Type 0
AreEdgesTaken t J fs =
    parts.AreEdgesTaken t.side (graph t) t.cases.now t.live.now t.candidates.now J t.budget fs

abbrev pub AreFirstTaken : Lent → Family → ℕ → List LocFamily → Type 0
AreFirstTaken t J k fs =
    parts.AreFirstTaken t.side (graph t) t.cases.now t.live.now t.candidates.now J t.budget k fs

abbrev pub IsEdgeTaken : Lent → Family → ℕ → Edge → LocFamily → LocFamily → Type 0
IsEdgeTaken t J k e old new =
    parts.IsEdgeTaken t.side
    (graph t) t.cases.now t.live.now t.candidates.now J t.budget k e old new

abbrev pub edge_row_asked : Lent → Family → ℕ → Edge → ℕ → List Asked
edge_row_asked t J k e r =
    parts.edge_row_asked t.side (graph t) t.cases.now t.live.now t.candidates.now J k e r

abbrev pub entry_row_asked : Lent → Family → ℕ → List Atom → ℕ → List Asked
entry_row_asked t J k case r =
    parts.entry_row_asked t.side (graph t) t.cases.now t.live.now t.candidates.now J k case r

-- ---- one edge
-- its atoms, the guard at its places
abbrev pub atoms_of : Lent → Family → Edge → List Atom
atoms_of t J e =
    with_guard (edge_places t.system.now.vars e)
    (atoms_at t.system.now.vars t.candidates.now J e.from) e

-- the problem of a row after it
abbrev pub row_problem : Lent → Family → Edge → ℕ → Linear ℤ
row_problem t J e r =
    sup_problem (edge_atoms (graph t) t.candidates.now J e)
    (form_after t.system.now.vars e (row_at t.candidates.now r))

-- is asked where the row is affine after the edge
abbrev pub IsAsked : Lent → Edge → ℕ → Type 0
IsAsked t e r = is_affine_after e (row_at t.candidates.now r) ≡ true

abbrev pub HasRowEnd : Lent → Family → Edge → ℕ → Type 0
HasRowEnd t J e r = IsAsked t e r → HasEnd t.budget (row_problem t J e r)

abbrev pub IsRowFault : Lent → Family → Edge → ℕ → SolveFault → Type 0
IsRowFault t J e r f =
    (IsAsked t e r × IsSolveFault (rational (row_problem t J e r)) t.budget f) ⊎ (f ≡ NoMemory)

abbrev pub edge_rows_asked : Lent → Family → ℕ → Edge → List Asked
edge_rows_asked t J k e =
    map (edge_row t.side (graph t) t.candidates.now J k e)
    (affine_rows (graph t) t.candidates.now J e)

-- ---- one case of the condition
abbrev pub case_at : Lent → ℕ → List Atom
case_at t k = slice_index_or t.cases.now k []

abbrev pub entry_rows_asked : Lent → Family → ℕ → List Asked
entry_rows_asked t J k = entry_rows t.side (graph t) t.candidates.now J k (case_at t k)

abbrev pub case_asked : Lent → Family → ℕ → List Asked
case_asked t J k = if slice_index_or t.live.now k false then entry_rows_asked t J k else []
