-- What pruning and the proofs of keeps are lent, and their parts in these words.
use Rattle.std.specs.Prelude.{◌≡◌, ◌↔◌, ◌⊎◌, ℕ, ◌<◌, Bool, true, if◌then◌else◌, List, [], map, slice_index_or, length, filter, remove, is_some, ℤ, Option, Some, None}
use Rattle.std.specs.Option.{option_map}
use Rattle.std.specs.List.{AllByRecursion, range_with_len}
use Rattle.dc_math.specs.Rational.{ℚ, ◌≤ℚ◌}
use Rattle.dc_affine.specs.declared.atom.Atom.{Atom}
use Rattle.dc_affine.specs.Atoms.{IsFullAtom}
use Rattle.dc_lp.specs.Problems.{whole_at}
use Rattle.dc_system.specs.declared.edges.Edge.{Edge}
use Rattle.dc_system.specs.Shapes.{IsWellFormed}
use Rattle.dc_system.specs.After.{atom_after}
use Rattle.dc_program.specs.Programs.{IsCondition}
use Rattle.dc_cert.specs.declared.sparse.Sparse.{Sparse}
use Rattle.dc_cert.specs.declared.certificate.EdgeCert.{EdgeCert}
use Rattle.dc_cert.specs.Vectors.{entry_of}
use Rattle.dc_entail.specs.declared.answer.Site.{Site}
use Rattle.dc_points.specs.Points.{IsDead, Entails, EntailsFrom}
use Rattle.dc_points.specs.Stated.{atom_number, sup_problem}
use Rattle.dc_points.specs.Shown.{IsFlag, AreFlags, CombinesTo}
use Rattle.dc_entail.specs.Asked.{Asked, ask, IsDone, AllDone}
use Rattle.dc_rows.specs.declared.kinds.Candidates.{Candidates}
use Rattle.dc_rows.specs.Candidate.{row_at, bound_at, AreCandidates}
use Rattle.dc_families.specs.Graphs.{Graph, graph_of}
use Rattle.dc_families.specs.Families.{Family, bounded, or_zero, family_of}
use Rattle.dc_families.specs.Moves.{at_start, edge_places, form_after}
use Rattle.dc_families.specs.Rounds.{IsHonest, IsInductive}
use Rattle.dc_families.specs.Printed.{Question, atoms_of, Pruned, IsPrinted}
use Rattle.dc_greatest.specs.Kept.{stands_for, IsShaped}
use Rattle.dc_greatest.specs.Parts.{for_live, for_edges}
use Rattle.dc_invariant.specs.declared.pruning.Pruning.{Pruning}
use Rattle.dc_invariant.specs.declared.keeping.Keeping.{Keeping}
use Rattle.dc_invariant.specs.Prunes.{question_asked}
use Rattle.dc_invariant.specs.Shown.{IsSolutionOf, IsKeep, AreKeeps}
use Rattle.dc_invariant.specs.Keeps as side
use Rattle.dc_invariant.specs.Keeps.{AreLive, numbered, entry_asked, atom_along, edge_asked}

-- these problems and no others
abbrev pub Only : List Asked → List Asked → Type 0
Only ps asked = asked ≡ ps

-- ---- one problem
-- the answer says whether the atom is entailed, and its problem comes to its end
pub record TellsEntailed (site : Site) (hyps : List Atom) (a : Atom) (budget : ℕ)
    (answer : Bool) : Type 0 where
  pub says : (answer ≡ true) ↔ Entails hyps a
  pub done : IsDone budget (ask site (sup_problem hyps a.coefs))

-- the multipliers combine the list to the form and the least number from which on it is entailed
pub record IsLeastKeep (hyps : List Atom) (form : List ℤ) (budget : ℕ) (k : Sparse) : Type 0 where
  pub vector : IsSolutionOf (sup_problem hyps form) budget k
  pub number : ℚ
  pub combines : CombinesTo hyps (length form) (whole_at form) number (entry_of k.items)
  pub least : (w : ℚ) → EntailsFrom hyps form w ↔ (number ≤ℚ w)

abbrev pub HasBound : List Atom → List ℤ → Type 0
HasBound hyps form = (w : ℚ) × EntailsFrom hyps form w

-- ---- pruning
-- one atom of a list, and what is asked of it over the others
abbrev pub one_asked : Site → ℕ → List Atom → Asked
one_asked site k atoms = ask site (sup_problem (remove atoms k) (atom_number atoms k).coefs)

-- it is left out where the others entail it
pub record IsOneStep (site : Site) (k budget : ℕ) (old new : List Atom) : Type 0 where
  pub done : IsDone budget (one_asked site k old)
  pub step : (Entails (remove old k) (atom_number old k) × (new ≡ remove old k))
      ⊎ ((¬ Entails (remove old k) (atom_number old k)) × (new ≡ old))

abbrev pub family : Pruning → Family
family t = stands_for t.system.now.vars t.candidates.now t.at.now

pub record IsPruning (t : Pruning) : Type 0 where
  pub system : IsWellFormed t.system.now
  pub kind : AreCandidates t.system.now.vars t.candidates.now
  pub shape : IsShaped t.system.now.locs t.candidates.now t.at.now
  pub honest : IsHonest (graph_of t.system.now) t.candidates.now (family t)

abbrev pub question : Pruning → ℕ → Question → Asked
question t l q = question_asked t.side t.candidates.now (family t) l q

-- what is asked at one location
abbrev pub LocationAsks : Pruning → ℕ → List Asked → Type 0
LocationAsks t l asked =
    (printed : List Atom) × (qs : List Question)
    × IsPrinted t.candidates.now (family t) l t.system.now.vars printed qs
    × (asked ≡ map (question t l) qs)

-- its printed atoms
pub record TellsLocation (t : Pruning) (l : ℕ) (printed : List Atom) : Type 0 where
  pub questions : List Question
  pub printed_is : IsPrinted t.candidates.now (family t) l t.system.now.vars printed questions
  pub done : AllDone t.budget (map (question t l) questions)

-- the rows of a location that are kept, and their atoms with their least bounds
pub record IsListed (t : Pruning) (l : ℕ) (rows : List ℕ) (atoms : List Atom) : Type 0 where
  pub atoms_are : atoms ≡ atoms_of t.candidates.now (family t) l rows
  pub kind : AllByRecursion (IsFullAtom t.system.now.vars) atoms
  pub live : ¬ IsDead atoms

-- what is asked of them
abbrev pub RowsAsk : Pruning → ℕ → List ℕ → List Asked → Type 0
RowsAsk t l rows asked =
    (left : List ℕ) × (qs : List Question) × Pruned t.candidates.now (family t) l rows [] qs left
    × (asked ≡ map (question t l) qs)

-- and what is left of them
pub record ArePruned (t : Pruning) (l : ℕ) (rows : List ℕ) (atoms : List Atom) : Type 0 where
  pub left : List ℕ
  pub questions : List Question
  pub pruned : Pruned t.candidates.now (family t) l rows [] questions left
  pub atoms_are : atoms ≡ atoms_of t.candidates.now (family t) l left
  pub done : AllDone t.budget (map (question t l) questions)

-- the least bound of a row is one, and its atom with it
abbrev pub HasLeast : Candidates → List (Option ℕ) → ℕ → Type 0
HasLeast c least r =
    (r < length least) × (r < length c.rows)
    × ((k : ℕ) × (slice_index_or least r None ≡ Some k) × (k < length c.bounds))

abbrev pub kept_atom : Candidates → List (Option ℕ) → ℕ → Atom
kept_atom c least r =
    bounded (row_at c r) (or_zero (option_map (bound_at c) (slice_index_or least r None)))

-- the numbers of the rows that have a least bound
abbrev pub rows_with : List (Option ℕ) → List ℕ
rows_with least = filter (λ r. is_some (slice_index_or least r None)) (range_with_len 0 (length least))

-- ---- keeps
pub record IsKeeping (t : Keeping) : Type 0 where
  pub system : IsWellFormed t.system.now
  pub condition : IsCondition t.system.now.params t.cases.now
  pub flags : AreFlags t.live.now t.cases.now
  pub one_each : length t.printed.now ≡ t.system.now.locs
  pub atoms : AllByRecursion (AllByRecursion (IsFullAtom t.system.now.vars)) t.printed.now
  pub inductive : IsInductive (graph_of t.system.now) t.cases.now (family_of t.printed.now)

abbrev pub graph : Keeping → Graph
graph t = graph_of t.system.now

-- ---- the entry
abbrev pub IsEntryKeep : Keeping → List Atom → Atom → Sparse → Type 0
IsEntryKeep t case a k =
    IsKeep case t.system.now.params
    (at_start t.system.now.params a).coefs (at_start t.system.now.params a) t.budget k

-- of one case
abbrev pub case_asked : Keeping → ℕ → List Atom → Bool → List Asked
case_asked t k case live = if live then entry_asked t.side (graph t) t.printed.now k case else []

pub record IsCasePart (t : Keeping) (k : ℕ) (case : List Atom) (live : Bool)
    (xs : List Sparse) : Type 0 where
  pub keeps : side.AreCaseKeeps (graph t) t.printed.now t.budget case live xs
  pub done : AllDone t.budget (case_asked t k case live)

-- of all cases
abbrev pub EntryAsks : Keeping → List Asked → Type 0
EntryAsks t asked =
    asked ≡ for_live (entry_asked t.side (graph t) t.printed.now) 0 t.cases.now t.live.now

pub record AreEntryKeeps (t : Keeping) (xs : List (List Sparse)) : Type 0 where
  pub keeps : side.AreEntryKeeps (graph t) t.printed.now t.budget t.cases.now t.live.now xs
  pub done : AllDone t.budget
      (for_live (entry_asked t.side (graph t) t.printed.now) 0 t.cases.now t.live.now)

-- ---- edges
-- one keep
abbrev pub IsKeepAlong : Keeping → Edge → Atom → Sparse → Type 0
IsKeepAlong t e a k =
    IsKeep (side.kept_atoms (graph t) t.printed.now e) (edge_places t.system.now.vars e)
    (form_after t.system.now.vars e a.coefs) (atom_after t.system.now.vars e a) t.budget k

-- of one live edge
abbrev pub AlongAsks : Keeping → ℕ → Edge → List Asked → Type 0
AlongAsks t k e asked =
    asked ≡ numbered (atom_along t.side (graph t) t.printed.now k e) 0 (side.printed_at
    (graph t) t.printed.now e.to)

pub record AreKeepsAlong (t : Keeping) (k : ℕ) (e : Edge) (xs : List Sparse) : Type 0 where
  pub keeps : AreKeeps (side.kept_atoms (graph t) t.printed.now e) (edge_places t.system.now.vars e)
      (λ a. form_after t.system.now.vars e a.coefs)
      (atom_after t.system.now.vars e) t.budget (side.printed_at (graph t) t.printed.now e.to) xs
  pub done : AllDone t.budget
      (numbered (atom_along t.side (graph t) t.printed.now k e) 0 (side.printed_at
      (graph t) t.printed.now e.to))

-- of one edge
abbrev pub EdgeAsks : Keeping → ℕ → Edge → List Asked → Type 0
EdgeAsks t k e asked =
    (b : Bool) × IsFlag b (side.kept_atoms (graph t) t.printed.now e)
    × (asked ≡ edge_asked t.side (graph t) t.printed.now k e b)

pub record IsEdgePart (t : Keeping) (k : ℕ) (e : Edge) (x : EdgeCert) : Type 0 where
  pub live : Bool
  pub right : IsFlag live (side.kept_atoms (graph t) t.printed.now e)
  pub part : side.IsEdgePart (graph t) t.printed.now t.budget e live x
  pub done : AllDone t.budget (edge_asked t.side (graph t) t.printed.now k e live)

-- of all edges
abbrev pub EdgesAsk : Keeping → List Asked → Type 0
EdgesAsk t asked =
    (flags : List Bool) × AreLive (graph t) t.printed.now flags
    × (asked ≡ for_edges (edge_asked t.side (graph t) t.printed.now) 0 t.system.now.edges flags)

pub record AreEdgeParts (t : Keeping) (xs : List EdgeCert) : Type 0 where
  pub flags : List Bool
  pub right : AreLive (graph t) t.printed.now flags
  pub parts : side.AreEdgeParts (graph t) t.printed.now t.budget t.system.now.edges flags xs
  pub done : AllDone t.budget
      (for_edges (edge_asked t.side (graph t) t.printed.now) 0 t.system.now.edges flags)
