-- What it is to leave out the chosen value of an edge that chooses none, and to ask for a form
-- after an edge.
use Rattle.std.specs.Prelude.{◌≡◌, ◌↔◌, ℕ, ◌≤◌, ◌<◌, ◌^◌, List, ◌++◌, length, sum_by, unsigned_abs, ℤ}
use Rattle.std.specs.List.{AllByRecursion}
use Rattle.dc_math.specs.Rational.{of_ℤ}
use Rattle.dc_affine.specs.declared.atom.Atom.{Atom}
use Rattle.dc_affine.specs.Atoms.{AllFit, IsAtom}
use Rattle.dc_system.specs.declared.edges.Edge.{Edge}
use Rattle.dc_system.specs.Shapes.{IsEdge}
use Rattle.dc_system.specs.After.{atom_after}
use Rattle.dc_points.specs.Points.{Point, MeetsAll, Entails, EntailsFrom}
use Rattle.dc_points.specs.Stated.{empty_problem, sup_problem}
use Rattle.dc_families.specs.Moves.{edge_places, form_after}
use Rattle.dc_moves.specs.Cuts.{with_guard}

-- ---- the guard at the places of its edge
-- it makes the same problems
abbrev pub CutsAskTheSame : Type 0
CutsAskTheSame =
    (n : ℕ) (atoms : List Atom) (e : Edge)
    → empty_problem (with_guard n atoms e) n ≡ empty_problem (atoms ++ e.guard) n

abbrev pub CutsAskTheSameForms : Type 0
CutsAskTheSameForms = (atoms : List Atom) (e : Edge) (form : List ℤ)
    → sup_problem (with_guard (length form) atoms e) form ≡ sup_problem (atoms ++ e.guard) form

-- and says the same of every point
abbrev pub CutsSayTheSame : Type 0
CutsSayTheSame = (n : ℕ) (e : Edge) (atoms : List Atom) (p : Point) → IsEdge n e
    → MeetsAll p (with_guard (edge_places n e) atoms e) ↔ MeetsAll p (atoms ++ e.guard)

-- in the sizes of atoms over those places
abbrev pub CutsAreAtoms : Type 0
CutsAreAtoms = (n : ℕ) (e : Edge) (atoms : List Atom) → IsEdge n e → AllByRecursion (IsAtom n) atoms
    → AllByRecursion (IsAtom (edge_places n e)) (with_guard (edge_places n e) atoms e)

-- ---- a form after an edge
-- it has one coefficient for each place of the edge, of small sizes
abbrev pub FormsHavePlaces : Type 0
FormsHavePlaces = (n : ℕ) (e : Edge) (row : List ℤ) → length (form_after n e row) ≡ edge_places n e

abbrev pub FormsAreLight : Type 0
FormsAreLight = (n : ℕ) (e : Edge) (row : List ℤ) → n ≤ 10 → IsEdge n e → length row ≤ n → AllFit row
    → sum_by unsigned_abs (form_after n e row) < 2 ^ 70

-- an atom after the edge is entailed exactly where the form of its coefficients is from its constant on
abbrev pub FormsTellAtoms : Type 0
FormsTellAtoms = (n : ℕ) (e : Edge) (hyps : List Atom) (a : Atom) → IsEdge n e
    → Entails hyps (atom_after n e a)
    ↔ EntailsFrom hyps (form_after n e a.coefs) (of_ℤ ((atom_after n e a).c0))
