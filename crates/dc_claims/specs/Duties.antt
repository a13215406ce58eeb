-- What potentials owe: one duty for each live edge and each live exit of the two programs, and one
-- for each live case of the condition.
use Rattle.std.specs.Prelude.{ℕ, suc, ◌+◌, ◌-◌, ◌<◌, Bool, true, false, ◌&&◌, eqb, if◌then◌else◌, List, [], ◌∷◌, ◌++◌, map, length, slice_index_or}
use Rattle.dc_syntax.specs.declared.tree.Side.{Side}
use Rattle.dc_syntax.specs.declared.tree.Side.TheVariants.{New, Old}
use Rattle.dc_poly.specs.Terms.{polynomial}
use Rattle.dc_affine.specs.declared.atom.Atom.{Atom}
use Rattle.dc_system.specs.declared.edges.Edge.{Edge}
use Rattle.dc_system.specs.declared.edges.System.{System}
use Rattle.dc_points.specs.Points.{IsDead}
use Rattle.dc_points.specs.Flags.{IsFlag, AreFlags}
use Rattle.dc_claims.specs.declared.duty.Duty.{Duty}
use Rattle.dc_claims.specs.declared.duty.Duty.TheVariants.{Along, AtExit, AtEntry}

-- the two programs, each with the atoms of its locations, and the cases of the condition
pub record Pair : Type 0 where
  pub new : System
  pub new_atoms : List (List Atom)
  pub old : System
  pub old_atoms : List (List Atom)
  pub cases : List (List Atom)

abbrev pub system_of : Pair → Side → System
system_of p New = p.new
system_of p Old = p.old

-- the atoms of a location
abbrev pub atoms_at : Pair → Side → ℕ → List Atom
atoms_at p New l = slice_index_or p.new_atoms l []
atoms_at p Old l = slice_index_or p.old_atoms l []

-- ---- duties
-- the edge with a number; what is missing goes nowhere
abbrev pub no_edge : Edge
no_edge = record { from = 0; to = 0; guard = []; update = []; any = false; cost = polynomial 0 [] }

abbrev pub edge_at : System → ℕ → Edge
edge_at s k = slice_index_or s.edges k no_edge

abbrev pub exit_of : System → ℕ
exit_of s = s.locs - 1

-- an edge speaks over the variables and the chosen value
abbrev pub edge_places : System → ℕ
edge_places s = s.vars + 1

-- the atoms of an edge of a side
abbrev pub edge_atoms : Pair → Side → Edge → List Atom
edge_atoms p side e = atoms_at p side e.from ++ e.guard

-- the atoms under which a duty is owed
abbrev pub atoms_of : Pair → Duty → List Atom
atoms_of p (Along side k) = edge_atoms p side (edge_at (system_of p side) k)
atoms_of p (AtExit side) = atoms_at p side (exit_of (system_of p side))
atoms_of p (AtEntry k) = slice_index_or p.cases k []

-- the places over which it speaks: at an exit the variables, at the entry the parameters
abbrev pub places_of : Pair → Duty → ℕ
places_of p (Along side k) = edge_places (system_of p side)
places_of p (AtExit side) = (system_of p side).vars
places_of p (AtEntry k) = p.new.params

-- there is such an edge, or such a case
abbrev pub IsThere : Pair → Duty → Type 0
IsThere p (Along side k) = k < length (system_of p side).edges
IsThere p (AtExit side) = Unit {0}
IsThere p (AtEntry k) = k < length p.cases

-- a duty is owed where some point meets its atoms
pub record IsOwed (p : Pair) (o : Duty) : Type 0 where
  pub there : IsThere p o
  pub live : ¬ IsDead (atoms_of p o)

-- ---- the duties by flags, in order
pub record Flags : Type 0 where
  pub new_edges : List Bool
  pub new_exit : Bool
  pub old_edges : List Bool
  pub old_exit : Bool
  pub cases : List Bool

-- the numbers of the flags that are set, from k on
abbrev pub numbers_set : ℕ → List Bool → List ℕ
numbers_set k [] = []
numbers_set k (b ∷ bs) = (if b then k ∷ [] else []) ++ numbers_set (suc k) bs

abbrev pub duties_along : Side → List Bool → List Duty
duties_along side flags = map (Along side) (numbers_set 0 flags)

abbrev pub duty_at_exit : Side → Bool → List Duty
duty_at_exit side flag = if flag then AtExit side ∷ [] else []

abbrev pub duties_at_entry : List Bool → List Duty
duties_at_entry flags = map AtEntry (numbers_set 0 flags)

-- new's live edges and its exit, then old's, then the live cases
abbrev pub duties_of : Flags → List Duty
duties_of f =
    duties_along New f.new_edges ++ (duty_at_exit New f.new_exit
    ++ (duties_along Old f.old_edges ++ (duty_at_exit Old f.old_exit ++ duties_at_entry f.cases)))

-- the flags tell which duties are owed
pub record AreRight (p : Pair) (f : Flags) : Type 0 where
  pub new_edges : AreFlags f.new_edges (map (edge_atoms p New) p.new.edges)
  pub new_exit : IsFlag f.new_exit (atoms_of p (AtExit New))
  pub old_edges : AreFlags f.old_edges (map (edge_atoms p Old) p.old.edges)
  pub old_exit : IsFlag f.old_exit (atoms_of p (AtExit Old))
  pub cases : AreFlags f.cases p.cases

abbrev pub same_side : Side → Side → Bool
same_side New New = true
same_side New Old = false
same_side Old New = false
same_side Old Old = true

abbrev pub same_duty : Duty → Duty → Bool
same_duty (Along s k) (Along t l) = same_side s t && eqb k l
same_duty (AtExit s) (AtExit t) = same_side s t
same_duty (AtEntry k) (AtEntry l) = eqb k l
same_duty c d = false
