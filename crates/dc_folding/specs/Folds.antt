-- One location folded, before the locations are numbered anew: it is left without edges and atoms;
-- and pairs of systems that are folded whole.
use Rattle.std.specs.Prelude.{◌≡◌, ℕ, ◌-◌, eqb, if◌then◌else◌, false, List, [], Some, slice_set}
use Rattle.dc_syntax.specs.declared.tree.Side.{Side}
use Rattle.dc_syntax.specs.declared.tree.Side.TheVariants.{New, Old}
use Rattle.dc_affine.specs.declared.atom.Atom.{Atom}
use Rattle.dc_system.specs.declared.edges.Edge.{Edge}
use Rattle.dc_system.specs.declared.edges.System.{System}
use Rattle.dc_system.specs.Folded.{fold_at, folded, IsFolded}
use Rattle.dc_rows.specs.declared.kinds.Candidates.{Candidates}
use Rattle.dc_families.specs.Graphs.{graph_of}
use Rattle.dc_families.specs.Families.{Family}
use Rattle.dc_families.specs.Rounds.{IsGreatest}
use Rattle.dc_families.specs.Printed.{Question, ArePrinted}
use Rattle.dc_claims.specs.Duties.{Pair}

abbrev pub IsFoldable : System → ℕ → Edge → Type 0
IsFoldable s l c = fold_at s.vars (s.locs - 1) s.edges l ≡ Some c

-- of a system, where c is the composed edge
abbrev pub without_location : ℕ → Edge → System → System
without_location l c s = record {
  vars = s.vars;
  params = s.params;
  locs = s.locs;
  edges = folded l c s.edges;
  literals = s.literals;
}

-- of a family, and of a list of atoms for each location
abbrev pub without_atoms : ℕ → Family → Family
without_atoms l J k a = if eqb k l then false else J k a

abbrev pub lists_without : ℕ → List (List Atom) → List (List Atom)
lists_without l lists = slice_set lists l []

-- ---- of a side of a pair
abbrev pub lists_of : Pair → Side → List (List Atom)
lists_of p New = p.new_atoms
lists_of p Old = p.old_atoms

abbrev pub pair_without : Side → ℕ → Edge → Pair → Pair
pair_without New l c p = record {
  new = without_location l c p.new;
  new_atoms = lists_without l p.new_atoms;
  old = p.old;
  old_atoms = p.old_atoms;
  cases = p.cases;
}
pair_without Old l c p = record {
  new = p.new;
  new_atoms = p.new_atoms;
  old = without_location l c p.old;
  old_atoms = lists_without l p.old_atoms;
  cases = p.cases;
}

-- the same systems and cases with other atoms
abbrev pub with_atoms : List (List Atom) → List (List Atom) → Pair → Pair
with_atoms new old p = record {
  new = p.new;
  new_atoms = new;
  old = p.old;
  old_atoms = old;
  cases = p.cases;
}

-- ---- whole pairs
-- the lists are the printed atoms of the greatest family of the candidates
pub record HasPrintedAtoms (s : System) (cases : List (List Atom)) (c : Candidates)
    (printed : List (List Atom)) : Type 0 where
  pub family : Family
  pub greatest : IsGreatest (graph_of s) cases c family
  pub asked : List (List Question)
  pub is : ArePrinted (graph_of s) c family printed asked

-- both sides of a pair have them, from candidates c of new and e of old
pub record IsPrintedPair (p : Pair) (c e : Candidates) : Type 0 where
  pub new : HasPrintedAtoms p.new p.cases c p.new_atoms
  pub old : HasPrintedAtoms p.old p.cases e p.old_atoms

-- q is p with both systems folded, under the same condition; each has the printed atoms of its own
-- systems, from the same candidates
pub record IsFoldOf (q p : Pair) (c e : Candidates) : Type 0 where
  pub new_folded : IsFolded p.new q.new
  pub old_folded : IsFolded p.old q.old
  pub cases : q.cases ≡ p.cases
  pub before : IsPrintedPair p c e
  pub after : IsPrintedPair q c e
