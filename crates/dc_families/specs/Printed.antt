-- Printed atoms: from the last to the first, an atom is dropped that the others still there entail.
use Rattle.std.specs.Prelude.{◌≡◌, ℕ, ◌<◌, true, false, List, [], ◌∷◌, ◌++◌, map, length, slice_index_or}
use Rattle.dc_affine.specs.declared.atom.Atom.{Atom}
use Rattle.dc_points.specs.Points.{Entails}
use Rattle.dc_rows.specs.declared.kinds.Candidates.{Candidates}
use Rattle.dc_families.specs.Graphs.{Graph}
use Rattle.dc_families.specs.Families.{Family, never, kept_rows, least_atom}

-- whether the atoms of other rows entail the atom of a row
pub record Question : Type 0 where
  pub row : ℕ
  pub others : List ℕ

module _ (c : Candidates) (J : Family) (l : ℕ) where
  abbrev pub atoms_of : List ℕ → List Atom
  atoms_of rows = map (least_atom c J l) rows

  -- Of the rows that are kept, `front` are still to be looked at and `back` are those after them
  -- that stay. The questions that are asked, and what is left in the end.
  pub data Pruned : List ℕ → List ℕ → List Question → List ℕ → Type 0 where
    done : {left : List ℕ} → Pruned [] left [] left
    drops : {rows front back left : List ℕ} {asked : List Question} (r : ℕ) → rows ≡ front ++ r ∷ []
        → Entails (atoms_of (front ++ back)) (least_atom c J l r)
        → Pruned front back asked left
        → Pruned rows back (record { row = r; others = front ++ back } ∷ asked) left
    keeps : {rows front back left : List ℕ} {asked : List Question} (r : ℕ) → rows ≡ front ++ r ∷ []
        → ¬ Entails (atoms_of (front ++ back)) (least_atom c J l r)
        → Pruned front (r ∷ back) asked left
        → Pruned rows back (record { row = r; others = front ++ back } ∷ asked) left

  -- where the family has no false
  pub record IsPruned (printed : List Atom) (asked : List Question) : Type 0 where
    pub left : List ℕ
    pub pruned : Pruned (kept_rows c J l) [] asked left
    pub is : printed ≡ atoms_of left

  -- the atoms that are printed at location l, over n variables, and the questions that are asked
  -- for them; false stays alone
  pub record IsPrinted (n : ℕ) (printed : List Atom) (asked : List Question) : Type 0 where
    pub dead : J l (never n) ≡ true → (printed ≡ never n ∷ []) × (asked ≡ [])
    pub other : J l (never n) ≡ false → IsPruned printed asked

-- the printed atoms of each location, and the questions that are asked for them there
pub record ArePrinted (s : Graph) (c : Candidates) (J : Family) (printed : List (List Atom))
    (asked : List (List Question)) : Type 0 where
  pub one_each : length printed ≡ s.locs
  pub one_part_each : length asked ≡ s.locs
  pub each : (l : ℕ) → l < s.locs
      → IsPrinted c J l s.vars (slice_index_or printed l []) (slice_index_or asked l [])
