-- Families as the code keeps them.
use Rattle.std.specs.Prelude.{◌≡◌, ℕ, ◌<◌, ◌≤◌, if◌then◌else◌, List, [], ◌∷◌, ◌++◌, map, drop, length, slice_index_or, Option, Some, None}
use Rattle.dc_affine.specs.declared.atom.Atom.{Atom}
use Rattle.dc_rows.specs.declared.kinds.Candidates.{Candidates}
use Rattle.dc_rows.specs.Rows.{Row}
use Rattle.dc_rows.specs.Candidate.{bound_at}
use Rattle.dc_families.specs.Families.{Family, never, bounded, family_of}
use Rattle.dc_greatest.specs.declared.family.LocFamily.{LocFamily}

-- Whether a location has false, and the number of the least bound of each row
-- a row with the bounds from a number on
abbrev pub bounds_from : Candidates → Row → Option ℕ → List Atom
bounds_from c r None = []
bounds_from c r (Some k) = map (bounded r) (drop k c.bounds)

abbrev pub rows_from : Candidates → List Row → List (Option ℕ) → List Atom
rows_from c [] least = []
rows_from c (r ∷ rs) [] = []
rows_from c (r ∷ rs) (k ∷ ks) = bounds_from c r k ++ rows_from c rs ks

abbrev pub atoms_in : ℕ → Candidates → LocFamily → List Atom
atoms_in n c f = (if f.dead then never n ∷ [] else []) ++ rows_from c c.rows f.least

abbrev pub stands_for : ℕ → Candidates → List LocFamily → Family
stands_for n c fs = family_of (map (atoms_in n c) fs)

-- ---- the list of a location
-- a row with its least bound, if it is kept
abbrev pub with_least : Candidates → Row → Option ℕ → List Atom
with_least c r None = []
with_least c r (Some k) = bounded r (bound_at c k) ∷ []

-- each row that is kept so
abbrev pub least_rows : Candidates → List Row → List (Option ℕ) → List Atom
least_rows c [] least = []
least_rows c (r ∷ rs) [] = []
least_rows c (r ∷ rs) (o ∷ os) = with_least c r o ++ least_rows c rs os

-- false alone, or those
abbrev pub list_in : ℕ → Candidates → LocFamily → List Atom
list_in n c f = if f.dead then never n ∷ [] else least_rows c c.rows f.least

-- a bound's number is at least the least one
abbrev pub IsFrom : Option ℕ → ℕ → Type 0
IsFrom None k = ⊥
IsFrom (Some i) k = i ≤ k

-- ---- shapes
-- the number of the least bound, if it is one
abbrev pub IsBelow : ℕ → Option ℕ → Type 0
IsBelow n None = Unit {0}
IsBelow n (Some k) = k < n

-- one entry for each location, and in it one for each row
pub record IsShaped (locs : ℕ) (c : Candidates) (fs : List LocFamily) : Type 0 where
  pub one_each : length fs ≡ locs
  pub rows : (l : ℕ) (d : LocFamily) → l < locs → length (slice_index_or fs l d).least ≡ length c.rows
  pub bounds : (l r : ℕ) (d : LocFamily) → l < locs → r < length c.rows
      → IsBelow (length c.bounds) (slice_index_or (slice_index_or fs l d).least r None)

-- one location's: one entry for each row, and in range
pub record IsFit (c : Candidates) (f : LocFamily) : Type 0 where
  pub rows : length f.least ≡ length c.rows
  pub bounds : (r : ℕ) → r < length c.rows → IsBelow (length c.bounds) (slice_index_or f.least r None)
