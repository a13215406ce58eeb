-- Least bounds: what is asked of a row, and what a way leaves of a location's atoms.
use Rattle.std.specs.Prelude.{◌≡◌, ◌↔◌, ℕ, ◌<◌, ◌≤◌, ltb, if◌then◌else◌, List, [], ◌∷◌, length, replicate, slice_index_or, slice_set, true, Option, Some, None, ℤ, ◌+ℤ◌, ◌<ℤ◌}
use Rattle.dc_math.specs.Members.{Among}
use Rattle.dc_math.specs.Rational.{ℚ, of_ℤ, ◌≤ℚ◌}
use Rattle.dc_affine.specs.declared.atom.Atom.{Atom}
use Rattle.dc_lp.specs.Linear.{Linear}
use Rattle.dc_lp.specs.Tables.{Table}
use Rattle.dc_pivots.specs.declared.Ending.{Ending}
use Rattle.dc_simplex.specs.Limits.{Done, IsAnswer}
use Rattle.dc_points.specs.Stated.{rational}
use Rattle.dc_rows.specs.declared.kinds.Candidates.{Candidates}
use Rattle.dc_rows.specs.Candidate.{row_at, bound_at}
use Rattle.dc_families.specs.Families.{bounded}
use Rattle.dc_greatest.specs.declared.family.LocFamily.{LocFamily}
use Rattle.dc_greatest.specs.Kept.{atoms_in, IsFrom, IsBelow, IsFit}

-- ---- all candidates of a location
-- the number of the first bound, if there is one
abbrev pub first_number : List ℤ → Option ℕ
first_number [] = None
first_number (b ∷ bs) = Some 0

abbrev pub whole_of : Candidates → LocFamily
whole_of c = record { dead = true; least = replicate (length c.rows) (first_number c.bounds) }

-- ---- one row
abbrev pub AreRising : Candidates → Type 0
AreRising c = (i k : ℕ) → i < k → k < length c.bounds → bound_at c i <ℤ bound_at c k

-- bound number m, with k added, is at least v
abbrev pub IsEnough : Candidates → ℚ → ℤ → ℕ → Type 0
IsEnough c v k m = v ≤ℚ of_ℤ (bound_at c m +ℤ k)

-- the number of the first bound of which P is so, and it is so of all from there on
pub record IsLeast (c : Candidates) (P : ℕ → Type 0) (o : Option ℕ) : Type 0 where
  pub below : IsBelow (length c.bounds) o
  pub tells : (m : ℕ) → m < length c.bounds → IsFrom o m ↔ P m

-- the run of a problem comes to its end
abbrev pub HasEnd : ℕ → Linear ℤ → Type 0
HasEnd budget p = (n : ℕ) × (e : Ending) × (t : Table ℚ) × IsAnswer (rational p) budget (Done n e t)

-- the later of two bounds, where none is after all
abbrev pub later : Option ℕ → Option ℕ → Option ℕ
later None b = None
later (Some i) None = None
later (Some i) (Some k) = Some (if ltb i k then k else i)

-- a row with its bounds from a number on
abbrev pub lowered : ℕ → Option ℕ → LocFamily → LocFamily
lowered r o f = record {
  dead = f.dead;
  least = slice_set f.least r (later (slice_index_or f.least r None) o);
}

-- what a way leaves of a row, where it leaves the others alone
pub record IsRowLowered (Gives : Atom → Type 0) (c : Candidates) (r : ℕ)
    (old new : LocFamily) : Type 0 where
  pub fit : IsFit c new
  pub dead : new.dead ≡ old.dead
  pub row : (m : ℕ) → m < length c.bounds
      → IsFrom (slice_index_or new.least r None) m
      ↔ (IsFrom (slice_index_or old.least r None) m × Gives (bounded (row_at c r) (bound_at c m)))
  pub others : (i : ℕ) → (i ≡ r → ⊥) → slice_index_or new.least i None ≡ slice_index_or old.least i None

-- ---- all rows
-- what a way leaves of the atoms of a location: what it had and the way gives
pub record IsTaken (Gives : Atom → Type 0) (n : ℕ) (c : Candidates) (old new : LocFamily) : Type 0 where
  pub fit : IsFit c new
  pub is : (a : Atom) → Among a (atoms_in n c new) ↔ (Among a (atoms_in n c old) × Gives a)

-- and of its first n rows
pub record IsLowered (Gives : Atom → Type 0) (n : ℕ) (c : Candidates)
    (old new : LocFamily) : Type 0 where
  pub fit : IsFit c new
  pub dead : new.dead ≡ old.dead
  pub rows : (r m : ℕ) → r < n → m < length c.bounds
      → IsFrom (slice_index_or new.least r None) m
      ↔ (IsFrom (slice_index_or old.least r None) m × Gives (bounded (row_at c r) (bound_at c m)))
  pub others : (r : ℕ) → n ≤ r → slice_index_or new.least r None ≡ slice_index_or old.least r None

-- a row that the one does not have, the other does not have
abbrev pub HasNoMore : LocFamily → LocFamily → Type 0
HasNoMore f g = (r : ℕ) → slice_index_or f.least r None ≡ None → slice_index_or g.least r None ≡ None
