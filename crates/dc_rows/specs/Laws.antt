-- What the two lists have, in the subject's own words.
use Rattle.std.specs.Prelude.{◌≡◌, ◌↔◌, ℕ, ◌<◌, ◌≤◌, ◌⊎◌, List, ℤ, pos, negsuc, ◌-ℤ◌, neg_ℤ, unsigned_abs, Bool, true, None}
use Rattle.std.specs.List.{AllByRecursion}
use Rattle.dc_math.specs.Members.{Among}
use Rattle.dc_affine.specs.declared.atom.Atom.{Atom}
use Rattle.dc_affine.specs.Atoms.{IsAtom}
use Rattle.dc_system.specs.declared.edges.Edge.{Edge}
use Rattle.dc_system.specs.declared.edges.System.{System}
use Rattle.dc_system.specs.Shapes.{IsWellFormed}
use Rattle.dc_rows.specs.Rows.{Row, alone, together, linear_part, is_unchosen, is_nonzero, candidate_rows}
use Rattle.dc_rows.specs.Bounds.{mentioned, largest_bound, candidate_bounds}
use Rattle.dc_rows.specs.Candidate.{candidates_of, size_fault, AreCandidates}

-- 1 or -1
abbrev pub IsUnit : ℤ → Type 0
IsUnit c = (c ≡ pos 1) ⊎ (c ≡ negsuc 0)

-- where a row may come from
pub data IsSource (s : System) (when : List Atom) (pairs : Bool) (r : Row) : Type 0 where
  -- a variable, or its negation
  single : (k : ℕ) (c : ℤ) → k < s.vars → IsUnit c → r ≡ alone s.vars k c → IsSource s when pairs r
  -- the sum of two variables, or of one and the negation of the other, or of both negations
  pair : (j k : ℕ) (c d : ℤ) → pairs ≡ true → j < k → k < s.vars → IsUnit c → IsUnit d
      → r ≡ together s.vars j c k d → IsSource s when pairs r
  -- the linear part of an atom of the condition, unless it is zero
  condition : (a : Atom) → Among a when → r ≡ linear_part s.vars a → is_nonzero r ≡ true
      → IsSource s when pairs r
  -- that of an atom of a guard, unless it mentions the chosen value
  guard : (e : Edge) (a : Atom) → Among e s.edges → Among a e.guard → is_unchosen s.vars a ≡ true
      → r ≡ linear_part s.vars a → is_nonzero r ≡ true → IsSource s when pairs r

-- a row is a candidate exactly where it has a source
abbrev pub RowsHaveSources : Type 0
RowsHaveSources =
    (s : System) (when : List Atom) (pairs : Bool) (r : Row) → Among r (candidate_rows s when pairs)
    ↔ IsSource s when pairs r

-- b or its negation is c, or one less or one more
abbrev pub IsNear : ℤ → ℕ → Type 0
IsNear b c = (d : ℤ) × ((d ≡ b) ⊎ (d ≡ neg_ℤ b)) × (unsigned_abs (d -ℤ pos c) ≤ 1)

-- a bound is a candidate exactly where it is near a number that is mentioned, and within its size
abbrev pub BoundsAreNear : Type 0
BoundsAreNear =
    (s : System) (when : List Atom) (b : ℤ) → Among b (candidate_bounds s when)
    ↔ ((unsigned_abs b ≤ largest_bound) × ((c : ℕ) × Among c (mentioned s when) × IsNear b c))

-- what no limit refuses is as every call wants it that is lent candidates: rows differ, none is
-- zero, each is within an atom's sizes; bounds rise
abbrev pub AreKind : Type 0
AreKind =
    (s : System) (when : List Atom) (pairs : Bool) → IsWellFormed s
    → AllByRecursion (IsAtom s.params) when → size_fault (candidates_of s when pairs) ≡ None
    → AreCandidates s.vars (candidates_of s when pairs)
