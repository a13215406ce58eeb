-- Families: which candidate atoms each location has, as tests and as lists of atoms.
use Rattle.std.specs.Prelude.{ℕ, Bool, ◌&&◌, ltb, if◌then◌else◌, is_some, List, [], ◌∷◌, map, filter, find, flat_map, length, replicate, slice_index_or, ℤ, pos, negsuc, Option, Some, None}
use Rattle.std.specs.List.{range_with_len, list_any}
use Rattle.std.specs.Ordering.{int_eq}
use Rattle.dc_affine.specs.declared.atom.Atom.{Atom}
use Rattle.dc_rows.specs.declared.kinds.Candidates.{Candidates}
use Rattle.dc_rows.specs.Rows.{Row, same_row}
use Rattle.dc_rows.specs.Candidate.{row_at}
use Rattle.dc_families.specs.Graphs.{Graph}

-- ---- candidate atoms
-- "-1 >= 0" over n variables
abbrev pub never : ℕ → Atom
never n = record { c0 = negsuc 0; coefs = replicate n (pos 0) }

-- "row + b >= 0"
abbrev pub bounded : Row → ℤ → Atom
bounded r b = record { c0 = b; coefs = r }

abbrev pub candidate_atoms : ℕ → Candidates → List Atom
candidate_atoms n c = never n ∷ flat_map (λ r. map (bounded r) c.bounds) c.rows

-- ---- families
abbrev pub Family : Type 0
Family = ℕ → Atom → Bool

abbrev pub same_atom : Atom → Atom → Bool
same_atom a b = int_eq a.c0 b.c0 && same_row a.coefs b.coefs

abbrev pub has_atom : List Atom → Atom → Bool
has_atom atoms a = list_any (same_atom a) atoms

-- the atoms of lists, one list for each location
abbrev pub family_of : List (List Atom) → Family
family_of lists l a = has_atom (slice_index_or lists l []) a

-- each candidate at each location
abbrev pub everything : Graph → Candidates → Family
everything s c l a = ltb l s.locs && has_atom (candidate_atoms s.vars c) a

-- ---- the atoms of a location
-- the least bound that the family has for a row
abbrev pub least_in : Candidates → Family → ℕ → ℕ → Option ℤ
least_in c J l r = find (λ b. J l (bounded (row_at c r) b)) c.bounds

-- the numbers of the rows that the family has there
abbrev pub kept_rows : Candidates → Family → ℕ → List ℕ
kept_rows c J l = filter (λ r. is_some (least_in c J l r)) (range_with_len 0 (length c.rows))

abbrev pub or_zero : Option ℤ → ℤ
or_zero None = pos 0
or_zero (Some b) = b

abbrev pub least_atom : Candidates → Family → ℕ → ℕ → Atom
least_atom c J l r = bounded (row_at c r) (or_zero (least_in c J l r))

-- false alone, or each row that is kept with its least bound
abbrev pub atoms_at : ℕ → Candidates → Family → ℕ → List Atom
atoms_at n c J l = if J l (never n) then never n ∷ [] else map (least_atom c J l) (kept_rows c J l)
