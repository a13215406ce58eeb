-- What the lines of a certificate show of atoms.
use Rattle.std.specs.Prelude.{ℕ, ◌+◌, Bool, eqb, if◌then◌else◌, List, [], ◌∷◌, ◌++◌, map, length, ℤ, pos, negsuc, Option, Some}
use Rattle.std.specs.List.{range_with_len}
use Rattle.std.specs.Option.{option_map}
use Rattle.dc_math.specs.Rational.{ℚ, of_ℤ, le_ℚ}
use Rattle.dc_math.specs.Tests.{eq_ℚ, is_negative, is_positive}
use Rattle.dc_frac.specs.Value.{value}
use Rattle.dc_affine.specs.declared.atom.Atom.{Atom}
use Rattle.dc_lp.specs.Folds.{folded}
use Rattle.dc_cert.specs.declared.sparse.Item.{Item}
use Rattle.dc_cert.specs.declared.sparse.Sparse.{Sparse}
use Rattle.dc_cert.specs.declared.certificate.Liveness.{Liveness}
use Rattle.dc_cert.specs.declared.certificate.Liveness.TheVariants.{Dead, Live}
use Rattle.dc_cert.specs.Vectors.{entry_of, in_range}
use Rattle.dc_points.specs.Stated.{atom_number, coefficient_of}
use Rattle.dc_clauses.specs.Steps.{Test}

-- ---- vectors
-- the value at an index, 0 where there is no item
abbrev pub at : Sparse → ℕ → ℚ
at v k = entry_of v.items k

-- each item is positive, in order
abbrev pub signs : Sparse → List Test
signs v = map (λ (i : Item). Some (is_positive (value i.value))) v.items

-- ---- sums of atoms
-- the parts of an atom over n places: its coefficients by place, and as part n its constant
abbrev pub part : ℕ → Atom → ℕ → ℤ
part n a i = if eqb i n then a.c0 else coefficient_of a i

-- a part of the sum of atoms, each times its multiplier
abbrev pub part_sum : List Atom → ℕ → Sparse → ℕ → Option ℚ
part_sum hyps n v i = folded (length hyps) (λ j. part n (atom_number hyps j) i) (at v)

-- the product of a vector with the parts of an atom, which are the atom's column of the empty
-- problem
abbrev pub column_sum : List Atom → ℕ → Sparse → ℕ → Option ℚ
column_sum hyps n y j = folded (n + 1) (part n (atom_number hyps j)) (at y)

-- a sum is this whole number, or at most it
abbrev pub is : Option ℚ → ℤ → Test
is s c = option_map (λ x. eq_ℚ x (of_ℤ c)) s

abbrev pub is_at_most : Option ℚ → ℤ → Test
is_at_most s c = option_map (λ x. le_ℚ x (of_ℤ c)) s

-- the coefficients of the sum, by place, are those of an atom
abbrev pub coefficient_parts : List Atom → ℕ → Sparse → (ℕ → ℤ) → List Test
coefficient_parts hyps n v f = map (λ i. is (part_sum hyps n v i) (f i)) (range_with_len 0 n)

-- ---- dead: positive multipliers, whose sum has no coefficient and the constant -1
abbrev pub dead_parts : List Atom → ℕ → Sparse → List Test
dead_parts hyps n v =
    signs v ++ (coefficient_parts hyps n v (λ i. pos 0) ++ is (part_sum hyps n v n) (negsuc 0) ∷ [])

-- ---- live: the product with each atom's column is at most 0, and the last part is negative
abbrev pub live_parts : List Atom → ℕ → Sparse → List Test
live_parts hyps n y =
    map (λ j. is_at_most (column_sum hyps n y j) (pos 0)) (range_with_len 0 (length hyps))
    ++ Some (is_negative (at y n)) ∷ []

abbrev pub line_parts : List Atom → ℕ → Liveness → List Test
line_parts hyps n (Dead v) = dead_parts hyps n v
line_parts hyps n (Live y) = live_parts hyps n y

-- the indices of a line over so many atoms, and n places, are in range
abbrev pub line_in_range : ℕ → ℕ → Liveness → Bool
line_in_range atoms n (Dead v) = in_range atoms v
line_in_range atoms n (Live y) = in_range (n + 1) y

-- ---- a keep: positive multipliers, whose sum has the atom's coefficients and a constant of at
-- most the atom's; `more` is tested in between
abbrev pub keep_parts : List Atom → ℕ → Atom → List Test → Sparse → List Test
keep_parts hyps n a more v =
    signs v ++ (more ++ (coefficient_parts hyps n v (coefficient_of a)
    ++ is_at_most (part_sum hyps n v n) a.c0 ∷ []))
