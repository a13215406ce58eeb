-- Candidate rows: the linear forms over a program's variables that may be bounded.
use Rattle.std.specs.Prelude.{ℕ, ◌+◌, ◌-◌, Bool, not, eqb, if◌then◌else◌, List, [], ◌∷◌, ◌++◌, map, filter, flat_map, ℤ, pos, negsuc, slice_index_or}
use Rattle.std.specs.List.{range_with_len, list_all, list_any}
use Rattle.std.specs.Ordering.{int_eq}
use Rattle.std.specs.Cmp.Lexicographic.{pointwise}
use Rattle.dc_affine.specs.declared.atom.Atom.{Atom}
use Rattle.dc_system.specs.declared.edges.Edge.{Edge}
use Rattle.dc_system.specs.declared.edges.System.{System}

-- one coefficient for each variable
abbrev pub Row : Type 0
Row = List ℤ

abbrev pub row_by : ℕ → (ℕ → ℤ) → Row
row_by n f = map f (range_with_len 0 n)

-- ---- rows of one and of two variables
-- c times variable k
abbrev pub alone : ℕ → ℕ → ℤ → Row
alone n k c = row_by n (λ i. if eqb i k then c else pos 0)

-- c times variable j and d times variable k
abbrev pub together : ℕ → ℕ → ℤ → ℕ → ℤ → Row
together n j c k d = row_by n (λ i. if eqb i j then c else (if eqb i k then d else pos 0))

-- x and -x
abbrev pub rows_of_one : ℕ → ℕ → List Row
rows_of_one n k = alone n k (pos 1) ∷ alone n k (negsuc 0) ∷ []

-- for each variable in order
abbrev pub single_rows : ℕ → List Row
single_rows n = flat_map (rows_of_one n) (range_with_len 0 n)

-- of two variables: difference both ways, sum, and minus the sum
abbrev pub rows_of_two : ℕ → ℕ → ℕ → List Row
rows_of_two n j k =
    together n j (pos 1) k (negsuc 0) ∷ together n j (negsuc 0) k (pos 1)
    ∷ together n j (pos 1) k (pos 1) ∷ together n j (negsuc 0) k (negsuc 0) ∷ []

-- with each later variable in order
abbrev pub later_rows : ℕ → ℕ → List Row
later_rows n j = flat_map (rows_of_two n j) (range_with_len (j + 1) (n - (j + 1)))

abbrev pub pair_rows : ℕ → List Row
pair_rows n = flat_map (later_rows n) (range_with_len 0 n)

-- ---- rows of atoms
-- the coefficients of an atom for n variables; what is missing is 0
abbrev pub linear_part : ℕ → Atom → Row
linear_part n a = row_by n (λ k. slice_index_or a.coefs k (pos 0))

-- an atom over n variables and the chosen value that does not mention the latter
abbrev pub is_unchosen : ℕ → Atom → Bool
is_unchosen n a = int_eq (slice_index_or a.coefs n (pos 0)) (pos 0)

abbrev pub guard_atoms : List Edge → List Atom
guard_atoms es = flat_map (λ (e : Edge). e.guard) es

abbrev pub is_nonzero : Row → Bool
is_nonzero r = not (list_all (λ c. int_eq c (pos 0)) r)

-- a row of zeros is skipped
abbrev pub linear_parts : ℕ → List Atom → List Row
linear_parts n atoms = filter is_nonzero (map (linear_part n) atoms)

-- of the condition's atoms, then of the guards' atoms; one that mentions the chosen value is skipped
abbrev pub atom_rows : System → List Atom → List Row
atom_rows s when = linear_parts s.vars (when ++ filter (is_unchosen s.vars) (guard_atoms s.edges))

-- ---- all of them
abbrev pub rows_with_repeats : System → List Atom → Bool → List Row
rows_with_repeats s when pairs =
    single_rows s.vars ++ ((if pairs then pair_rows s.vars else []) ++ atom_rows s when)

abbrev pub same_row : Row → Row → Bool
same_row r q = pointwise int_eq r q

-- each once, where it stands first
abbrev pub without_repeats : List Row → List Row
without_repeats [] = []
without_repeats (r ∷ rs) = r ∷ filter (λ q. not (same_row r q)) (without_repeats rs)

-- a row after those that are there, unless it is one of them
abbrev pub with_row : List Row → Row → List Row
with_row out r = if list_any (same_row r) out then out else out ++ r ∷ []

-- one after another
abbrev pub with_rows : List Row → List Row → List Row
with_rows out [] = out
with_rows out (r ∷ rs) = with_rows (with_row out r) rs

abbrev pub candidate_rows : System → List Atom → Bool → List Row
candidate_rows s when pairs = without_repeats (rows_with_repeats s when pairs)
