-- The numbered parts of lines.
use Rattle.std.specs.Prelude.{ℕ, List, ℤ, pos}
use Rattle.dc_affine.specs.declared.atom.Atom.{Atom}
use Rattle.dc_points.specs.Stated.{atom_number}
use Rattle.dc_cert.specs.declared.sparse.Sparse.{Sparse}
use Rattle.dc_clauses.specs.Steps.{Test}
use Rattle.dc_clauses.specs.Lines.{part, part_sum, column_sum, is, is_at_most}

-- part i of each atom, by number
abbrev pub row : List Atom → ℕ → ℕ → ℕ → ℤ
row hyps n i j = part n (atom_number hyps j) i

-- the product with the column of an atom is at most 0
abbrev pub low : List Atom → ℕ → Sparse → ℕ → Test
low hyps n y j = is_at_most (column_sum hyps n y j) (pos 0)

-- the coefficient of the sum at a place is this
abbrev pub same : List Atom → ℕ → Sparse → (ℕ → ℤ) → ℕ → Test
same hyps n v f i = is (part_sum hyps n v i) (f i)
