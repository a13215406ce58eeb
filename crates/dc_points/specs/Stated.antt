-- The two problems that decide what a list of atoms says.
use Rattle.std.specs.Prelude.{ℕ, suc, List, [], length, ℤ, pos, negsuc, eqb, ltb, if◌then◌else◌, slice_index_or}
use Rattle.dc_math.specs.Rational.{ℚ, of_ℤ}
use Rattle.dc_affine.specs.declared.atom.Atom.{Atom}
use Rattle.dc_lp.specs.Linear.{Linear}
use Rattle.dc_lp.specs.Problems.{whole_at}

-- the same problem over the rational numbers
abbrev pub rational : Linear ℤ → Linear ℚ
rational p = record {
  equations = p.equations;
  columns = p.columns;
  coefficient = λ i j. of_ℤ (p.coefficient i j);
  right_side = λ i. of_ℤ (p.right_side i);
  cost = λ j. of_ℤ (p.cost j);
}

-- the atom with this number, and the coefficient of an atom at a place: what is missing is 0
abbrev pub atom_number : List Atom → ℕ → Atom
atom_number hyps j = slice_index_or hyps j (record { c0 = pos 0; coefs = [] })

abbrev pub coefficient_of : Atom → ℕ → ℤ
coefficient_of a i = whole_at a.coefs i

-- one column for each atom; for each of n places an equation with the coefficients
abbrev pub place_entry : ℕ → List Atom → ℕ → ℕ → ℤ
place_entry n hyps i j = if ltb i n then coefficient_of (atom_number hyps j) i else pos 0

-- Whether the list is dead: its multiples add up to -1. After the equations of the places comes one
-- with the constants; no column costs.
abbrev pub empty_problem : List Atom → ℕ → Linear ℤ
empty_problem hyps n = record {
  equations = suc n;
  columns = length hyps;
  coefficient = λ i j. if eqb i n then (atom_number hyps j).c0 else place_entry n hyps i j;
  right_side = λ i. if eqb i n then negsuc 0 else pos 0;
  cost = λ j. pos 0;
}

-- Which multiples add up to given coefficients at n places; they cost their constants.
abbrev pub sum_problem : List Atom → ℕ → (ℕ → ℤ) → Linear ℤ
sum_problem hyps n f = record {
  equations = n;
  columns = length hyps;
  coefficient = λ i j. place_entry n hyps i j;
  right_side = f;
  cost = λ j. (atom_number hyps j).c0;
}

-- The least number with which a form is entailed: its multiples add up to the form.
abbrev pub sup_problem : List Atom → List ℤ → Linear ℤ
sup_problem hyps form = sum_problem hyps (length form) (whole_at form)
