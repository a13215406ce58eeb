-- A linear form over the variables, after an edge's update.
use Rattle.std.specs.Prelude.{ℕ, ◌+◌, Bool, leb, List, [], ◌∷◌, map, ℤ, ◌+ℤ◌, ◌*ℤ◌}
use Rattle.dc_math.specs.WholeVectors.{dot_ℤ}
use Rattle.dc_poly.specs.Terms.{TermList, coef, degree_of, Polynomial}
use Rattle.dc_poly.specs.Sums.{zeros, plus, shifted}
use Rattle.dc_poly.specs.Affine.{units}
use Rattle.dc_affine.specs.declared.atom.Atom.{Atom}
use Rattle.dc_system.specs.declared.edges.Edge.{Edge}
use Rattle.dc_system.specs.declared.rows.RowAfter.{RowAfter}
use Rattle.dc_system.specs.Composed.{coef_at, atom_at}

-- the sum of coefficients times polynomials, in normal form
abbrev pub weighted : List ℤ → List Polynomial → TermList
weighted [] vs = []
weighted (c ∷ cs) [] = []
weighted (c ∷ cs) (v ∷ vs) = plus (shifted [] c v.terms) (weighted cs vs)

-- the whole is affine after the update, whatever its parts are
abbrev pub is_affine_after : Edge → List ℤ → Bool
is_affine_after e row = leb (degree_of (weighted row e.update)) 1

-- its constant, and its coefficients for the variables and the chosen value
abbrev pub row_after_of : ℕ → Edge → List ℤ → RowAfter
row_after_of n e row = record {
  constant = coef_at row e.update (zeros (n + 1));
  coefs = map (coef_at row e.update) (units (n + 1));
  is_affine = is_affine_after e row;
}

-- an atom after the update
abbrev pub atom_after : ℕ → Edge → Atom → Atom
atom_after n e a = atom_at (n + 1) a e.update

-- ---- at the point x / q, whole numbers over one denominator, everything times q
-- the affine part of a value over n variables and the chosen value
abbrev pub affine_part : ℕ → ℤ → List ℤ → Polynomial → ℤ
affine_part n q x v = coef v.terms (zeros (n + 1)) *ℤ q +ℤ dot_ℤ (map (coef v.terms) (units (n + 1))) x

abbrev pub affine_parts : ℕ → ℤ → List ℤ → List Polynomial → List ℤ
affine_parts n q x vs = map (affine_part n q x) vs
