-- The atoms of a comparison, read from the difference of its left side less its right side.
use Rattle.std.specs.Prelude.{ℕ, Bool, true, false, List, [], ◌∷◌, ◌++◌, map, ℤ, pos, neg_ℤ, ◌-ℤ◌}
use Rattle.dc_syntax.specs.declared.tree.Rel.{Rel}
use Rattle.dc_syntax.specs.declared.tree.Rel.TheVariants.{Lt, Le, Gt, Ge, Eq, Ne}
use Rattle.dc_poly.specs.Terms.{Exponents, TermList, coef, Polynomial}
use Rattle.dc_poly.specs.Sums.{zeros}
use Rattle.dc_poly.specs.Affine.{units}
use Rattle.dc_affine.specs.declared.atom.Atom.{Atom}
use Rattle.dc_affine.specs.Table.{crossed}

-- a number, or its negation
abbrev pub signed : Bool → ℤ → ℤ
signed false x = x
signed true x = neg_ℤ x

abbrev pub signed_coef : Bool → TermList → Exponents → ℤ
signed_coef turned p u = signed turned (coef p u)

-- "p - less is at least 0", or turned "-p - less is at least 0"
abbrev pub gap_atom : Polynomial → Bool → ℕ → Atom
gap_atom p turned less = record {
  c0 = signed_coef turned p.terms (zeros p.places) -ℤ pos less;
  coefs = map (signed_coef turned p.terms) (units p.places);
}

-- of a comparison
abbrev pub gap_cases : Polynomial → Rel → List (List Atom)
gap_cases p Le = (gap_atom p true 0 ∷ []) ∷ []
gap_cases p Lt = (gap_atom p true 1 ∷ []) ∷ []
gap_cases p Ge = (gap_atom p false 0 ∷ []) ∷ []
gap_cases p Gt = (gap_atom p false 1 ∷ []) ∷ []
gap_cases p Eq = (gap_atom p true 0 ∷ gap_atom p false 0 ∷ []) ∷ []
gap_cases p Ne = (gap_atom p true 1 ∷ []) ∷ (gap_atom p false 1 ∷ []) ∷ []

-- each of one list of cases with each of another, or one list after the other
abbrev pub combined : Bool → List (List Atom) → List (List Atom) → List (List Atom)
combined true cs ds = crossed cs ds
combined false cs ds = cs ++ ds
