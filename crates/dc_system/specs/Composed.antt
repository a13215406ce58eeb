-- Two edges that meet, as one.
use Rattle.std.specs.Prelude.{ℕ, ◌+◌, Bool, true, not, ◌&&◌, ◌||◌, leb, if◌then◌else◌, List, [], ◌∷◌, ◌++◌, map, length, ℤ, ◌+ℤ◌, unsigned_abs, Some, None}
use Rattle.std.specs.declared.option.Option.{Option}
use Rattle.dc_math.specs.WholeVectors.{dot_ℤ}
use Rattle.dc_syntax.specs.Table.{Moves}
use Rattle.dc_poly.specs.Terms.{Exponents, coef, degree_of, Polynomial}
use Rattle.dc_poly.specs.Sums.{zeros, sum_of, composition_of}
use Rattle.dc_poly.specs.Affine.{units}
use Rattle.dc_affine.specs.declared.atom.Atom.{Atom}
use Rattle.dc_poly.specs.NormalForm.{most, coefs_fit}
use Rattle.dc_affine.specs.Atoms.{most_constant}
use Rattle.dc_system.specs.declared.edges.Edge.{Edge}
use Rattle.dc_system.specs.Edges.{chosen}
use Rattle.dc_system.specs.Paths.{Step}

-- the variables after an edge, and the chosen value
abbrev pub after : ℕ → Edge → List Polynomial
after n e = e.update ++ chosen n ∷ []

-- the sum of coefficients times those of a monomial in values
abbrev pub coef_at : List ℤ → List Polynomial → Exponents → ℤ
coef_at cs vs u = dot_ℤ cs (map (λ (v : Polynomial). coef v.terms u) vs)

-- an atom at affine values, of m places: its left side with the values in it
abbrev pub atom_at : ℕ → Atom → List Polynomial → Atom
atom_at m a vs = record {
  c0 = a.c0 +ℤ coef_at a.coefs vs (zeros m);
  coefs = map (coef_at a.coefs vs) (units m);
}

abbrev pub atoms_at : ℕ → List Atom → List Polynomial → List Atom
atoms_at m gs vs = map (λ a. atom_at m a vs) gs

abbrev pub forms_at : List Polynomial → List Polynomial → List Polynomial
forms_at ps vs = map (λ p. composition_of p vs) ps

-- the first edge, and then the second one after its update
abbrev pub composed : ℕ → Edge → Edge → Edge
composed n e f = record {
  from = e.from;
  to = f.to;
  guard = e.guard ++ atoms_at (n + 1) f.guard (after n e);
  update = forms_at f.update (after n e);
  any = e.any || f.any;
  cost = sum_of e.cost (composition_of f.cost (after n e));
}

-- ---- the tests that two edges must pass
abbrev pub all_flat : List Polynomial → Bool
all_flat [] = true
all_flat (p ∷ ps) = leb (degree_of p.terms) 1 && all_flat ps

abbrev pub numbers_fit : List ℤ → Bool
numbers_fit [] = true
numbers_fit (c ∷ cs) = leb (unsigned_abs c) most && numbers_fit cs

abbrev pub atom_fits : Atom → Bool
atom_fits a = leb (unsigned_abs a.c0) most_constant && numbers_fit a.coefs

abbrev pub atoms_fit : List Atom → Bool
atoms_fit [] = true
atoms_fit (a ∷ gs) = atom_fits a && atoms_fit gs

abbrev pub form_fits : Polynomial → Bool
form_fits p = leb (degree_of p.terms) 2 && coefs_fit p.terms

abbrev pub forms_fit : List Polynomial → Bool
forms_fit [] = true
forms_fit (p ∷ ps) = form_fits p && forms_fit ps

-- at most one of them chooses, the first updates affinely, and guard, updates and cost of the whole
-- are within their bounds
abbrev pub can_compose : ℕ → Edge → Edge → Bool
can_compose n e f =
    not (e.any && f.any)
    && (all_flat e.update
    && (leb (length e.guard + length f.guard) 256
    && (atoms_fit (atoms_at (n + 1) f.guard (after n e))
    && (forms_fit (forms_at f.update (after n e))
    && form_fits (sum_of e.cost (composition_of f.cost (after n e)))))))

abbrev pub compose_of : ℕ → Edge → Edge → Option Edge
compose_of n e f = if can_compose n e f then Some (composed n e f) else None

-- ---- from a state to a state along an edge, whatever it chooses
abbrev pub Crosses : Edge → Moves
Crosses e s c t = (z : ℤ) × Step e s z c t
