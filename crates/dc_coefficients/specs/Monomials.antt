-- The monomials of several polynomials, in graded order, each once.
use Rattle.std.specs.Prelude.{List, [], ◌∷◌, map}
use Rattle.std.specs.declared.cmp.Ordering.TheVariants as order
use Rattle.dc_poly.specs.Terms.{Exponents, TermList, Polynomial}
use Rattle.dc_poly.specs.Order.{graded}

-- one more, unless it is there
abbrev pub with_mono : Exponents → List Exponents → List Exponents
with_mono m [] = m ∷ []
with_mono m (k ∷ ks) = elim (graded m k) [
  | order.Less ↦ m ∷ k ∷ ks
  | order.Equal ↦ k ∷ ks
  | order.Greater ↦ k ∷ with_mono m ks
]

-- those of some terms
abbrev pub with_monos : TermList → List Exponents → List Exponents
with_monos [] ms = ms
with_monos (t ∷ p) ms = with_mono t.mono (with_monos p ms)

-- those of several lists of terms, before others
abbrev pub with_all : List TermList → List Exponents → List Exponents
with_all [] ms = ms
with_all (p ∷ ps) ms = with_monos p (with_all ps ms)

abbrev pub monos_in : List TermList → List Exponents
monos_in ps = with_all ps []

abbrev pub all_terms : List Polynomial → List TermList
all_terms ps = map (λ (p : Polynomial). p.terms) ps
