-- Sum, negation, product and composition of term lists, by insertion into graded order.
use Rattle.std.specs.Prelude.{ℕ, zero, suc, ◌+◌, List, [], ◌∷◌, map, ℤ, pos, negsuc, neg_ℤ, ◌+ℤ◌, ◌*ℤ◌}
use Rattle.std.specs.declared.cmp.Ordering.TheVariants.{Less, Equal, Greater}
use Rattle.dc_poly.specs.Terms.{Exponents, TermList, term, value, Polynomial, polynomial}
use Rattle.dc_poly.specs.Order.{graded}

-- a term, unless it is zero
abbrev pub with_term : Exponents → ℤ → TermList → TermList
with_term m (pos zero) p = p
with_term m (pos (suc n)) p = term m (pos (suc n)) ∷ p
with_term m (negsuc n) p = term m (negsuc n) ∷ p

-- into an ordered list
abbrev pub insert : Exponents → ℤ → TermList → TermList
insert m c [] = with_term m c []
insert m c (t ∷ p) = elim (graded m t.mono) [
  | Less ↦ with_term m c (t ∷ p)
  | Equal ↦ with_term m (c +ℤ t.coef) p
  | Greater ↦ t ∷ insert m c p
]

abbrev pub plus : TermList → TermList → TermList
plus [] q = q
plus (t ∷ p) q = insert t.mono t.coef (plus p q)

abbrev pub negated : TermList → TermList
negated [] = []
negated (t ∷ p) = term t.mono (neg_ℤ t.coef) ∷ negated p

-- the product of two monomials
abbrev pub times_mono : Exponents → Exponents → Exponents
times_mono [] k = k
times_mono (e ∷ m) [] = e ∷ m
times_mono (e ∷ m) (f ∷ k) = (e + f) ∷ times_mono m k

-- each term times one term
abbrev pub shifted : Exponents → ℤ → TermList → TermList
shifted m c [] = []
shifted m c (t ∷ p) = term (times_mono m t.mono) (c *ℤ t.coef) ∷ shifted m c p

abbrev pub times : TermList → TermList → TermList
times [] q = []
times (t ∷ p) q = plus (shifted t.mono t.coef q) (times p q)

-- ---- constants and variables of n places
abbrev pub zeros : ℕ → Exponents
zeros zero = []
zeros (suc n) = 0 ∷ zeros n

-- the variable at place k
abbrev pub unit_at : ℕ → ℕ → Exponents
unit_at zero k = []
unit_at (suc n) zero = 1 ∷ zeros n
unit_at (suc n) (suc k) = 0 ∷ unit_at n k

abbrev pub constant_of : ℤ → ℕ → TermList
constant_of c n = with_term (zeros n) c []

abbrev pub variable_of : ℕ → ℕ → TermList
variable_of k n = term (unit_at n k) (pos 1) ∷ []

-- ---- composition, where the result has n places
-- a power of v times p
abbrev pub times_power : TermList → ℕ → TermList → TermList
times_power v zero p = p
times_power v (suc e) p = times v (times_power v e p)

-- the values for the first place and for the others: what is missing is 0
abbrev pub first_of : List Polynomial → TermList
first_of [] = []
first_of (v ∷ vs) = v.terms

abbrev pub rest_of : List Polynomial → List Polynomial
rest_of [] = []
rest_of (v ∷ vs) = vs

-- a term at the values, each to its exponent
abbrev pub term_at : ℕ → ℤ → Exponents → List Polynomial → TermList
term_at n c [] vs = constant_of c n
term_at n c (e ∷ m) vs = times_power (first_of vs) e (term_at n c m (rest_of vs))

abbrev pub composed : ℕ → TermList → List Polynomial → TermList
composed n [] vs = []
composed n (t ∷ p) vs = plus (term_at n t.coef t.mono vs) (composed n p vs)

-- the values of polynomials at a point
abbrev pub values : List Polynomial → List ℤ → List ℤ
values vs xs = map (λ v. value v.terms xs) vs

-- ---- the results, as polynomials
abbrev pub constant : ℤ → ℕ → Polynomial
constant c n = polynomial n (constant_of c n)

abbrev pub variable : ℕ → ℕ → Polynomial
variable k n = polynomial n (variable_of k n)

abbrev pub sum_of : Polynomial → Polynomial → Polynomial
sum_of p q = polynomial p.places (plus p.terms q.terms)

abbrev pub negation_of : Polynomial → Polynomial
negation_of p = polynomial p.places (negated p.terms)

abbrev pub product_of : Polynomial → Polynomial → Polynomial
product_of p q = polynomial p.places (times p.terms q.terms)

-- the number of places of the values, and 0 without values
abbrev pub places_of : List Polynomial → ℕ
places_of [] = 0
places_of (v ∷ vs) = v.places

abbrev pub composition_of : Polynomial → List Polynomial → Polynomial
composition_of p vs = polynomial (places_of vs) (composed (places_of vs) p.terms vs)
