-- Terms with exponents: their value, their coefficients, graded order, and what a polynomial is.
use Rattle.std.specs.Prelude.{◌≡◌, ◌⊎◌, ℕ, zero, suc, ◌+◌, ◌-◌, ◌^◌, ◌≤◌, ◌<◌, max, Bool, true, false, cond, ◌&&◌, eqb, List, [], ◌∷◌, length, ℤ, pos, ◌+ℤ◌, ◌*ℤ◌, unsigned_abs}
use Rattle.dc_poly.specs.declared.monomial.Term.{Term}

-- the exponents of a monomial, one for each place
abbrev pub Exponents : Type 0
Exponents = List ℕ

abbrev pub TermList : Type 0
TermList = List Term

abbrev pub term : Exponents → ℤ → Term
term m c = record { mono = m; coef = c }

-- ---- the value at a point, a list of whole numbers
abbrev pub power : ℤ → ℕ → ℤ
power x zero = pos 1
power x (suc n) = x *ℤ power x n

-- the first number of a point, and the others: what is missing is 0
abbrev pub front : List ℤ → ℤ
front [] = pos 0
front (x ∷ xs) = x

abbrev pub others : List ℤ → List ℤ
others [] = []
others (x ∷ xs) = xs

abbrev pub mono_value : Exponents → List ℤ → ℤ
mono_value [] xs = pos 1
mono_value (e ∷ m) xs = power (front xs) e *ℤ mono_value m (others xs)

abbrev pub value : TermList → List ℤ → ℤ
value [] xs = pos 0
value (t ∷ p) xs = t.coef *ℤ mono_value t.mono xs +ℤ value p xs

-- ---- coefficients
abbrev pub same_mono : Exponents → Exponents → Bool
same_mono [] [] = true
same_mono [] (f ∷ k) = false
same_mono (e ∷ m) [] = false
same_mono (e ∷ m) (f ∷ k) = eqb e f && same_mono m k

-- the sum of the coefficients of a monomial
abbrev pub coef : TermList → Exponents → ℤ
coef [] m = pos 0
coef (t ∷ p) m = cond (same_mono t.mono m) t.coef (pos 0) +ℤ coef p m

-- ---- graded order: lower degree first, then the one with the greater exponent at the first
-- difference
abbrev pub degree : Exponents → ℕ
degree [] = 0
degree (e ∷ m) = e + degree m

abbrev pub Greater : Exponents → Exponents → Type 0
Greater [] [] = ⊥
Greater [] (f ∷ k) = Unit {0}
Greater (e ∷ m) [] = ⊥
Greater (e ∷ m) (f ∷ k) = (f < e) ⊎ ((e ≡ f) × Greater m k)

pub data Before (m k : Exponents) : Type 0 where
  lower : degree m < degree k → Before m k
  level : degree m ≡ degree k → Greater m k → Before m k

-- each term is nonzero and before all later ones
abbrev pub Ahead : Exponents → TermList → Type 0
Ahead m [] = Unit {0}
Ahead m (t ∷ p) = Before m t.mono × Ahead m p

abbrev pub Canonical : TermList → Type 0
Canonical [] = Unit {0}
Canonical (t ∷ p) = (¬ (t.coef ≡ pos 0)) × Ahead t.mono p × Canonical p

-- one exponent for each of n places
abbrev pub Places : ℕ → TermList → Type 0
Places n [] = Unit {0}
Places n (t ∷ p) = (length t.mono ≡ n) × Places n p

-- ---- sizes
-- the greatest degree of a term, and 0 where there is none
abbrev pub degree_of : TermList → ℕ
degree_of [] = 0
degree_of (t ∷ p) = max (degree t.mono) (degree_of p)

-- the sum of the sizes of the coefficients
abbrev pub weight : TermList → ℕ
weight [] = 0
weight (t ∷ p) = unsigned_abs t.coef + weight p

-- the largest size of a number
abbrev pub largest : ℕ
largest = 2 ^ 127 - 1

-- ---- polynomials, as contracts see them
pub record Polynomial : Type 0 where
  pub places : ℕ
  pub terms : TermList

abbrev pub polynomial : ℕ → TermList → Polynomial
polynomial n p = record { places = n; terms = p }

-- what holds of every polynomial that there is
pub record IsPolynomial (p : Polynomial) : Type 0 where
  pub few : p.places ≤ 11
  pub in_order : Canonical p.terms
  pub padded : Places p.places p.terms
  pub low : degree_of p.terms ≤ 12
  pub light : weight p.terms ≤ largest
