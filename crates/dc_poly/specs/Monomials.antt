-- All monomials of n places and of degree at most d, in graded order.
use Rattle.std.specs.Prelude.{◌≡◌, ℕ, zero, suc, ◌≤◌, List, [], ◌∷◌, ◌++◌, map, length}
use Rattle.dc_poly.specs.Terms.{Exponents, degree}

-- one exponent for each of n places, of sum at most d
pub record IsWithin (n d : ℕ) (m : Exponents) : Type 0 where
  pub places : length m ≡ n
  pub low : degree m ≤ d

-- ---- the list
-- times the first variable
abbrev pub raised : Exponents → Exponents
raised [] = 1 ∷ []
raised (e ∷ m) = suc e ∷ m

-- with one place more in front: those with the first variable before those without it
abbrev pub widened : (ℕ → List Exponents) → ℕ → List Exponents
widened f zero = map (λ m. 0 ∷ m) (f zero)
widened f (suc d) = map raised (widened f d) ++ map (λ m. 0 ∷ m) (f (suc d))

abbrev pub without_places : ℕ → List Exponents
without_places zero = [] ∷ []
without_places (suc d) = []

-- of n places and of degree d
abbrev pub of_degree : ℕ → ℕ → List Exponents
of_degree zero = without_places
of_degree (suc n) = widened (of_degree n)

-- of n places and of a degree below d
abbrev pub below : ℕ → ℕ → List Exponents
below n zero = []
below n (suc d) = below n d ++ of_degree n d

-- of n places and of degree at most d
abbrev pub monomials_of : ℕ → ℕ → List Exponents
monomials_of n d = below n (suc d)
