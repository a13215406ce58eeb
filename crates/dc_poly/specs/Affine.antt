-- A polynomial of degree at most 1 has a constant and one coefficient for each place.
use Rattle.std.specs.Prelude.{◌≡◌, ℕ, zero, suc, ◌≤◌, List, [], ◌∷◌, map, length, ℤ, pos, ◌+ℤ◌, ◌*ℤ◌}
use Rattle.dc_poly.specs.Terms.{Exponents, TermList, front, others, coef, degree, Polynomial}
use Rattle.dc_poly.specs.Sums.{zeros}

-- the variables, by place
abbrev pub units : ℕ → List Exponents
units zero = []
units (suc n) = (1 ∷ zeros n) ∷ map (λ u. 0 ∷ u) (units n)

abbrev pub along : (Exponents → ℤ) → List Exponents → List ℤ → ℤ
along f [] s = pos 0
along f (u ∷ us) s = f u *ℤ front s +ℤ along f us (others s)

-- degree at most 1, one exponent for each of n places
abbrev pub Affine : ℕ → TermList → Type 0
Affine n [] = Unit {0}
Affine n (t ∷ p) = (length t.mono ≡ n) × (degree t.mono ≤ 1) × Affine n p

-- ---- at a rational point, given as numbers over one denominator q
-- q times the value there: the constant times q, and each coefficient times the number at its place
abbrev pub scaled_value : ℕ → TermList → ℤ → List ℤ → ℤ
scaled_value n p q xs = coef p (zeros n) *ℤ q +ℤ along (coef p) (units n) xs

-- the numbers over q of the point whose coordinates are the values of a list of such forms
abbrev pub scaled_values : ℕ → List Polynomial → ℤ → List ℤ → List ℤ
scaled_values n vs q xs = map (λ (v : Polynomial). scaled_value n v.terms q xs) vs
