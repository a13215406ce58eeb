-- What an expression of a program comes to.
use Rattle.std.specs.Prelude.{◌≡◌, ℕ, ◌*◌, ◌≤◌, Bool, true, ◌&&◌, leb, [], ◌∷◌, unsigned_abs}
use Rattle.dc_poly.specs.Terms.{TermList, degree_of}

-- the largest size of a coefficient that a program or a fact about it has
abbrev pub most : ℕ
most = 2147483647

-- each coefficient is of that size at most
abbrev pub coefs_fit : TermList → Bool
coefs_fit [] = true
coefs_fit (t ∷ p) = leb (unsigned_abs t.coef) most && coefs_fit p

-- of degree at most 2, with such coefficients
pub record IsNormalForm (p : TermList) : Type 0 where
  pub low : degree_of p ≤ 2
  pub fits : coefs_fit p ≡ true

-- the largest weight of a normal form: at most 78 monomials of 11 places have a degree of at most 2
abbrev pub normal_weight : ℕ
normal_weight = 78 * most
