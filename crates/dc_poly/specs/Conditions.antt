-- What a call requires of its operands, so that its result is again a polynomial of at most 11
-- places, degree at most 12 and coefficients that fit: each weight is that of the result computed
-- without cancelling.
use Rattle.std.specs.Prelude.{◌≡◌, ℕ, ◌+◌, ◌*◌, ◌^◌, ◌≤◌, List, [], ◌∷◌, length, unsigned_abs}
use Rattle.dc_poly.specs.Terms.{Exponents, TermList, Places, degree_of, weight, largest, Polynomial}
use Rattle.dc_poly.specs.Sums.{times, first_of, rest_of, composed, places_of}

pub record CanAdd (p q : Polynomial) : Type 0 where
  pub same_places : q.places ≡ p.places
  pub light : weight p.terms + weight q.terms ≤ largest

pub record CanMul (p q : Polynomial) : Type 0 where
  pub same_places : q.places ≡ p.places
  pub low : degree_of (times p.terms q.terms) ≤ 12
  pub light : weight p.terms * weight q.terms ≤ largest

abbrev pub HavePlaces : ℕ → List Polynomial → Type 0
HavePlaces n [] = Unit {0}
HavePlaces n (v ∷ vs) = (v.places ≡ n) × HavePlaces n vs

-- the product of the weights of the values, each to its exponent
abbrev pub product_weight : Exponents → List Polynomial → ℕ
product_weight [] vs = 1
product_weight (e ∷ m) vs = weight (first_of vs) ^ e * product_weight m (rest_of vs)

-- the sum over the terms of the coefficient's size times that product
abbrev pub composed_weight : TermList → List Polynomial → ℕ
composed_weight [] vs = 0
composed_weight (t ∷ p) vs = unsigned_abs t.coef * product_weight t.mono vs + composed_weight p vs

pub record CanSubst (p : Polynomial) (vs : List Polynomial) : Type 0 where
  pub one_each : length vs ≡ p.places
  pub same_places : HavePlaces (places_of vs) vs
  pub low : degree_of (composed (places_of vs) p.terms vs) ≤ 12
  pub light : composed_weight p.terms vs ≤ largest

-- two lists of terms of the same number of places
pub record ArePadded (p q : TermList) : Type 0 where
  pub places : ℕ
  pub left : Places places p
  pub right : Places places q
