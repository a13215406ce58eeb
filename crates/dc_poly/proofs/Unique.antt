-- Canonical polynomials of the same places with equal values everywhere are equal lists.
use Rattle.std.specs.Prelude.{◌≡◌, ℕ, List, length, ℤ}
use Rattle.dc_poly.specs.Terms.{TermList, value, Canonical, Places}
use Rattle.dc_poly.proofs.Same.{same_everywhere}
use Rattle.dc_poly.proofs.Canon.{canonical_unique}

-- equal values at all points: the same list
pub values_unique : (n : ℕ) (p q : TermList) → Canonical p → Canonical q → Places n p → Places n q → ((xs : List ℤ) → length xs ≡ n → value p xs ≡ value q xs) → p ≡ q
values_unique n p q h k o r g = canonical_unique p q h k (same_everywhere n p q o r g)
