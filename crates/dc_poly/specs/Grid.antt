-- Terms over so many variables of bounded exponents, and the points of a grid.
use Rattle.std.specs.Prelude.{◌≡◌, ℕ, ◌≤◌, List, [], ◌∷◌, length, map, ℤ, pos}
use Rattle.dc_poly.specs.Terms.{Exponents, TermList}

-- one exponent for each of n places, each at most d
abbrev pub Bounded : ℕ → Exponents → Type 0
Bounded d [] = Unit {0}
Bounded d (e ∷ m) = (e ≤ d) × Bounded d m

abbrev pub Over : ℕ → ℕ → TermList → Type 0
Over n d [] = Unit {0}
Over n d (t ∷ p) = ((length t.mono ≡ n) × Bounded d t.mono) × Over n d p

-- a point of the grid: one number of 0 to d for each of n places
abbrev pub Grid : ℕ → ℕ → List ℕ → Type 0
Grid n d xs = (length xs ≡ n) × Bounded d xs

abbrev pub whole : List ℕ → List ℤ
whole xs = map pos xs
