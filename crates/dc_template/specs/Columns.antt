-- A monomial at the updated state.
use Rattle.std.specs.Prelude.{ℕ, List, [], ◌∷◌}
use Rattle.dc_poly.specs.Terms.{Polynomial}

-- the number of places of the updates, and 1 where there are none
abbrev pub column_places : List Polynomial → ℕ
column_places [] = 1
column_places (u ∷ us) = u.places
