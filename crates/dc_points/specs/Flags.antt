-- Which lists are live, by flags.
use Rattle.std.specs.Prelude.{◌≡◌, ◌↔◌, Bool, true, List, [], ◌∷◌}
use Rattle.dc_affine.specs.declared.atom.Atom.{Atom}
use Rattle.dc_points.specs.Points.{IsDead}

-- the flag is set exactly where the list is not dead
abbrev pub IsFlag : Bool → List Atom → Type 0
IsFlag live hyps = (live ≡ true) ↔ (¬ IsDead hyps)

abbrev pub AreFlags : List Bool → List (List Atom) → Type 0
AreFlags [] [] = Unit {0}
AreFlags [] (h ∷ hs) = ⊥
AreFlags (b ∷ bs) [] = ⊥
AreFlags (b ∷ bs) (h ∷ hs) = IsFlag b h × AreFlags bs hs
