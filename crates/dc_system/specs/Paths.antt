-- Steps along an edge, and paths. States are whole numbers of any size, one for each variable.
use Rattle.std.specs.Prelude.{◌≡◌, ℕ, List, [], ◌∷◌, ◌++◌, ℤ, pos, ◌+ℤ◌, true}
use Rattle.dc_math.specs.Members.{Among}
use Rattle.dc_syntax.specs.Value.{State}
use Rattle.dc_poly.specs.Terms.{value}
use Rattle.dc_poly.specs.Sums.{values}
use Rattle.dc_affine.specs.Atoms.{all_hold}
use Rattle.dc_system.specs.declared.edges.Edge.{Edge}

-- a state and the chosen value after it
abbrev pub at : State → ℤ → List ℤ
at s z = s ++ z ∷ []

-- from state s, choosing z, at cost c to state t: the guard holds, and the cost and the updates are
-- taken there
pub record Step (e : Edge) (s : State) (z : ℤ) (c : ℤ) (t : State) : Type 0 where
  pub passes : all_hold e.guard (at s z) ≡ true
  pub costs : c ≡ value e.cost.terms (at s z)
  pub moves : t ≡ values e.update (at s z)

-- from a location and a state, at a cost, to a location and a state
pub data Path (E : List Edge) : ℕ → State → ℤ → ℕ → State → Type 0 where
  -- staying there costs 0
  here : {l : ℕ} {s : State} → Path E l s (pos 0) l s
  -- a step along an edge out of the location, and then a path from where it leads; the costs add up
  along : {k l : ℕ} {s m t : State} {c d : ℤ} (e : Edge) (z : ℤ) → Among e E → e.from ≡ k
      → Step e s z c m → Path E e.to m d l t → Path E k s (c +ℤ d) l t
