-- What the search for a foldable location answers, and what it wants.
use Rattle.std.specs.Prelude.{◌≡◌, ℕ, ◌+◌, ◌≤◌, ◌<◌, cond, eqb, List, [], ◌∷◌, length, get_or, Some, None}
use Rattle.std.specs.declared.option.Option.{Option}
use Rattle.dc_math.specs.Members.{Among}
use Rattle.dc_system.specs.declared.edges.Edge.{Edge}
use Rattle.dc_system.specs.declared.folding.Spot.{Spot}
use Rattle.dc_system.specs.Shapes.{IsEdge}
use Rattle.dc_system.specs.Folded.{into, fold_at}

-- the index of the one item that passes, where there is one
abbrev pub IsOnly : List Edge → List Edge → Option ℕ → Type 0
IsOnly passing es None = (e : Edge) → ¬ (passing ≡ e ∷ [])
IsOnly passing es (Some k) = (k < length es) × ((d : Edge) → passing ≡ get_or es k d ∷ [])

-- a foldable location, with the index of the edge into it and the composed edge
abbrev pub IsSpot : ℕ → ℕ → List Edge → Spot → Type 0
IsSpot n x es s =
    (fold_at n x es s.location ≡ Some s.edge) × (s.index < length es)
    × ((d : Edge) → into s.location es ≡ get_or es s.index d ∷ [])

abbrev pub IsSpotAt : ℕ → ℕ → List Edge → ℕ → Option Spot → Type 0
IsSpotAt n x es l None = fold_at n x es l ≡ None
IsSpotAt n x es l (Some s) = (s.location ≡ l) × IsSpot n x es s

-- the least one, where there is one
abbrev pub IsLeast : ℕ → ℕ → List Edge → Option Spot → Type 0
IsLeast n x es None = (l : ℕ) → fold_at n x es l ≡ None
IsLeast n x es (Some s) = IsSpot n x es s × ((k : ℕ) → k < s.location → fold_at n x es k ≡ None)

-- ---- edges between locations that are left, of which the last is the exit
abbrev pub Between : List ℕ → List Edge → Type 0
Between left es = (g : Edge) → Among g es → Among g.from left × Among g.to left

abbrev pub times_in : List ℕ → ℕ → ℕ
times_in [] x = 0
times_in (j ∷ js) x = cond (eqb j x) 1 0 + times_in js x

-- the greatest of a list, standing there once
pub record IsLast (left : List ℕ) (x : ℕ) : Type 0 where
  pub greatest : (k : ℕ) → Among k left → k ≤ x
  pub once : times_in left x ≡ 1

pub record Net (n x : ℕ) (left : List ℕ) (es : List Edge) : Type 0 where
  pub shape : (g : Edge) → Among g es → IsEdge n g
  pub between : Between left es
  pub entry : Among 0 left
  pub last : IsLast left x
  pub exit : Among x left
