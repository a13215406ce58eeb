-- A system in which locations with one way in and one way out are folded into the edge before them.
use Rattle.std.specs.Prelude.{◌≡◌, ℕ, zero, suc, ◌-◌, ◌<◌, not, ◌||◌, eqb, ltb, if◌then◌else◌, List, [], ◌∷◌, ◌++◌, map, length, filter, cond, ◌+◌, Some, None}
use Rattle.std.specs.declared.option.Option.{Option}
use Rattle.dc_system.specs.declared.edges.Edge.{Edge}
use Rattle.dc_system.specs.declared.edges.System.{System}
use Rattle.dc_system.specs.Composed.{compose_of}

-- the edges into a location, and out of it
abbrev pub into : ℕ → List Edge → List Edge
into l es = filter (λ (e : Edge). eqb e.to l) es

abbrev pub out_of : ℕ → List Edge → List Edge
out_of l es = filter (λ (e : Edge). eqb e.from l) es

-- the one edge in and the one edge out as one, where neither goes from l to l
abbrev pub joint : ℕ → ℕ → List Edge → List Edge → Option Edge
joint n l [] gs = None
joint n l (e ∷ []) [] = None
joint n l (e ∷ []) (f ∷ []) = if eqb e.from l || eqb f.to l then None else compose_of n e f
joint n l (e ∷ []) (f ∷ g ∷ gs) = None
joint n l (e ∷ f ∷ fs) gs = None

-- the composed edge of a location that is foldable; the entry 0 and the exit x are not
abbrev pub fold_at : ℕ → ℕ → List Edge → ℕ → Option Edge
fold_at n x es l = if eqb l 0 || eqb l x then None else joint n l (into l es) (out_of l es)

-- the composed edge where the edge in stands, the edge out taken away
abbrev pub folded : ℕ → Edge → List Edge → List Edge
folded l c es =
    filter (λ (e : Edge). not (eqb e.from l)) (map (λ (e : Edge). if eqb e.to l then c else e) es)

abbrev pub without : ℕ → List ℕ → List ℕ
without l left = filter (λ k. not (eqb k l)) left

-- from the locations and edges at the start, by folding the least foldable location again and
-- again, to those that are left
pub data Folding (n x : ℕ) (start : List ℕ) (begun : List Edge) : List ℕ → List Edge → Type 0 where
  unfolded : Folding n x start begun start begun
  fold_least : {left : List ℕ} {es : List Edge} → Folding n x start begun left es
      → (l : ℕ) (c : Edge) → fold_at n x es l ≡ Some c → ((k : ℕ) → k < l → fold_at n x es k ≡ None)
      → Folding n x start begun (without l left) (folded l c es)

abbrev pub numbers_below : ℕ → List ℕ
numbers_below zero = []
numbers_below (suc k) = numbers_below k ++ k ∷ []

-- the number of a location among those that are left: how many of them are below it
abbrev pub number_in : List ℕ → ℕ → ℕ
number_in [] k = 0
number_in (j ∷ left) k = cond (ltb j k) 1 0 + number_in left k

abbrev pub renumbered : List ℕ → Edge → Edge
renumbered left e = record {
  from = number_in left e.from;
  to = number_in left e.to;
  guard = e.guard;
  update = e.update;
  any = e.any;
  cost = e.cost;
}

-- t is s folded: nothing is left to fold, the locations are numbered anew in their order, the edges
-- keep theirs
pub record IsFolded (s t : System) : Type 0 where
  pub left : List ℕ
  pub edges : List Edge
  pub folding : Folding s.vars (s.locs - 1) (numbers_below s.locs) s.edges left edges
  pub ended : (l : ℕ) → fold_at s.vars (s.locs - 1) edges l ≡ None
  pub is : t ≡ record {
    vars = s.vars;
    params = s.params;
    locs = length left;
    edges = map (renumbered left) edges;
    literals = s.literals;
  }
