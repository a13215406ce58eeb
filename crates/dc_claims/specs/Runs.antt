-- The runs of a system: paths from its entry on an input to its exit.
use Rattle.std.specs.Prelude.{◌≡◌, ℕ, length, ℤ, true}
use Rattle.dc_syntax.specs.declared.tree.Side.{Side}
use Rattle.dc_syntax.specs.Value.{State}
use Rattle.dc_syntax.specs.Costs.{start_with}
use Rattle.dc_affine.specs.Atoms.{all_hold, Allowed}
use Rattle.dc_system.specs.declared.edges.System.{System}
use Rattle.dc_system.specs.Paths.{Path}
use Rattle.dc_system.specs.Laws.{Through}
use Rattle.dc_claims.specs.Duties.{Pair, system_of, atoms_at}

-- an input, with 0 for each local
abbrev pub start_in : System → State → State
start_in s v = start_with s.vars s.params v

-- a path from the entry on an input to the exit, at a cost
abbrev pub RunsAt : System → State → ℤ → Type 0
RunsAt s v c = (x : State) × Through s (start_in s v) c x

-- one number for each parameter, and some case of the condition holds
pub record IsInput (p : Pair) (v : State) : Type 0 where
  pub one_each : length v ≡ p.new.params
  pub allowed : Allowed p.cases v

-- at each state that a path from an input reaches, the atoms of its location hold
abbrev pub HoldWhereReached : Pair → Side → Type 0
HoldWhereReached p side = (v : State) (c : ℤ) (l : ℕ) (x : State) → IsInput p v
    → Path (system_of p side).edges 0 (start_in (system_of p side) v) c l x
    → all_hold (atoms_at p side l) x ≡ true
