-- The edges of a well-formed system are edges over its variables.
use Rattle.std.specs.Prelude.{◌≡◌, ℕ, ◌≤◌, ◌<◌, length, slice_index_or}
use Rattle.dc_math.specs.Members.{each_is}
use Rattle.dc_system.specs.declared.edges.Edge.{Edge}
use Rattle.dc_system.specs.declared.edges.System.{System}
use Rattle.dc_system.specs.Shapes.{IsEdge, IsWellFormed}

pub few_vars : (s : System) → IsWellFormed s → s.vars ≤ 10
few_vars s h = h.few_vars

pub edge_at : (s : System) (k : ℕ) (e : Edge) → IsWellFormed s → k < length s.edges → e ≡ slice_index_or s.edges k e → IsEdge s.vars e
edge_at s k e h l d = each_is (IsEdge s.vars) s.edges k e h.edges l d

pub ruleset edges = (few_vars, edge_at)
