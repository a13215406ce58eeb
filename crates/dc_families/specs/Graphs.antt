-- Graphs of edges between numbered locations: a system, or what is left of it where one of its
-- locations is folded into its edges.
use Rattle.std.specs.Prelude.{ℕ, ◌≤◌, List}
use Rattle.std.specs.List.{AllByRecursion}
use Rattle.dc_system.specs.declared.edges.Edge.{Edge}
use Rattle.dc_system.specs.declared.edges.System.{System}
use Rattle.dc_system.specs.Shapes.{IsEdge, IsWithin as EndsWithin}

-- Edges over so many variables, of which the first are the parameters. Of the locations 0 is the
-- entry and the last one the exit; a location may have no edges.
pub record Graph : Type 0 where
  pub vars : ℕ
  pub params : ℕ
  pub locs : ℕ
  pub edges : List Edge

abbrev pub graph_of : System → Graph
graph_of s = record { vars = s.vars; params = s.params; locs = s.locs; edges = s.edges }

-- the same locations with other edges
abbrev pub with_edges : List Edge → Graph → Graph
with_edges es s = record { vars = s.vars; params = s.params; locs = s.locs; edges = es }

-- what laws want of a graph, as a well formed system has it
pub record IsGraph (s : Graph) : Type 0 where
  pub params_first : s.params ≤ s.vars
  pub ends : AllByRecursion (EndsWithin s.locs) s.edges
  pub edges : AllByRecursion (IsEdge s.vars) s.edges
