-- The system of a procedure.
use Rattle.std.specs.Prelude.{ℕ, ◌+◌, ◌-◌, ◌^◌, min, ltb, if◌then◌else◌, List, map, length, Some, None}
use Rattle.std.specs.declared.option.Option.{Option}
use Rattle.dc_syntax.specs.declared.tree.Proc.{Proc}
use Rattle.dc_syntax.specs.declared.tree.Count.TheVariants.{Locations, Edges}
use Rattle.dc_graph.specs.Pieces.{exit_of, arrows_of}
use Rattle.dc_system.specs.declared.edges.Edge.{Edge}
use Rattle.dc_system.specs.declared.edges.System.{System}
use Rattle.dc_system.specs.declared.edges.SystemFault.{SystemFault}
use Rattle.dc_system.specs.declared.edges.SystemFault.TheVariants.{TooLarge}
use Rattle.dc_system.specs.Edges.{edge_of}
use Rattle.dc_system.specs.Literals.{literals_of}

-- one location before each statement, and the exit; one edge for each of the graph, in its order
abbrev pub locations_of : Proc → ℕ
locations_of p = exit_of p.body + 1

abbrev pub edges_of : Proc → List Edge
edges_of p = map (edge_of (length p.names)) (arrows_of p.body)

abbrev pub system_of : Proc → System
system_of p = record {
  vars = length p.names;
  params = p.params;
  locs = locations_of p;
  edges = edges_of p;
  literals = literals_of p.body;
}

-- ---- limits
-- a count as 64 bits tell it
abbrev pub counted : ℕ → ℕ
counted n = min n (2 ^ 64 - 1)

-- the first limit that a procedure passes
abbrev pub size_fault : Proc → Option SystemFault
size_fault p =
    if ltb 128 (locations_of p) then Some (TooLarge Locations (counted (locations_of p))) else
    (if ltb 512 (length (edges_of p)) then Some
    (TooLarge Edges (counted (length (edges_of p)))) else None)
