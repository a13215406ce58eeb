use Rattle.std.proofs.Common.{◌≡◌, take}
use Rattle.dc_check.specs.Pairs.{edge_flags}
use Rattle.dc_engine.proofs.main_problem.edges_live.Given as goal

abbrev pub invariant-loop-edge : goal.invariant-loop-edge
invariant-loop-edge l = l.live.items ≡ edge_flags (take l.edge-index l.edges)
