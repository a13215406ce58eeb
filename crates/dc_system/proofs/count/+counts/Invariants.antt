use Rattle.std.proofs.Common.{◌≡◌, ◌+◌, drop}
use Rattle.dc_graph.specs.Pieces.{sizes, pieces}
use Rattle.dc_system.specs.Systems.{counted}
use Rattle.dc_system.proofs.count.+counts.Given as goal

abbrev pub invariant-count_all-loop-statement : goal.invariant-count_all-loop-statement
invariant-count_all-loop-statement l = (counted (l.total + sizes (pieces (drop l.statement-index l.body))) ≡ counted (sizes (pieces l.body))) × (l.total ≡ counted l.total)
