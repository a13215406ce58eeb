use Rattle.std.proofs.Common.{◌≡◌, ◌++◌, take}
use Rattle.dc_claims.specs.Duties.{duties_along}
use Rattle.dc_duties.proofs.duties.push_along.Given as goal

abbrev pub invariant-loop-edge : goal.invariant-loop-edge
invariant-loop-edge l = l.list.items ≡ l.initial.list.items ++ duties_along l.side (take l.edge l.live)
