use Rattle.std.proofs.Common.{◌≡◌, ◌<◌, ◌^◌, take}
use Rattle.dc_lp.specs.Problems.{weight}
use Rattle.dc_lp.proofs.shape.is_light_column.Given as goal

abbrev pub invariant-loop-e : goal.invariant-loop-e
invariant-loop-e l = record { sum : l.total ≡ weight (take l.e-index l.column); small : l.total < 2 ^ 127 }
