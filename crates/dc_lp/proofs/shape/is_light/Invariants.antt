use Rattle.std.proofs.Common.{◌≡◌, ◌<◌, ◌^◌, take, sum_by, unsigned_abs}
use Rattle.dc_lp.proofs.shape.is_light.Given as goal

abbrev pub invariant-loop-x : goal.invariant-loop-x
invariant-loop-x l = record { sum : l.total ≡ sum_by unsigned_abs (take l.x-index l.xs); small : l.total < 2 ^ 127 }
