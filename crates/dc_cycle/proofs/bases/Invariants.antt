use Rattle.std.proofs.Common.{◌≡◌, ◌+◌, ◌<◌, ◌^◌}
use Rattle.dc_pivots.specs.FieldLaws.{choose}
use Rattle.dc_cycle.proofs.bases.Given as goal

abbrev pub invariant-loop-i : goal.invariant-loop-i
invariant-loop-i l = (choose (l.columns + l.i) l.i < 2 ^ 64) × (l.count ≡ choose (l.columns + l.i) l.i)
