use Rattle.std.proofs.Common.{◌≡◌, ◌++◌, filter, take}
use Rattle.dc_rows.specs.Bounds.{is_within}
use Rattle.dc_rows.proofs.bounds.add_within.Given as goal

abbrev pub invariant-loop-b : goal.invariant-loop-b
invariant-loop-b l = l.bounds.items ≡ l.initial.bounds.items ++ filter is_within (take l.b-index l.more)
