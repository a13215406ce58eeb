use Rattle.std.proofs.Common.{◌≡◌, ◌++◌, drop}
use Rattle.dc_lines.specs.Bytes.{ended}
use Rattle.dc_certtext.specs.Text.{groups, location_lines}
use Rattle.dc_certtext.proofs.write.locations.Given as goal

-- what is written, with what is still to come, is the whole
abbrev pub invariant-loop-n : goal.invariant-loop-n
invariant-loop-n l = l.out.items ++ ended (groups location_lines l.n (drop l.n l.list)) ≡ l.initial.out.items ++ ended (groups location_lines 0 l.list)
