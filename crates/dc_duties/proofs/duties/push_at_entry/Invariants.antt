use Rattle.std.proofs.Common.{◌≡◌, ◌++◌, take}
use Rattle.dc_claims.specs.Duties.{duties_at_entry}
use Rattle.dc_duties.proofs.duties.push_at_entry.Given as goal

abbrev pub invariant-loop-case : goal.invariant-loop-case
invariant-loop-case l = l.list.items ≡ l.initial.list.items ++ duties_at_entry (take l.case l.live)
