use Rattle.std.proofs.Common.{length}
use Rattle.dc_certtext.proofs.Taken.{Taken}
use Rattle.dc_certtext.proofs.items.read_items.Given as goal

abbrev pub invariant-items : goal.invariant-items
invariant-items l = Taken l.text l.items l.rest l.low

abbrev pub decreases-items : goal.decreases-items
decreases-items l = length l.rest
