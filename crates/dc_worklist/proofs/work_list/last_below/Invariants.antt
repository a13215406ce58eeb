use Rattle.std.proofs.Common.{◌≡◌, ℕ, ◌<◌, ◌≤◌, false}
use Rattle.dc_worklist.specs.Links.{is_linked}
use Rattle.dc_worklist.proofs.work_list.last_below.Given as goal

abbrev pub invariant-loop-k : goal.invariant-loop-k
invariant-loop-k l = (l.k ≤ l.fn.edge) × ((i : ℕ) → l.k ≤ i → i < l.fn.edge → is_linked l.slots i ≡ false)

abbrev pub decreases-loop-k : goal.decreases-loop-k
decreases-loop-k l = l.k
