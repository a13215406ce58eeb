use Rattle.std.proofs.Common.{◌≡◌, drop, map}
use Rattle.dc_clauses.specs.Steps.{first_failure}
use Rattle.dc_mainlines.specs.Sums.{signed}
use Rattle.dc_mainlines.proofs.steps.sign_failure.Given as goal

abbrev pub invariant-loop-item : goal.invariant-loop-item
invariant-loop-item l = first_failure (map signed (drop l.item-index l.items)) ≡ first_failure (map signed l.items)
