use Rattle.std.proofs.Common.{ℕ, ◌<◌}
use Rattle.dc_frac.specs.Fits.{IsSmall}
use Rattle.dc_lp.specs.Problems.{whole_at}
use Rattle.dc_lp.proofs.shape.are_small.Given as goal

abbrev pub invariant-loop-x : goal.invariant-loop-x
invariant-loop-x l = (k : ℕ) → k < l.x-index → IsSmall (whole_at l.xs k)
