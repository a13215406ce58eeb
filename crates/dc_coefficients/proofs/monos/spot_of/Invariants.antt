use Rattle.std.proofs.Common.{ℕ, ◌≤◌, ◌<◌, ◌-◌, [], length, get_or}
use Rattle.dc_poly.specs.Terms.{Before}
use Rattle.dc_coefficients.proofs.monos.spot_of.Given as goal

abbrev pub invariant-loop-low : goal.invariant-loop-low
invariant-loop-low l = record {
  order : l.low ≤ l.high;
  within : l.high ≤ length l.list;
  below : (k : ℕ) → k < l.low → Before (get_or l.list k []) l.mono;
  above : (k : ℕ) → l.high ≤ k → k < length l.list → Before l.mono (get_or l.list k []);
}

abbrev pub decreases-loop-low : goal.decreases-loop-low
decreases-loop-low l = l.high - l.low
