use Rattle.std.proofs.Common.{◌≡◌, ℕ, ◌-◌, ◌<◌, ◌≤◌, length, get_or, true}
use Rattle.dc_tokens.specs.Pieces.{is_comment_byte}
use Rattle.dc_tokens.proofs.scan.comment_front.Given as goal

abbrev pub invariant-loop-n : goal.invariant-loop-n
invariant-loop-n l = record { long : 2 ≤ l.n; within : l.n ≤ length l.bytes; each : (i : ℕ) → 2 ≤ i → i < l.n → is_comment_byte (get_or l.bytes i 0) ≡ true }

abbrev pub decreases-loop-n : goal.decreases-loop-n
decreases-loop-n l = length l.bytes - l.n
