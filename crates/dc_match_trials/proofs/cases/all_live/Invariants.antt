use Rattle.std.proofs.Common.{◌≡◌, true, replicate}
use Rattle.dc_match_trials.proofs.cases.all_live.Given as goal

abbrev pub invariant-loop-case : goal.invariant-loop-case
invariant-loop-case l = l.live.items ≡ replicate l._case true
