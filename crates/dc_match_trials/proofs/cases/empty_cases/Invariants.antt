use Rattle.std.proofs.Common.{◌≡◌, [], replicate}
use Rattle.dc_match_trials.proofs.cases.empty_cases.Given as goal

abbrev pub invariant-loop-case : goal.invariant-loop-case
invariant-loop-case l = l.cases.items ≡ replicate l._case []
