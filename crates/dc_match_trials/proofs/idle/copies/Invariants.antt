use Rattle.std.proofs.Common.{◌≡◌, replicate}
use Rattle.dc_match_trials.specs.Systems.{first_place}
use Rattle.dc_match_trials.proofs.idle.copies.Given as goal

abbrev pub invariant-loop-copy : goal.invariant-loop-copy
invariant-loop-copy l = l.atoms.items ≡ replicate l._copy first_place
