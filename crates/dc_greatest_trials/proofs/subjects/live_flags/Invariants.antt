use Rattle.std.proofs.Common.{take}
use Rattle.dc_points.specs.Flags.{AreFlags}
use Rattle.dc_greatest_trials.proofs.subjects.live_flags.Given as goal

abbrev pub invariant-loop-case : goal.invariant-loop-case
invariant-loop-case l = AreFlags l.flags.items (take l.case-index l.cases)
