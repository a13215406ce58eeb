use Rattle.std.proofs.Common.{◌≡◌, ◌++◌, take}
use Rattle.dc_greatest_trials.proofs.subjects.put_atoms.Given as goal

abbrev pub invariant-loop-atom : goal.invariant-loop-atom
invariant-loop-atom l = l.all.items ≡ l.initial.all.items ++ take l.atom-index l.case
