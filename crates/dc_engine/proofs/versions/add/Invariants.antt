use Rattle.std.proofs.Common.{◌≡◌, ◌++◌, take}
use Rattle.dc_engine.proofs.versions.add.Given as goal

abbrev pub invariant-loop-atom : goal.invariant-loop-atom
invariant-loop-atom l = l.list.items ≡ l.initial.list.items ++ take l.atom-index l.case
