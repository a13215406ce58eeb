use Rattle.std.proofs.Common.{◌≡◌, ◌++◌, take, drop}
use Rattle.dc_system.specs.Literals.{with_number}
use Rattle.dc_system.proofs.literals.add.Given as goal

abbrev pub invariant-loop-at : goal.invariant-loop-at
invariant-loop-at l = (l.literals.items ≡ l.initial.literals.items) × (with_number l.value l.literals.items ≡ take l.at l.literals.items ++ with_number l.value (drop l.at l.literals.items))
