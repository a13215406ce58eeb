use Rattle.std.proofs.Common.{◌≡◌, take}
use Rattle.dc_system.proofs.AtomSteps.{Guarding}
use Rattle.dc_system.proofs.atoms.guard_with.Given as goal

abbrev pub invariant-loop-atom : goal.invariant-loop-atom
invariant-loop-atom l = l.guard.items ≡ take l.atom-index l.first

abbrev pub invariant-loop-atom-2 : goal.invariant-loop-atom-2
invariant-loop-atom-2 l = Guarding l.places l.fn.first l.second l.values l.atom-index l.guard.items
