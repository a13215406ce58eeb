use Rattle.std.specs.List.{AllByRecursion}
use Rattle.dc_affine.specs.Atoms.{IsAtom}
use Rattle.dc_greatest_trials.proofs.subjects.all_atoms.Given as goal

abbrev pub invariant-loop-case : goal.invariant-loop-case
invariant-loop-case l = AllByRecursion (IsAtom l.places) l.all.items
