use Rattle.std.proofs.Common.{◌≡◌, ◌++◌, drop}
use Rattle.dc_affine.specs.Table.{after}
use Rattle.dc_affine.specs.Atoms.{cases_of}
use Rattle.dc_affine.proofs.condition.extend.Given as goal

abbrev pub invariant-loop-more : goal.invariant-loop-more
invariant-loop-more l = cases_of l.out.items ++ after l.case (cases_of (drop l.more-index l.cases)) ≡ cases_of l.initial.out.items ++ after l.case (cases_of l.cases)
