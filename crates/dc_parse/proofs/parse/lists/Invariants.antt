use Rattle.std.proofs.Common.{◌≡◌}
use Rattle.dc_affine.specs.Atoms.{cases_of}
use Rattle.dc_parse.proofs.parse.lists.Given as goal

abbrev pub invariant-loop-case : goal.invariant-loop-case
invariant-loop-case l = l.all ≡ cases_of l.yielded
