use Rattle.std.proofs.Common.{◌≡◌, map, take}
use Rattle.dc_affine.specs.Gaps.{signed}
use Rattle.dc_affine.proofs.atom.all_signed.Given as goal

abbrev pub invariant-loop-k : goal.invariant-loop-k
invariant-loop-k l = l.all.items ≡ map (signed l.turned) (take l.k l.numbers)
