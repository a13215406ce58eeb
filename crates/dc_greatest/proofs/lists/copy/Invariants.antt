use Rattle.std.specs.Prelude.{◌≡◌, take}
use Rattle.dc_greatest.proofs.lists.copy.Given as goal

abbrev pub invariant-loop-f : goal.invariant-loop-f
invariant-loop-f l = l.copied.items ≡ take l.f-index l.at
