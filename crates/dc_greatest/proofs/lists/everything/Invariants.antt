use Rattle.std.specs.Prelude.{◌≡◌, replicate}
use Rattle.dc_greatest.specs.Bounds.{whole_of}
use Rattle.dc_greatest.proofs.lists.everything.Given as goal

abbrev pub invariant-loop : goal.invariant-loop
invariant-loop l = l.at.items ≡ replicate l.counter (whole_of l.c)
