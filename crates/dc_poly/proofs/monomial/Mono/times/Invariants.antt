use Rattle.std.proofs.Common.{◌≡◌, ◌++◌, drop, length}
use Rattle.dc_poly.specs.Sums.{times_mono}
use Rattle.dc_poly.proofs.monomial.Mono.times.Given as goal

abbrev pub invariant-loop-i : goal.invariant-loop-i
invariant-loop-i l = record {
  so_far : l.exponents.items ++ times_mono (drop l.i l.a) (drop l.i l.b) ≡ times_mono l.a l.b;
  long : length l.exponents.items ≡ l.i;
}
