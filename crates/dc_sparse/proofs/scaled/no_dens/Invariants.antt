use Rattle.std.proofs.Common.{◌≡◌, length}
use Rattle.dc_sparse.specs.Scales.{AreFractions}
use Rattle.dc_sparse.proofs.scaled.no_dens.Given as goal

abbrev pub invariant-loop : goal.invariant-loop
invariant-loop l = record { long : length l.dens.items ≡ l.counter; none : AreFractions l.dens.items 0 }
