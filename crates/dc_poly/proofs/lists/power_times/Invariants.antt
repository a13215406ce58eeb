use Rattle.std.proofs.Common.{◌≡◌}
use Rattle.dc_poly.specs.Sums.{times_power}
use Rattle.dc_poly.proofs.lists.power_times.Given as goal

abbrev pub invariant-powers : goal.invariant-powers
invariant-powers l = l.power.items ≡ times_power l.value l._k l.fn.list.items
