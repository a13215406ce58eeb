use Rattle.std.proofs.Common.{◌≡◌, ◌++◌}
use Rattle.dc_duties.specs.Lists.{coefficients}
use Rattle.dc_duties.proofs.unknowns.push_coefficients.Given as goal

abbrev pub invariant-loop-location : goal.invariant-loop-location
invariant-loop-location l = l.list.items ≡ l.initial.list.items ++ coefficients l.side l.location l.extent.monomials
