use Rattle.std.proofs.Common.{◌≡◌}
use Rattle.dc_poly.specs.Monomials.{below}
use Rattle.dc_template.proofs.listing.monomials.Given as goal

abbrev pub invariant-loop-d : goal.invariant-loop-d
invariant-loop-d l = l.list.items ≡ below l.vars l.d
