use Rattle.std.proofs.Common.{◌≡◌, ◌-◌, length}
use Rattle.dc_poly.specs.Monomials.{monomials_of}
use Rattle.dc_template.proofs.listing.unknowns.Given as goal

abbrev pub invariant-loop-k : goal.invariant-loop-k
invariant-loop-k l = l.count ≡ length (monomials_of l.vars (l.k - 1))
