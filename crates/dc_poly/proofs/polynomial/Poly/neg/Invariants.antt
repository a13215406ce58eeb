use Rattle.std.proofs.Common.{◌≡◌, ◌++◌, drop}
use Rattle.dc_poly.specs.Sums.{negated}
use Rattle.dc_poly.proofs.polynomial.Poly.neg.Given as goal

abbrev pub invariant-loop-term : goal.invariant-loop-term
invariant-loop-term l = l.terms.items ++ negated (drop l.term-index l.list) ≡ negated l.list
