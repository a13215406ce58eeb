use Rattle.std.proofs.Common.{◌≡◌, ◌++◌, drop}
use Rattle.dc_poly.specs.Sums.{shifted}
use Rattle.dc_poly.proofs.lists.shift.Given as goal

abbrev pub invariant-loop-term : goal.invariant-loop-term
invariant-loop-term l = l.out.items ++ shifted l.factor.mono l.factor.coef (drop l.term-index l.terms) ≡ shifted l.factor.mono l.factor.coef l.terms
