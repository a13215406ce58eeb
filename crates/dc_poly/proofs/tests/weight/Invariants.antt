use Rattle.std.proofs.Common.{◌≡◌, ◌+◌, drop}
use Rattle.dc_poly.specs.Terms.{weight}
use Rattle.dc_poly.proofs.tests.weight.Given as goal

abbrev pub invariant-loop-term : goal.invariant-loop-term
invariant-loop-term l = l.total + weight (drop l.term-index l.term-items) ≡ weight l.term-items
