use Rattle.std.proofs.Common.{◌<◌, drop}
use Rattle.dc_poly.specs.Conditions.{product_weight}
use Rattle.dc_poly.proofs.composition.vanishes.Given as goal

abbrev pub invariant-loop-k : goal.invariant-loop-k
invariant-loop-k l = 0 < product_weight (drop l.k l.exponents) (drop l.k l.values) → 0 < product_weight l.exponents l.values
