use Rattle.std.specs.Prelude.{ℕ, ◌<◌}
use Rattle.dc_frac.specs.Value.{value}
use Rattle.dc_greatest.specs.Bounds.{IsEnough}
use Rattle.dc_greatest.proofs.bounds.first_bound.Given as goal

abbrev pub invariant-loop-k : goal.invariant-loop-k
invariant-loop-k l = (m : ℕ) → m < l.k → ¬ IsEnough l.c (value l.least) l.constant m
