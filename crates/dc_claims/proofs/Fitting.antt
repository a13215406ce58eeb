-- The premises of the laws are met: `proc f(n) { }` twice.
use Rattle.std.specs.Prelude.{pos, ◌≤ℤ◌, true, [], ◌∷◌}
use Rattle.std.proofs.Common.{refl, arith}
use Rattle.std.proofs.lemmas.Int.{ints}
use Rattle.dc_system.specs.Shapes.{IsWellFormed}
use Rattle.dc_points.specs.Points.{Point}
use Rattle.dc_points.specs.Shown.{IsFlag}
use Rattle.dc_claims.specs.Duties.{AreRight}
use Rattle.dc_claims.specs.Plans.{IsPlan}
use Rattle.dc_claims.specs.Plans.{IsFit}
use Rattle.dc_claims.proofs.Examples.{idle, idle_pair, all_live}

is_formed : IsWellFormed idle
is_formed = record {
  few_vars = omega arith;
  params_first = omega arith;
  some_location = omega arith;
  few_locations = omega arith;
  few_edges = omega arith;
  ends = tt;
  edges = tt;
  small_literals = tt;
}

is_plan : IsPlan idle ([] ∷ [])
is_plan = record { system = is_formed; one_each = refl; each = (record { few = omega arith; within = tt }, tt) }

idle_fits : IsFit (idle_pair []) 0 1 all_live
idle_fits = record {
  pair = record {
    new = is_plan;
    old = is_plan;
    params = refl;
    cases = record { some = omega arith; few = omega arith; each = (record { few = omega arith; within = tt }, tt) };
  };
  flags = record { new = refl; old = refl; cases = refl };
  degree = omega arith;
  some_products = omega arith;
  few_products = omega arith;
}

one : pos 1 ≤ℤ pos 1
one = omega (arith, ints)

origin : Point
origin = record { numbers = []; denominator = pos 1; positive = one }

always_live : IsFlag true []
always_live = ((λ e dead. dead origin tt), (λ n. refl))

idle_right : AreRight (idle_pair []) all_live
idle_right = record { new_edges = tt; new_exit = always_live; old_edges = tt; old_exit = always_live; cases = (always_live, tt) }
