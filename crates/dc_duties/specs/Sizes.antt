-- The monomials of potentials.
use Rattle.std.specs.Prelude.{◌≡◌, ◌≤◌, length}
use Rattle.dc_poly.specs.Terms.{Exponents, degree}
use Rattle.dc_syntax.specs.declared.tree.Side.{Side}
use Rattle.dc_claims.specs.Duties.{Pair, system_of}

-- a monomial of a side's potentials: over its variables, and of degree at most 3
pub record IsCoefficientOf (p : Pair) (side : Side) (m : Exponents) : Type 0 where
  pub long : length m ≡ (system_of p side).vars
  pub low : degree m ≤ 3
