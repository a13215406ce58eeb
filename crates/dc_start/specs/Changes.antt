-- What must fit where a pivot changes one entry.
use Rattle.std.specs.Prelude.{Bool, ◌&&◌, ◌||◌}
use Rattle.dc_math.specs.Rational.{ℚ, ◌*ℚ◌}
use Rattle.dc_math.specs.Tests.{is_zero}
use Rattle.dc_frac.specs.Fits.{difference_fits, product_fits}

-- where factor times x is taken from y: nothing where x is 0, and else the product and the difference
abbrev pub step_fits : ℚ → ℚ → ℚ → Bool
step_fits factor x y = is_zero x || product_fits factor x && difference_fits y (factor *ℚ x)
