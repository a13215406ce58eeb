use Rattle.std.proofs.Common.{◌∙◌, ap}
use Rattle.dc_poly.specs.Sums.{constant}
use Rattle.dc_system.proofs.RowSteps.{can_times}
use Rattle.dc_system.proofs.rows.plus_times.Goals as goal

pub mul-requires : goal.mul-requires
mul-requires c = can_times c.args.coef.now c.args.sum.now.places _ _ (c.in_ok-factor.ensures ∙ ap (constant c.args.coef.now) c.places.ensures.places) c.requires.coef c.requires.value
