use Rattle.std.proofs.Common.{rules}
use Rattle.dc_tableau_trials.proofs.Sizes.{over_pivoted}
use Rattle.dc_tableau_trials.proofs.steps.make_pivot.Goals as goal

pub returns : goal.returns
returns g c = over_pivoted _ _ c.args.rows c.args.columns c.args.row c.args.col c.requires (search rules)
