use Rattle.dc_frac.specs.Value.{value}
use Rattle.dc_lp.proofs.Checking.{at_most}
use Rattle.dc_lp.proofs.check.is_at_most.Goals as goal

pub returns-in-Less : goal.returns-in-Less
returns-in-Less c = at_most (value c.args.x.now) (value c.args.y.now) c.cmp.result c.cmp.ensures c.in-Less.is
