use Rattle.dc_lp.proofs.Duality.{excludes}
use Rattle.dc_lp.proofs.laws.refutation.Goals as goal

pub returns : goal.returns
returns c = excludes
