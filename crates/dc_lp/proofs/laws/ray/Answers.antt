use Rattle.dc_lp.proofs.Duality.{ray}
use Rattle.dc_lp.proofs.laws.ray.Goals as goal

pub returns : goal.returns
returns c = ray
