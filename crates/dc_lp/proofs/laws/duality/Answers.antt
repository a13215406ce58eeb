use Rattle.dc_lp.proofs.Duality.{weak, best}
use Rattle.dc_lp.proofs.laws.duality.Goals as goal

pub returns-clause-weak : goal.returns-clause-weak
returns-clause-weak c = weak

pub returns-clause-best : goal.returns-clause-best
returns-clause-best c = best
