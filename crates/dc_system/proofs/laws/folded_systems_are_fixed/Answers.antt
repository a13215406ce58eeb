use Rattle.dc_system.proofs.OneFold.{one_folded}
use Rattle.dc_system.proofs.EveryFold.{every_folded}
use Rattle.dc_system.proofs.laws.folded_systems_are_fixed.Goals as goal

pub returns-clause-some : goal.returns-clause-some
returns-clause-some c = every_folded

pub returns-clause-one : goal.returns-clause-one
returns-clause-one c = one_folded
